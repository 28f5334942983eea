use Rattle.std.proofs.Common.{codes, rules}
use Rattle.std.proofs.lemmas.Result.{err_from_is_err_and}
use Rattle.tables.specs.declared.refusal.Refusal.TheVariants.{Spelling}
use Rattle.layout.specs.Layout.{item}
use Rattle.reading.specs.Reading.{SameTested}
use Rattle.reading.proofs.Named.{IsName, referred, cash_judged}
use Rattle.reading.proofs.Steps.{missed, judged}
use Rattle.reading.proofs.draft.beginning.next_cash.Goals as goal

pub returns-in_err-next_name : goal.returns-in_err-next_name
returns-in_err-next_name c x none =
    let p = err_from_is_err_and c.from_residual.result c.from_residual.ensures.1 in
    rw (p.1, p.2) (missed item x IsName c.in_err-next_name.ensures (λ name _. referred c.args.reader.now.rest name))

pub returns : goal.returns
returns c x none =
    let n = c.in_ok-next_name.ensures in
    let t = c.test.ensures in
    let h : SameTested c.in_ok-next_name.field-0.said.now (codes "cash") Spelling t.0 = search rules in
    judged item x IsName (λ _. codes "cash") n.1 _ n.0 t.0 (cash_judged x none _ t.0 h) _ t.2
