use Rattle.std.proofs.Common.{rules}
use Rattle.std.proofs.lemmas.Result.{err_from_is_err_and}
use Rattle.tables.specs.declared.refusal.Refusal.TheVariants.{Layout}
use Rattle.layout.specs.Layout.{word}
use Rattle.reading.specs.Reading.{SameTested}
use Rattle.reading.proofs.Named.{IsName, referred, word_judged}
use Rattle.reading.proofs.Steps.{missed, judged}
use Rattle.reading.proofs.kinds.next_word.Goals as goal

pub returns-in_err-next_name : goal.returns-in_err-next_name
returns-in_err-next_name c x =
    let p = err_from_is_err_and c.from_residual.result c.from_residual.ensures.1 in
    let w = c.args.word.now in
    rw (p.1, p.2) (missed (word w) x IsName c.in_err-next_name.ensures (λ _ _. referred c.args.reader.now.rest w))

pub returns : goal.returns
returns c x =
    let n = c.in_ok-next_name.ensures in
    let t = c.test.ensures in
    let h : SameTested c.in_ok-next_name.field-0.said.now c.args.word.now Layout t.0 = search rules in
    judged (word c.args.word.now) x IsName (λ _. tt) n.1 _ n.0 t.0 (word_judged c.args.word.now x _ t.0 h) _ t.2
