use Rattle.std.proofs.Common.{refl, rules}
use Rattle.std.proofs.lemmas.Result.{err_from_is_err_and}
use Rattle.text.specs.declared.section.Section.TheVariants.{Kinds}
use Rattle.layout.specs.Layout.{head}
use Rattle.layout.specs.Records.{parts}
use Rattle.reading.specs.Kinds.{kind as kind_as, WithParts}
use Rattle.reading.specs.Reading.{IsHead}
use Rattle.reading.proofs.Steps.{missed, judged}
use Rattle.reading.proofs.Worded.{kind_judged}
use Rattle.reading.proofs.kinds.next_kind.Goals as goal

pub returns-in_err-next_head : goal.returns-in_err-next_head
returns-in_err-next_head c x =
    let p = err_from_is_err_and c.from_residual.result c.from_residual.ensures.1 in
    rw (p.1, p.2) (missed (head Kinds) x (IsHead Kinds) c.in_err-next_head.ensures (λ n fits. (n, (refl, fits.1.0))))

pub returns : goal.returns
returns c x =
    let n = c.in_ok-next_head.ensures in
    let t = c.test.ensures in
    let h : WithParts c.in_ok-next_head.field-0.said t.0 = search rules in
    judged (head Kinds) x (IsHead Kinds) (λ k. parts (kind_as k)) n.1 _ n.0 t.0 (kind_judged x _ t.0 h) _ t.2
