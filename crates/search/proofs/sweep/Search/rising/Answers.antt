use Rattle.std.proofs.Common.{sym, ap, ◌∙◌, arith}
use Rattle.flow.specs.Groups.{kind}
use Rattle.search.proofs.Along.{backward_rises, neither_rises}
use Rattle.search.proofs.sweep.Search.rising.Goals as goal
use Rattle.search.proofs.sweep.Search.rising.Goals.{else-arc-via-then-arc+else-is_less, else-arc-via-else-arc, else-arc-gt0-via-then-arc-gt0+else-is_less-2, else-arc-gt0-via-else-arc-gt0}

pub returns-then-is_less-2 : goal.returns-then-is_less-2
returns-then-is_less-2 g c = backward_rises (kind g.W.Worth.ops g.met.W.Worth.lawful) c.requires.growing c.args.i c.requires.known (ap (λ z. z.from) c.arc-arc.ensures) (ap (λ z. z.to) c.arc-arc.ensures) _ _ c.gain-unit.ensures c.plus-up.ensures (rw (sym c.arc-arc.ensures) c.if-arc-gt0.true) (sym c.is_less-then-arc-gt0.ensures ∙ c.if-is_less-2.true) c.minus.ensures

pub returns : goal.returns
returns g c = neither_rises (kind g.W.Worth.ops g.met.W.Worth.lawful) c.requires.growing c.args.i c.requires.known (ap (λ z. z.from) c.arc-arc.ensures) (ap (λ z. z.to) c.arc-arc.ensures) _ _ c.gain-unit.ensures c.plus-up.ensures
    (λ h. elim c.else-arc.branch [
      | else-arc-via-then-arc+else-is_less w ↦ sym w.is_less.ensures ∙ w.if-is_less.false
      | else-arc-via-else-arc w ↦ absurd (omega (arith, ap (λ z. z.flow) c.arc-arc.ensures, ap (λ z. z.capacity) c.arc-arc.ensures))
    ])
    (λ h. elim c.else-arc-gt0.branch [
      | else-arc-gt0-via-then-arc-gt0+else-is_less-2 w ↦ sym w.is_less-then-arc-gt0.ensures ∙ w.if-is_less-2.false
      | else-arc-gt0-via-else-arc-gt0 w ↦ absurd (omega (arith, ap (λ z. z.flow) c.arc-arc.ensures))
    ])
