use Rattle.std.proofs.Common.{rules}
use Rattle.std.proofs.lemmas.Result.{err_from_is_err_and}
use Rattle.layout.specs.Layout.{level}
use Rattle.reading.specs.Kinds.{kind as kind_as}
use Rattle.reading.specs.Levels.{numbers, LevelTested}
use Rattle.reading.proofs.LevelLines.{IsLevel, level_from, level_judged}
use Rattle.reading.proofs.Steps.{missed, judged}
use Rattle.reading.proofs.kind.Kind.next_level.Goals as goal

pub returns-in_err-next_numbers-clause-read : goal.returns-in_err-next_numbers-clause-read
returns-in_err-next_numbers-clause-read c x e =
    let p = err_from_is_err_and c.from_residual.result c.from_residual.ensures.1 in
    let k = kind_as c.args.self in
    rw (p.1, p.2) (missed level x (IsLevel k) c.in_err-next_numbers.ensures.read (level_from k x e))

pub returns-clause-read : goal.returns-clause-read
returns-clause-read c x e =
    let k = kind_as c.args.self in
    let n = c.in_ok-next_numbers.ensures.read in
    let t = c.test.ensures in
    let h : LevelTested k c.in_ok-next_numbers.field-0.said t.0 = search rules in
    judged level x (IsLevel k) (numbers k) n.1 _ n.0 t.0 (level_judged k x e _ _ n.1.is t.0 h) _ t.2
