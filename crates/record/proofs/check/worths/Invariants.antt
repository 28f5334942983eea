use Rattle.std.proofs.Common.{◌≡◌, map, take}
use Rattle.record.proofs.check.worths.Given as goal

abbrev pub invariant-loop-level : goal.invariant-loop-level
invariant-loop-level g l = l.worths ≡ map g.W.Levelled.worth (take l.level-index l.levels)
