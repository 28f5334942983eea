use Rattle.std.proofs.Common.{map, take}
use Rattle.layout.specs.Layout.{level, spell}
use Rattle.reading.specs.Levels.{numbers}
use Rattle.record.specs.Writing.{Adds}
use Rattle.record.proofs.file.draft.Draft.levels.Given as goal

abbrev pub invariant-loop-w : goal.invariant-loop-w
invariant-loop-w g l = Adds l.initial.self.text l.self.text (map (λ w. spell level (numbers g.W.Levelled.sort (g.W.Levelled.level w))) (take l.w-index l.levels))
