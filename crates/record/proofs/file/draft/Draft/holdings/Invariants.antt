use Rattle.std.proofs.Common.{map, take}
use Rattle.layout.specs.Layout.{holding, spell}
use Rattle.record.specs.Writing.{Adds}
use Rattle.record.proofs.file.draft.Draft.holdings.Given as goal

abbrev pub invariant-loop-h : goal.invariant-loop-h
invariant-loop-h l = Adds l.initial.self.text l.self.text (map (spell holding) (take l.h-index l.holdings))
