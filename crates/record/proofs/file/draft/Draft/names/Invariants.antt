use Rattle.std.proofs.Common.{map, take}
use Rattle.record.specs.Writing.{Adds}
use Rattle.record.proofs.file.draft.Draft.names.Given as goal

abbrev pub invariant-loop-name : goal.invariant-loop-name
invariant-loop-name l = Adds l.initial.self.text l.self.text (map (λ s. s) (take l.name-index l.names))
