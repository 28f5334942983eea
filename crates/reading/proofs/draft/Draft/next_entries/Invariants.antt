use Rattle.reading.proofs.Gains.{Gained}
use Rattle.reading.proofs.draft.Draft.next_entries.Given as goal

abbrev pub invariant-loop : goal.invariant-loop
invariant-loop l = Gained l.entry l.counter l.initial.self l.self
