use Rattle.flow.specs.Groups.{kind}
use Rattle.search.proofs.Raising.{SearchedTo}
use Rattle.search.proofs.sweep.Search.find_cycle.Given as goal

abbrev pub invariant-loop : goal.invariant-loop
invariant-loop g l = SearchedTo (kind g.W.Worth.ops g.met.W.Worth.lawful) l.initial.self l.self l.counter
