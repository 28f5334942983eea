use Rattle.search.proofs.Raising.{SweptTo}
use Rattle.search.proofs.sweep.Search.pass.Given as goal

abbrev pub invariant-loop-i : goal.invariant-loop-i
invariant-loop-i g l = SweptTo g.W.Worth.ops l.initial.self l.self l.moved l.fn.first l.i
