use Rattle.search.proofs.Ways.{Climbing, left}
use Rattle.search.proofs.sweep.Search.passes.Given as goal

abbrev pub invariant-loop-node : goal.invariant-loop-node
invariant-loop-node g l = Climbing l.self.net.arcs.now l.self.links.now l.goal l.from l.node

abbrev pub decreases-loop-node : goal.decreases-loop-node
decreases-loop-node g l = left l.self.net.arcs.now l.self.links.now l.node
