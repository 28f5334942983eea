use Rattle.network.specs.Networks.{graph, value}
use Rattle.search.proofs.Beaten.{beats}
use Rattle.search.proofs.Clearing.{UnderWay}
use Rattle.search.proofs.clear.clear.Given as goal

abbrev pub invariant-loop-rise : goal.invariant-loop-rise
invariant-loop-rise g l = UnderWay g.N.W.Worth.ops (g.N.Network.net l.fn.net) (g.N.Network.net l.net) l.fn.work l.work l.sum × g.N.Improvable.alike l.fn.net l.net

abbrev pub decreases-loop-rise : goal.decreases-loop-rise
decreases-loop-rise g l = beats g.N.W.Worth.ops (graph g.N.W.Worth.ops (g.N.Network.net l.net)) (value g.N.W.Worth.ops (g.N.Network.net l.net))
