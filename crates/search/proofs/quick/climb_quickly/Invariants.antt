use Rattle.search.proofs.Quickly.{Running}
use Rattle.search.proofs.quick.climb_quickly.Given as goal

abbrev pub invariant-loop : goal.invariant-loop
invariant-loop g l = Running g.N.W.Worth.ops (g.N.Network.net l.fn.net) (g.N.Network.net l.net) l.table l.potentials l.links l.ups l.sum l.first l.counter × g.N.Improvable.alike l.fn.net l.net
