use Rattle.std.proofs.Common.{◌≡◌}
use Rattle.search.proofs.Pushing.{Pushing}
use Rattle.search.proofs.shift.shift.Given as goal

abbrev pub invariant-loop-step : goal.invariant-loop-step
invariant-loop-step g l = Pushing g.N.W.Worth.ops (g.N.Network.net l.fn.net) l.steps l.measure.amount l.step-index (g.N.Network.net l.net) × (l.table ≡ (g.N.Network.net l.net).arcs) × g.N.Improvable.alike l.fn.net l.net
