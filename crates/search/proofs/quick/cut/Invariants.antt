use Rattle.search.specs.Links.{Paired}
use Rattle.search.proofs.Quickly.{Cutting}
use Rattle.search.proofs.quick.cut.Given as goal

abbrev pub invariant-loop-step : goal.invariant-loop-step
invariant-loop-step l = Cutting l.net.arcs.now l.steps l.fn.links l.links l.step-index × Paired l.net.arcs.now l.links l.ups
