use Rattle.std.proofs.Common.{◌≡◌, take}
use Rattle.round.specs.Closed.{closed_book, closed_net}
use Rattle.record.specs.Flows.{with_flows}
use Rattle.record.proofs.record_network.drawing.fill.Given as goal

abbrev pub invariant-loop-i : goal.invariant-loop-i
invariant-loop-i g l = (closed_net l.round ≡ with_flows (closed_net l.initial.round) (take l.i l.flows)) × (closed_book l.round ≡ closed_book l.initial.round)
