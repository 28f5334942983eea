use Rattle.std.proofs.Common.{◌≡◌, ◌++◌}
use Rattle.std.specs.List.{flat_map}
use Rattle.reading.specs.Contents.{contents}
use Rattle.record.specs.Filled.{left}
use Rattle.record.specs.Flows.{flow_row, flows_of}
use Rattle.record.proofs.record_network.flows.flows_of.Given as goal

abbrev pub invariant-loop-offer : goal.invariant-loop-offer
invariant-loop-offer l = l.flows ++ flat_map flow_row (left l.offer-iterator) ≡ flows_of (contents l.record)
