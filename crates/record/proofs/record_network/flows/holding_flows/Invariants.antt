use Rattle.std.proofs.Common.{◌≡◌, map, take}
use Rattle.reading.specs.Contents.{contents}
use Rattle.record.specs.Flows.{given_from}
use Rattle.record.proofs.record_network.flows.holding_flows.Given as goal

abbrev pub invariant-loop-h : goal.invariant-loop-h
invariant-loop-h l = l.flows ≡ map (given_from (contents l.record)) (take l.h-index (contents l.record).holdings)
