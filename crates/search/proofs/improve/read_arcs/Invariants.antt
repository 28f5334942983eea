use Rattle.std.proofs.Common.{◌≡◌}
use Rattle.network.proofs.Reading.{Walk}
use Rattle.search.proofs.improve.read_arcs.Given as goal

abbrev pub invariant-loop-arc : goal.invariant-loop-arc
invariant-loop-arc g l = record {
  walk : Walk (g.N.Network.net l.net) l.yielded l.arc-iterator;
  read : l.table ≡ l.yielded;
}
