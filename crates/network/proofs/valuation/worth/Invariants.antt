use Rattle.std.proofs.Common.{◌≡◌, length}
use Rattle.network.proofs.Reading.{Walk}
use Rattle.network.proofs.Worths.{value_below}
use Rattle.network.proofs.valuation.worth.Given as goal

abbrev pub invariant-loop-arc : goal.invariant-loop-arc
invariant-loop-arc g l = record {
  walk : Walk (g.N.Network.net l.net) l.yielded l.arc-iterator;
  so_far : l.sum ≡ value_below g.W.Worth.ops (g.N.Network.net l.net) (length l.yielded);
}
