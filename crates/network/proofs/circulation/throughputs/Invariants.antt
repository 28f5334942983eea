use Rattle.network.proofs.Reading.{Walk}
use Rattle.network.proofs.Circulations.{Counted}
use Rattle.std.proofs.Common.{length}
use Rattle.network.proofs.circulation.throughputs.Given as goal

abbrev pub invariant-loop-arc : goal.invariant-loop-arc
invariant-loop-arc g l = record {
  walk : Walk (g.N.Network.net l.net) l.yielded l.arc-iterator;
  counted : Counted (g.N.Network.net l.net) (length l.yielded) l.rows;
}
