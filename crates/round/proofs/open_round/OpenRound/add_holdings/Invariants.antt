use Rattle.std.proofs.Common.{◌≡◌, ◌++◌, take}
use Rattle.book.specs.Arcs.{holding_arcs, no_flows}
use Rattle.round.proofs.open_round.OpenRound.add_holdings.Given as goal

abbrev pub invariant-loop-k : goal.invariant-loop-k
invariant-loop-k l = l.arcs ≡ l.initial.arcs ++ holding_arcs l.items (take l.k l.h-items) no_flows.held
