-- Flows that form a circulation.
use Rattle.std.specs.Prelude.{ℕ}
use Rattle.worth.specs.Money.{money}
use Rattle.flow.specs.Graphs.{coming, going, Circulation}
use Rattle.network.specs.declared.circulation.Throughput.{Throughput}
use Rattle.network.specs.Networks.{Net, flow_in, graph}

-- at each node as much comes in as goes out; worths play no part in it, so the graph is that by money
abbrev pub Circulates : Net → Type 0
Circulates n = Circulation (graph money n) (flow_in n)

-- a node that nothing flows through
abbrev pub idle : Throughput
idle = record { inflow = 0; outflow = 0 }

-- what flows through node v
abbrev pub through : Net → ℕ → Throughput
through n v = record { inflow = coming (graph money n) (flow_in n) v; outflow = going (graph money n) (flow_in n) v }
