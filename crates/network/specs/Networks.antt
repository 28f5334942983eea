-- What a network is.
use Rattle.std.specs.Prelude.{ℕ, ◌<◌, ◌≤◌, List, length, pos, negsuc, ◌≤ℤ◌, slice_set}
use Rattle.worth.specs.Kinds.{Ops}
use Rattle.flow.specs.declared.arc.Arc.{Arc}
use Rattle.flow.specs.Graphs.{Graph, worth}
use Rattle.flow.specs.Arcs.{arc_at, flow_of, net, with_flow}

-- nodes, numbered from 0, and a list of arcs between them
pub record Net : Type 0 where
  pub nodes : ℕ
  pub arcs : List Arc

-- the bounds of an arc among n nodes: ends among them, a capacity of 0 to 1,000, a flow of 0 to the capacity,
-- a price of -1,000,000 to 1,000,000, and weeks of 0 or 1
pub record SoundArc (n : ℕ) (a : Arc) : Type 0 where
  pub from_in : a.from < n
  pub to_in : a.to < n
  pub small : a.capacity ≤ 1000
  pub held : a.flow ≤ a.capacity
  pub low : negsuc 999999 ≤ℤ a.price
  pub high : a.price ≤ℤ pos 1000000
  pub light : a.weeks ≤ 1

-- the bounds of a network: at most 272 nodes and 448 arcs, each within its own bounds
pub record Sound (n : Net) : Type 0 where
  pub few_nodes : n.nodes ≤ 272
  pub few_arcs : length n.arcs ≤ 448
  pub each : (i : ℕ) → i < length n.arcs → SoundArc n.nodes (arc_at n.arcs i)

-- the flow on each arc
abbrev pub flow_in : Net → ℕ → ℕ
flow_in n = flow_of n.arcs

-- the network with flow k on arc i, and all else as it was
abbrev pub put_flow : Net → ℕ → ℕ → Net
put_flow n i k = record { nodes = n.nodes; arcs = slice_set n.arcs i (with_flow k (arc_at n.arcs i)) }

module _ {W : Type 0} (o : Ops W) where
  -- the network by functions of the arcs' numbers, with the unit worths of one kind and without the flows
  abbrev pub graph : Net → Graph W
  graph n = net o n.nodes n.arcs

  -- each arc's unit worth taken flow times, summed
  abbrev pub value : Net → W
  value n = worth o (graph n) (flow_in n)
