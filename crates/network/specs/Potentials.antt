-- Potentials that show a network's flows to be best.
use Rattle.std.specs.Prelude.{ℕ, ◌<◌, ◌≤◌, List, length, slice_index_or}
use Rattle.worth.specs.Kinds.{Ops}
use Rattle.flow.specs.Groups.{Le}
use Rattle.flow.specs.Graphs.{Fits}
use Rattle.flow.specs.declared.arc.Arc.{Arc}
use Rattle.network.specs.Networks.{Net, flow_in, graph}

module _ {W : Type 0} (o : Ops W) where
  -- the potential of node v in a row of worths
  abbrev pub potential : List W → ℕ → W
  potential row v = slice_index_or row v o.none

  -- potentials x and y at the two ends of an arc fit: x with the unit worth is at most y where capacity is left,
  -- and at least y where something flows
  abbrev pub FitsArc : Arc → W → W → Type 0
  FitsArc a x y =
      let up : W = o.plus x (o.unit a.price a.weeks) in
      (a.flow < a.capacity → Le o up y) × (0 < a.flow → Le o y up)

  -- the potentials of a row at the ends of an arc fit
  abbrev pub FitsOn : List W → Arc → Type 0
  FitsOn row a = FitsArc a (potential row a.from) (potential row a.to)

  -- a row of potentials that fit: one for each node, each of size at most 1,000,000
  pub record Fitted (n : Net) (row : List W) : Type 0 where
    pub enough : n.nodes ≤ length row
    pub fits : Fits o (graph o n) (potential row) (flow_in n)
    pub small : (v : ℕ) → v < n.nodes → o.size (potential row v) ≤ 1000000
