-- A network as a list of arcs.
use Rattle.std.specs.Prelude.{◌≡◌, ℕ, ◌<◌, List, length, ℤ, pos, slice_index_or}
use Rattle.worth.specs.Kinds.{Ops}
use Rattle.flow.specs.Graphs.{Graph}
use Rattle.flow.specs.declared.arc.Arc.{Arc}

-- what a list of arcs is read as past its end
abbrev pub blank : Arc
blank = record { from = 0; to = 0; capacity = 0; flow = 0; price = pos 0; weeks = 0 }

-- an arc on which nothing flows
abbrev pub fresh : ℕ → ℕ → ℕ → ℤ → ℕ → Arc
fresh from to capacity price weeks = record { from = from; to = to; capacity = capacity; flow = 0; price = price; weeks = weeks }

-- the arc with flow k in place of its own
abbrev pub with_flow : ℕ → Arc → Arc
with_flow k a = record { from = a.from; to = a.to; capacity = a.capacity; flow = k; price = a.price; weeks = a.weeks }

-- arc i of a list
abbrev pub arc_at : List Arc → ℕ → Arc
arc_at ls i = slice_index_or ls i blank

-- the flow on arc i of a list
abbrev pub flow_of : List Arc → ℕ → ℕ
flow_of ls i = (arc_at ls i).flow

-- two arcs that may differ in their flows, and in nothing else
pub record SameArc (a b : Arc) : Type 0 where
  pub from : a.from ≡ b.from
  pub to : a.to ≡ b.to
  pub capacity : a.capacity ≡ b.capacity
  pub price : a.price ≡ b.price
  pub weeks : a.weeks ≡ b.weeks

-- two lists of arcs that may differ in the flows, and in nothing else
pub record SameArcs (ls ms : List Arc) : Type 0 where
  pub long : length ls ≡ length ms
  pub each : (i : ℕ) → i < length ls → SameArc (arc_at ls i) (arc_at ms i)

-- the network of n nodes with these arcs, at a kind of worth
abbrev pub net : {W : Type 0} → Ops W → ℕ → List Arc → Graph W
net G n ls = record { nodes = n; arcs = length ls; frm = λ i. (arc_at ls i).from; to = λ i. (arc_at ls i).to; capacity = λ i. (arc_at ls i).capacity; unit = λ i. G.unit (arc_at ls i).price (arc_at ls i).weeks }
