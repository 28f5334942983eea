-- The flows that the units of a record put on the arcs of its network.
use Rattle.std.specs.Prelude.{◌≡◌, ℕ, ◌<◌, ◌≤◌, List, ◌∷◌, ◌++◌, map, length, sum, slice_index}
use Rattle.std.specs.List.{flat_map}
use Rattle.flow.specs.Arcs.{with_flow}
use Rattle.network.specs.Networks.{Net, flow_in}
use Rattle.book.specs.Allotments.{given_by}
use Rattle.book.specs.Rows.{map_with}
use Rattle.book.specs.declared.holding.Holding.{Holding}
use Rattle.book.specs.declared.line.Line.{Line}
use Rattle.layout.specs.Records.{OfferWithUnits, Contents, units_of, book_of, allotted}

-- the flows on an offer's arcs in order: on its give lines, on its own arc all units that it gives, on its get lines
abbrev pub flow_row : OfferWithUnits → List ℕ
flow_row o = map units_of o.give ++ (sum (map units_of o.give) ∷ map units_of o.get)

-- the flow on a holding's arc: all units given from it
abbrev pub given_from : Contents → Holding → ℕ
given_from x h = given_by (book_of x).offers (allotted x) h.member h.item

-- the flows on all arcs in order
abbrev pub flows_of : Contents → List ℕ
flows_of x = map (given_from x) x.holdings ++ flat_map flow_row x.offers

-- units for the lines of a side: one for each, and few and small enough to be summed
pub record Moderate (lines : List Line) (units : List ℕ) : Type 0 where
  pub long : length lines ≡ length units
  pub few : length units ≤ 256
  pub small : (t : ℕ) → slice_index units t ≤ 1000

-- nothing flows
abbrev pub Empty : Net → Type 0
Empty n = (i : ℕ) → i < length n.arcs → flow_in n i ≡ 0

-- the network with these flows in place of its own
abbrev pub with_flows : Net → List ℕ → Net
with_flows n ys = record { nodes = n.nodes; arcs = map_with (λ a y. with_flow y a) n.arcs (λ i. slice_index ys i) }
