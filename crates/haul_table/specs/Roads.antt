-- The haul table as a network, and what road does to it.
use Rattle.std.specs.Prelude.{◌≡◌, ℕ, ◌<◌, ◌≤◌, ◌⊎◌, List, [], ◌∷◌, ◌++◌, length, pos, negsuc, ◌<ℤ◌, Result, MatchResult}
use Rattle.tables.specs.declared.refusal.Refusal.{Refusal}
use Rattle.tables.specs.Refusals.{Row, when, First, refusal}
use Rattle.flow.specs.declared.arc.Arc.{Arc}
use Rattle.flow.specs.Arcs.{SameArcs}
use Rattle.network.specs.Networks.{Net}
use Rattle.haul_table.specs.declared.table.HaulTable.{HaulTable}

-- 64 nodes and the arcs in the order of their numbers
abbrev pub hauled : {W : Type 0} → HaulTable W → Net
hauled t = record { nodes = 64; arcs = t.arcs }

-- a table as it is made
abbrev pub empty : Net
empty = record { nodes = 64; arcs = [] }

-- the network with one more arc, the last
abbrev pub with_arc : Net → Arc → Net
with_arc n a = record { nodes = n.nodes; arcs = n.arcs ++ (a ∷ []) }

-- when an arc may not join `count` others between so many nodes, and with which number it is refused
abbrev pub road_rows : ℕ → ℕ → Arc → List Row
road_rows nodes count a =
    when 1 ((nodes ≤ a.from) ⊎ (nodes ≤ a.to))
    ∷ when 2 (256 ≤ count)
    ∷ when 3 ((1000 < a.capacity) ⊎ (1 < a.weeks))
    ∷ when 4 ((a.price <ℤ negsuc 999999) ⊎ (pos 1000000 <ℤ a.price))
    ∷ []

-- one more arc, whose number is the count of those before it; refused, nothing changes
pub record Roaded (before after : Net) (a : Arc) (r : Result ℕ Refusal) : Type 0 where
  pub refused : First (road_rows before.nodes (length before.arcs) a) (refusal r)
  pub outcome : MatchResult r (λ number. (number ≡ length before.arcs) × (after ≡ with_arc before a)) (λ _. after ≡ before)

-- the same but for flows
pub record Alike {W : Type 0} (x y : HaulTable W) : Type 0 where
  pub arcs : SameArcs x.arcs y.arcs
