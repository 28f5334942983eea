-- What push does.
use Rattle.std.specs.Prelude.{◌≡◌, ℕ, ◌≤◌, ◌⊎◌, List, [], ◌∷◌, length, ℤ, pos, ◌+ℤ◌, ◌<ℤ◌, Result, MatchResult, unsigned_abs}
use Rattle.flow.specs.Arcs.{arc_at}
use Rattle.flow.specs.declared.arc.Arc.{Arc}
use Rattle.tables.specs.declared.refusal.Refusal.{Refusal}
use Rattle.tables.specs.Refusals.{Row, when, First, refusal}
use Rattle.network.specs.Networks.{Net, flow_in, put_flow}

-- the network with `by` more on arc i, or less where `by` is below 0
abbrev pub moved : Net → ℕ → ℤ → Net
moved n i by = put_flow n i (unsigned_abs (pos (flow_in n i) +ℤ by))

-- when a push is refused: no such arc (1), or a flow that would leave 0 to the capacity (15)
abbrev pub push_rows : Net → ℕ → ℤ → List Row
push_rows n i by =
    when 1 (length n.arcs ≤ i)
    ∷ when 15 (((pos (flow_in n i) +ℤ by) <ℤ pos 0) ⊎ (pos (arc_at n.arcs i).capacity <ℤ (pos (flow_in n i) +ℤ by)))
    ∷ []

-- what a push answers and leaves: the flow of that arc moved, or a refusal and nothing changed
pub record Pushed {A : Type 0} (before after : Net) (i : ℕ) (by : ℤ) (r : Result A Refusal) : Type 0 where
  pub refused : First (push_rows before i by) (refusal r)
  pub outcome : MatchResult r (λ _. after ≡ moved before i by) (λ _. after ≡ before)

-- the same of a list of arcs, whatever the number of nodes
abbrev pub ArcsPushed : {A : Type 0} → List Arc → List Arc → ℕ → ℤ → Result A Refusal → Type 0
ArcsPushed before after i by r = (n : ℕ) → Pushed (record { nodes = n; arcs = before }) (record { nodes = n; arcs = after }) i by r
