-- The law over uses: what holds of a network after any calls of improve and clear, from zero flows on.
use Rattle.std.specs.Prelude.{◌≡◌, ℕ, ◌↔◌, List, Ok, Err, Result, None, Option, Some}
use Rattle.worth.specs.Kinds.{Ops}
use Rattle.flow.specs.Graphs.{Circulation, Within}
use Rattle.flow.specs.Optimality as optimality
use Rattle.tables.specs.declared.refusal.Refusal.{Refusal}
use Rattle.network.specs.Networks.{Net, Sound, flow_in, graph, value}
use Rattle.search.specs.Outcomes.{Improving, Clearing}

module _ {W : Type 0} (o : Ops W) where
  -- what a call of improve adds to the sum of the rises
  abbrev pub risen : Result (Option W) Refusal → W
  risen (Ok (Some rise)) = rise
  risen (Ok None) = o.none
  risen (Err e) = o.none

  -- what a call of clear adds to the sum of the rises
  abbrev pub summed : Result W Refusal → W
  summed (Ok sum) = sum
  summed (Err e) = o.none

  -- every circulation within the capacities is worth at most as much as the network's flows
  abbrev pub Unbeaten : Net → Type 0
  Unbeaten n = optimality.Best o (graph o n) (flow_in n)

-- a use: from zero flows any calls of improve and clear, refused ones too, with the sum of their rises
pub data Use {W : Type 0} (o : Ops W) : Net → W → Type 0 where
  begun : {n : Net} → Sound n → ((i : ℕ) → flow_in n i ≡ 0) → Use o n o.none
  improved : {s : Net} {sum : W} (t : Net) (work work' : List W) (r : Result (Option W) Refusal) → Use o s sum → Improving o s t work work' r → Use o t (o.plus sum (risen o r))
  cleared : {s : Net} {sum : W} (t : Net) (work work' : List W) (r : Result W Refusal) → Use o s sum → Clearing o s t work work' r → Use o t (o.plus sum (summed o r))

module _ {W : Type 0} (o : Ops W) where
  -- the flows are a circulation within the capacities, worth the sum of the rises; the next improve, unless refused,
  -- answers best exactly where the flows are unbeaten, and the next clear, unless refused, ends unbeaten
  pub record Standing (n : Net) (sum : W) : Type 0 where
    pub sound : Sound n
    pub circulation : Circulation (graph o n) (flow_in n)
    pub within : Within (graph o n) (flow_in n)
    pub worth : value o n ≡ sum
    pub best : (t : Net) (work work' : List W) (r : Option W) → Improving o n t work work' (Ok r) → (r ≡ None) ↔ Unbeaten o n
    pub ends : (t : Net) (work work' : List W) (sum' : W) → Clearing o n t work work' (Ok sum') → Unbeaten o t

  -- wherever a use stops, that stands
  abbrev pub Law : Type 0
  Law = (n : Net) (sum : W) → Use o n sum → Standing n sum
