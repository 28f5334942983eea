-- What improve and clear come to on a network, whichever cycles they take and whichever potentials they leave.
use Rattle.std.specs.Prelude.{◌≡◌, ◌≤◌, List, length, Result, Some, None, Option, MatchResult}
use Rattle.worth.specs.Kinds.{Ops}
use Rattle.tables.specs.declared.refusal.Refusal.{Refusal}
use Rattle.network.specs.Networks.{Net}
use Rattle.search.specs.Outcomes.{Improving, Clearing}

module _ {W : Type 0} (o : Ops W) where
  -- with each work table that is long enough improve can come back; and however it does, it is not refused, and P holds of
  -- its answer and the network that it leaves
  pub record Improve (n : Net) (P : Option W → Net → Type 0) : Type 0 where
    pub some : (work : List W) → n.nodes ≤ length work → (t : Net) × (work' : List W) × (r : Result (Option W) Refusal) × Improving o n t work work' r
    pub every : (t : Net) (work work' : List W) (r : Result (Option W) Refusal) → n.nodes ≤ length work → Improving o n t work work' r → MatchResult r (λ a. P a t) (λ _. ⊥)

  -- improve answers best
  abbrev pub Best : Net → Type 0
  Best n = Improve n (λ a t. a ≡ None)

  -- improve rises by w, and then answers best
  abbrev pub RisesOnce : W → Net → Type 0
  RisesOnce w n = Improve n (λ a t. (a ≡ Some w) × Best t)

  -- with each work table that is long enough clear can come back; and however it does, it is not refused, and P holds of the
  -- sum that it answers and the network that it leaves
  pub record Clear (n : Net) (P : W → Net → Type 0) : Type 0 where
    pub some : (work : List W) → n.nodes ≤ length work → (t : Net) × (work' : List W) × (r : Result W Refusal) × Clearing o n t work work' r
    pub every : (t : Net) (work work' : List W) (r : Result W Refusal) → n.nodes ≤ length work → Clearing o n t work work' r → MatchResult r (λ sum. P sum t) (λ _. ⊥)

  -- clear rises by w
  abbrev pub Clears : W → Net → Type 0
  Clears w n = Clear n (λ sum t. sum ≡ w)

  -- P holds of the network that one improve leaves, and of the one that clear leaves
  pub record Leaves (P : Net → Type 0) (n : Net) : Type 0 where
    pub improve : Improve n (λ a t. P t)
    pub clear : Clear n (λ sum t. P t)
