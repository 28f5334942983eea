-- When a circulation is best: the theorems on which the search rests.
use Rattle.std.specs.Prelude.{◌≡◌, ℕ, ◌<◌, ◌≤◌, List}
use Rattle.worth.specs.Kinds.{Ops}
use Rattle.flow.specs.Groups.{Le, times}
use Rattle.flow.specs.Graphs.{Graph, Sound, Circulation, Within, worth, Fits}
use Rattle.flow.specs.Steps.{Walk, Apart, starts, gain, Shifted, Allows}
use Rattle.flow.specs.declared.step.Step.{Step}

-- every circulation within the capacities is worth at most as much as the flows x
abbrev pub Best : {W : Type 0} → Ops W → Graph W → (ℕ → ℕ) → Type 0
Best G N x = (y : ℕ → ℕ) → Circulation N y → Within N y → Le G (worth G N y) (worth G N x)

-- a circulation that potentials fit is best
abbrev pub Sufficient : {W : Type 0} → Ops W → Type 0
Sufficient {W} G = (N : Graph W) (L : ℕ → W) (x : ℕ → ℕ) → Sound N → Circulation N x → Fits G N L x → Best G N x

-- potentials that fit the flows x, each of size at most the number of nodes
pub record Potentials {W : Type 0} (G : Ops W) (N : Graph W) (x : ℕ → ℕ) : Type 0 where
  pub at : ℕ → W
  pub fits : Fits G N at x
  pub small : (v : ℕ) → v < N.nodes → G.size (at v) ≤ N.nodes

-- a best circulation within the capacities has such potentials, where no unit's worth has a size above 1
abbrev pub Necessary : {W : Type 0} → Ops W → Type 0
Necessary {W} G = (N : Graph W) (x : ℕ → ℕ) → Sound N → ((i : ℕ) → i < N.arcs → G.size (N.unit i) ≤ 1) → Circulation N x → Within N x → Best G N x → Potentials G N x

-- the flows u' after a shift of d along the cycle c are a circulation within the capacities,
-- worth more than the flows u before by d times the cycle's gain
pub record AfterShift {W : Type 0} (G : Ops W) (N : Graph W) (u : ℕ → ℕ) (c : List Step) (d : ℕ) (u' : ℕ → ℕ) : Type 0 where
  pub circulation : Circulation N u'
  pub within : Within N u'
  pub rises : worth G N u' ≡ G.plus (worth G N u) (times G d (gain G N c))

-- flow can be shifted along a cycle by any amount that all its steps allow, and comes to that
abbrev pub Shifting : {W : Type 0} → Ops W → Type 0
Shifting {W} G =
    (N : Graph W) (u : ℕ → ℕ) (a : ℕ) (c : List Step) (d : ℕ) → Circulation N u → Within N u → Walk N u a c a → Apart (starts N c) → Allows N u c d → ((u' : ℕ → ℕ) × Shifted N u c d u') × ((u' : ℕ → ℕ) → Shifted N u c d u' → AfterShift G N u c d u')
