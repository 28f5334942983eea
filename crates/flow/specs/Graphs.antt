-- Networks in the abstract: circulations, their worth, and potentials that fit. Flows are a function from an arc's number.
use Rattle.std.specs.Prelude.{◌≡◌, ℕ, zero, suc, ◌+◌, ◌<◌, ◌≤◌, Bool, cond, ◌==◌}
use Rattle.worth.specs.Kinds.{Ops}
use Rattle.flow.specs.Groups.{times, Le, total}

-- a network without its flows: how many nodes and arcs, and of each arc its ends, its capacity and what a unit on it is worth
pub record Graph (W : Type 0) : Type 0 where
  pub nodes : ℕ
  pub arcs : ℕ
  pub frm : ℕ → ℕ
  pub to : ℕ → ℕ
  pub capacity : ℕ → ℕ
  pub unit : ℕ → W

-- both ends of each arc are among the nodes
pub record Sound {W : Type 0} (N : Graph W) : Type 0 where
  pub frm_in : (i : ℕ) → i < N.arcs → N.frm i < N.nodes
  pub to_in : (i : ℕ) → i < N.arcs → N.to i < N.nodes

-- f 0 + .. + f (n - 1)
abbrev pub sum_n : ℕ → (ℕ → ℕ) → ℕ
sum_n zero f = 0
sum_n (suc n) f = sum_n n f + f n

-- n if b holds, else 0
abbrev pub when : Bool → ℕ → ℕ
when b n = cond b n 0

module _ {W : Type 0} (N : Graph W) where
  -- the flow into node v
  unfoldable pub coming : (ℕ → ℕ) → ℕ → ℕ
  coming y v = sum_n N.arcs (λ i. when (N.to i == v) (y i))

  -- the flow out of node v
  unfoldable pub going : (ℕ → ℕ) → ℕ → ℕ
  going y v = sum_n N.arcs (λ i. when (N.frm i == v) (y i))

  -- at each node as much comes in as goes out
  abbrev pub Circulation : (ℕ → ℕ) → Type 0
  Circulation y = (v : ℕ) → v < N.nodes → coming y v ≡ going y v

  -- no flow exceeds its arc's capacity
  abbrev pub Within : (ℕ → ℕ) → Type 0
  Within y = (i : ℕ) → i < N.arcs → y i ≤ N.capacity i

module _ {W : Type 0} (G : Ops W) (N : Graph W) where
  -- each arc's unit worth taken flow times, summed
  abbrev pub worth : (ℕ → ℕ) → W
  worth y = total G N.arcs (λ i. times G (y i) (N.unit i))

  -- the potentials L fit the flows u: on each arc L(from) + unit worth is at most L(to) where capacity is left,
  -- and at least L(to) where something flows
  abbrev pub Fits : (ℕ → W) → (ℕ → ℕ) → Type 0
  Fits L u = (i : ℕ) → i < N.arcs → (u i < N.capacity i → Le G (G.plus (L (N.frm i)) (N.unit i)) (L (N.to i))) × (0 < u i → Le G (L (N.to i)) (G.plus (L (N.frm i)) (N.unit i)))
