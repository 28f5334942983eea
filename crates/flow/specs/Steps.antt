-- Residual steps, walks and cycles of them, and flow shifted along one.
use Rattle.std.specs.Prelude.{◌≡◌, ℕ, ◌+◌, ◌-◌, ◌*◌, ◌<◌, ◌≤◌, List, [], ◌∷◌, ◌==◌, ◌≢◌}
use Rattle.std.specs.List.{AllByRecursion}
use Rattle.worth.specs.Kinds.{Ops}
use Rattle.flow.specs.Groups.{Lt}
use Rattle.flow.specs.Graphs.{Graph, when}
use Rattle.flow.specs.declared.step.Step.{Step}
use Rattle.flow.specs.declared.step.Step.TheVariants.{Forward, Backward}

-- the arc of a step
abbrev pub arc : Step → ℕ
arc (Forward i) = i
arc (Backward i) = i

-- f at the arc of a forward step, g at the arc of a backward one
abbrev pub either_way : {A : Type 0} → (ℕ → A) → (ℕ → A) → Step → A
either_way f g (Forward i) = f i
either_way f g (Backward i) = g i

-- a is not in the list
abbrev pub Fresh : ℕ → List ℕ → Type 0
Fresh a [] = Unit {0}
Fresh a (x ∷ xs) = (a ≢ x) × Fresh a xs

-- no number stands twice in the list
abbrev pub Apart : List ℕ → Type 0
Apart [] = Unit {0}
Apart (x ∷ xs) = Fresh x xs × Apart xs

module _ {W : Type 0} (N : Graph W) where
  -- the node that a step starts from
  abbrev pub start : Step → ℕ
  start s = either_way N.frm N.to s

  -- the node that a step leads to
  abbrev pub stop : Step → ℕ
  stop s = either_way N.to N.frm s

  -- how much a step can take at the flows u: forward the capacity that is left, backward what flows
  abbrev pub residual : (ℕ → ℕ) → Step → ℕ
  residual u s = either_way (λ i. N.capacity i - u i) u s

  -- a residual step at the flows u: an arc of the network, and something that it can take
  abbrev pub Open : (ℕ → ℕ) → Step → Type 0
  Open u s = (arc s < N.arcs) × (0 < residual u s)

  -- residual steps in a row, from node a to node b
  abbrev pub Walk : (ℕ → ℕ) → ℕ → List Step → ℕ → Type 0
  Walk u a [] b = a ≡ b
  Walk u a (s ∷ p) b = (start s ≡ a) × Open u s × Walk u (stop s) p b

  -- the nodes that steps start from
  abbrev pub starts : List Step → List ℕ
  starts [] = []
  starts (s ∷ p) = start s ∷ starts p

module _ {W : Type 0} (G : Ops W) (N : Graph W) where
  -- a step's worth: the arc's unit worth, negated backward
  abbrev pub step_worth : Step → W
  step_worth s = either_way N.unit (λ i. G.neg (N.unit i)) s

  -- the worths of steps added up: what one unit along them gains
  abbrev pub gain : List Step → W
  gain [] = G.none
  gain (s ∷ p) = G.plus (step_worth s) (gain p)

  -- a cycle worth more than none: residual steps from a node back to it that visit no node twice
  pub record Gainful (u : ℕ → ℕ) (c : List Step) : Type 0 where
    pub node : ℕ
    pub closed : Walk N u node c node
    pub apart : Apart (starts N c)
    pub gains : Lt G G.none (gain c)

-- how often steps follow arc i forward
abbrev pub fore : List Step → ℕ → ℕ
fore [] i = 0
fore (Forward j ∷ c) i = when (j == i) 1 + fore c i
fore (Backward j ∷ c) i = fore c i

-- how often steps follow arc i backward
abbrev pub rear : List Step → ℕ → ℕ
rear [] i = 0
rear (Forward j ∷ c) i = rear c i
rear (Backward j ∷ c) i = when (j == i) 1 + rear c i

module _ {W : Type 0} (N : Graph W) where
  -- u' is u with d more on an arc for each forward step along it, and d less for each backward one
  abbrev pub Shifted : (ℕ → ℕ) → List Step → ℕ → (ℕ → ℕ) → Type 0
  Shifted u c d u' = (i : ℕ) → i < N.arcs → u' i + d * rear c i ≡ u i + d * fore c i

  -- each step can take d
  abbrev pub Allows : (ℕ → ℕ) → List Step → ℕ → Type 0
  Allows u c d = AllByRecursion (λ s. d ≤ residual N u s) c
