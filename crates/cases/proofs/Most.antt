-- How much the steps of a cycle allow.
use Rattle.std.proofs.Common.{◌≡◌, ℕ, ◌≤◌, min, List, [], ◌∷◌, arith}
use Rattle.flow.specs.Graphs.{Graph}
use Rattle.flow.specs.Steps.{residual, Allows}
use Rattle.flow.specs.declared.step.Step.{Step}

module _ {W : Type 0} (N : Graph W) (u : ℕ → ℕ) where
  -- the least that a step can take
  abbrev pub least : List Step → ℕ
  least [] = 0
  least (s ∷ []) = residual N u s
  least (s ∷ t ∷ c) = min (residual N u s) (least (t ∷ c))

  allows_less : (c : List Step) (d e : ℕ) → d ≤ e → Allows N u c e → Allows N u c d
  allows_less [] d e h x = tt
  allows_less (s ∷ c) d e h x = (let k = x.0 in omega arith, allows_less c d e h x.1)

  pub least_allows : (c : List Step) → Allows N u c (least c)
  least_allows [] = tt
  least_allows (s ∷ []) = (omega arith, tt)
  least_allows (s ∷ t ∷ c) = (omega arith, allows_less (t ∷ c) (least (s ∷ t ∷ c)) (least (t ∷ c)) (omega arith) (least_allows (t ∷ c)))

  pub allows_least : (s : Step) (c : List Step) (d : ℕ) → Allows N u (s ∷ c) d → d ≤ least (s ∷ c)
  allows_least s [] d x = x.0
  allows_least s (t ∷ c) d x = let a = x.0 in let b = allows_least t c d x.1 in omega arith

  -- as much as all steps allow is the least
  pub most_is : (s : Step) (c : List Step) (d : ℕ) → Allows N u (s ∷ c) d → ((e : ℕ) → Allows N u (s ∷ c) e → e ≤ d) → d ≡ least (s ∷ c)
  most_is s c d a m = omega (arith, m (least (s ∷ c)) (least_allows (s ∷ c)), allows_least s c d a)
