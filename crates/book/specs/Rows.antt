-- Lists whose entry k goes with u k: sums over them, what holds of each, and lists made of them.
use Rattle.std.specs.Prelude.{ℕ, suc, ◌+◌, List, [], ◌∷◌, ℤ, pos, ◌+ℤ◌}

-- the sum of f over the entries
abbrev pub sum_with : {X U : Type 0} → (X → U → ℕ) → List X → (ℕ → U) → ℕ
sum_with f [] u = 0
sum_with f (x ∷ xs) u = f x (u 0) + sum_with f xs (λ k. u (suc k))

-- the same in integers
abbrev pub total_with : {X U : Type 0} → (X → U → ℤ) → List X → (ℕ → U) → ℤ
total_with f [] u = pos 0
total_with f (x ∷ xs) u = f x (u 0) +ℤ total_with f xs (λ k. u (suc k))

-- P holds of each entry
abbrev pub AllWith : {X U : Type 0} → (X → U → Type 0) → List X → (ℕ → U) → Type 0
AllWith P [] u = Unit {0}
AllWith P (x ∷ xs) u = P x (u 0) × AllWith P xs (λ k. u (suc k))

-- the list of f at each entry
abbrev pub map_with : {X U Y : Type 0} → (X → U → Y) → List X → (ℕ → U) → List Y
map_with f [] u = []
map_with f (x ∷ xs) u = f x (u 0) ∷ map_with f xs (λ k. u (suc k))
