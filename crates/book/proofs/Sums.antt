-- Sums over lists, and over lists whose entries go with something by number.
use Rattle.std.proofs.Common.{◌≡◌, ℕ, suc, ◌+◌, Bool, true, false, eqb, List, [], ◌∷◌, ◌++◌, length, refl, ap, ◌∙◌, ap₂, arith}
use Rattle.std.specs.List.{AllByRecursion}
use Rattle.std.proofs.lemmas.Bool.{eq-eqb, ne_eqb}
use Rattle.flow.specs.Graphs.{when}
use Rattle.book.specs.Rows.{sum_with, map_with}

abbrev pub sum : {X : Type 0} → (X → ℕ) → List X → ℕ
sum f [] = 0
sum f (x ∷ xs) = f x + sum f xs

pub sum_append : {X : Type 0} (f : X → ℕ) (xs ys : List X) → sum f (xs ++ ys) ≡ sum f xs + sum f ys
sum_append f [] ys = omega arith
sum_append f (x ∷ xs) ys = omega (arith, sum_append f xs ys)

pub sum_map_with : {X U Y : Type 0} (g : Y → ℕ) (f : X → U → Y) (xs : List X) (u : ℕ → U) → sum g (map_with f xs u) ≡ sum_with (λ x v. g (f x v)) xs u
sum_map_with g f [] u = refl
sum_map_with g f (x ∷ xs) u = ap (λ t. g (f x (u 0)) + t) (sum_map_with g f xs (λ k. u (suc k)))

pub length_map_with : {X U Y : Type 0} (f : X → U → Y) (xs : List X) (u : ℕ → U) → length (map_with f xs u) ≡ length xs
length_map_with f [] u = refl
length_map_with f (x ∷ xs) u = ap suc (length_map_with f xs (λ k. u (suc k)))

module _ {X U : Type 0} where
  pub sum_zero : (xs : List X) (u : ℕ → U) → sum_with (λ x v. 0) xs u ≡ 0
  sum_zero [] u = refl
  sum_zero (x ∷ xs) u = omega (arith, sum_zero xs (λ k. u (suc k)))

  pub sum_same : (P : X → Type 0) (f g : X → U → ℕ) → ((x : X) (v : U) → P x → f x v ≡ g x v) → (xs : List X) (u : ℕ → U) → AllByRecursion P xs → sum_with f xs u ≡ sum_with g xs u
  sum_same P f g h [] u e = refl
  sum_same P f g h (x ∷ xs) u e = ap₂ ◌+◌ (h x (u 0) e.0) (sum_same P f g h xs (λ k. u (suc k)) e.1)

  pub sum_none : (P : X → Type 0) (f : X → U → ℕ) → ((x : X) (v : U) → P x → f x v ≡ 0) → (xs : List X) (u : ℕ → U) → AllByRecursion P xs → sum_with f xs u ≡ 0
  sum_none P f h xs u e = sum_same P f (λ x v. 0) h xs u e ∙ sum_zero xs u

  pub sum_alike : (f g : X → U → ℕ) → ((x : X) (v : U) → f x v ≡ g x v) → (xs : List X) (u : ℕ → U) → sum_with f xs u ≡ sum_with g xs u
  sum_alike f g h [] u = refl
  sum_alike f g h (x ∷ xs) u = ap₂ ◌+◌ (h x (u 0)) (sum_alike f g h xs (λ k. u (suc k)))

  pub sum_when : (b : Bool) (f : X → U → ℕ) (xs : List X) (u : ℕ → U) → sum_with (λ x v. when b (f x v)) xs u ≡ when b (sum_with f xs u)
  sum_when true f xs u = refl
  sum_when false f xs u = sum_zero xs u

pub when_eq : (a v x : ℕ) → a ≡ v → when (eqb a v) x ≡ x
when_eq a v x e = ap (λ b. when b x) (eq-eqb a v e)

pub when_ne : (a v x : ℕ) → (a ≡ v → ⊥) → when (eqb a v) x ≡ 0
when_ne a v x e = ap (λ b. when b x) (ne_eqb a v e)

pub when_plus : (b : Bool) (x y : ℕ) → when b (x + y) ≡ when b x + when b y
when_plus true x y = refl
when_plus false x y = refl

pub when_zero : (b : Bool) → when b 0 ≡ 0
when_zero true = refl
when_zero false = refl
