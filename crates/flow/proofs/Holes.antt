-- More entries than values: some entry stands twice.
use Rattle.std.proofs.Common.{◌≡◌, ℕ, zero, suc, ◌<◌, ◌≤◌, Bool, true, false, cond, eqb, List, [], ◌∷◌, length, refl, subst, arith}
use Rattle.std.specs.List.{AllByRecursion}
use Rattle.std.proofs.lemmas.Bool.{eqb-true, eqb-false}
use Rattle.flow.specs.Steps.{Fresh, Apart}

-- xs without n
without : ℕ → List ℕ → List ℕ
without n [] = []
without n (x ∷ xs) = cond (eqb x n) xs (x ∷ without n xs)

without_fresh : (n a : ℕ) (xs : List ℕ) → Fresh a xs → Fresh a (without n xs)
unfolding without
without_fresh n a [] f = tt
without_fresh n a (x ∷ xs) f = go (eqb x n) (without_fresh n a xs f.1)
  where
    go : (b : Bool) → Fresh a (without n xs) → Fresh a (cond b xs (x ∷ without n xs))
    go true r = f.1
    go false r = (f.0, r)

without_apart : (n : ℕ) (xs : List ℕ) → Apart xs → Apart (without n xs)
unfolding without
without_apart n [] f = tt
without_apart n (x ∷ xs) f = go (eqb x n) (without_apart n xs f.1)
  where
    go : (b : Bool) → Apart (without n xs) → Apart (cond b xs (x ∷ without n xs))
    go true r = f.1
    go false r = (without_fresh n x xs f.0, r)

without_length : (n : ℕ) (xs : List ℕ) → length xs ≤ suc (length (without n xs))
unfolding without
without_length n [] = omega arith
without_length n (x ∷ xs) = go (eqb x n) (without_length n xs)
  where
    go : (b : Bool) → length xs ≤ suc (length (without n xs)) → suc (length xs) ≤ suc (length (cond b xs (x ∷ without n xs)))
    go true r = omega arith
    go false r = omega arith

fresh_below : (n : ℕ) (xs : List ℕ) → AllByRecursion (λ x. x < suc n) xs → Fresh n xs → AllByRecursion (λ x. x < n) xs
fresh_below n [] h f = tt
fresh_below n (x ∷ xs) h f = (let a = h.0 in let b = f.0 in below x n a b, fresh_below n xs h.1 f.1)
  where
    below : (x n : ℕ) → x < suc n → (n ≡ x → ⊥) → x < n
    below x n a b = omega arith

without_below : (n : ℕ) (xs : List ℕ) → AllByRecursion (λ x. x < suc n) xs → Apart xs → AllByRecursion (λ x. x < n) (without n xs)
unfolding without
without_below n [] h f = tt
without_below n (x ∷ xs) h f = go (eqb x n) refl (without_below n xs h.1 f.1)
  where
    go : (b : Bool) → eqb x n ≡ b → AllByRecursion (λ x. x < n) (without n xs) → AllByRecursion (λ x. x < n) (cond b xs (x ∷ without n xs))
    go true e r = fresh_below n xs h.1 (subst (λ t. Fresh t xs) (eqb-true x n e) f.0)
    go false e r = (let a = h.0 in let b = eqb-false x n e in omega arith, r)

pub pigeonhole : (n : ℕ) (xs : List ℕ) → AllByRecursion (λ x. x < n) xs → Apart xs → length xs ≤ n
pigeonhole zero [] h f = omega arith
pigeonhole zero (x ∷ xs) h f = let a = h.0 in omega arith
pigeonhole (suc n) xs h f =
    let r = pigeonhole n (without n xs) (without_below n xs h f) (without_apart n xs f) in
    let l = without_length n xs in
    omega arith
