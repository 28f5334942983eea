-- Sums of numbers and of worths below a bound.
use Rattle.std.proofs.Common.{◌≡◌, ℕ, zero, suc, ◌+◌, ◌<◌, eqb, sym, refl, ap, ◌∙◌, ap₂, ⊎_elim, arith}
use Rattle.std.proofs.lemmas.Bool.{eq-eqb, ne_eqb, cases_eq}
use Rattle.flow.specs.Groups.{Kind, times, Le, total}
use Rattle.flow.specs.Graphs.{sum_n, when}
use Rattle.flow.proofs.Group.{four, unit_right, times_add, le_plus}

pub sum_n_same : (n : ℕ) (f g : ℕ → ℕ) → ((i : ℕ) → i < n → f i ≡ g i) → sum_n n f ≡ sum_n n g
sum_n_same zero f g h = refl
sum_n_same (suc n) f g h = ap₂ ◌+◌ (sum_n_same n f g (λ i l. h i (omega arith))) (h n (omega arith))

pub sum_n_plus : (n : ℕ) (f g : ℕ → ℕ) → sum_n n (λ i. f i + g i) ≡ sum_n n f + sum_n n g
sum_n_plus zero f g = refl
sum_n_plus (suc n) f g = omega (arith, sum_n_plus n f g)

module _ {W : Type 0} (G : Kind W) where
  pub total_same : (n : ℕ) (f g : ℕ → W) → ((i : ℕ) → i < n → f i ≡ g i) → total G.ops n f ≡ total G.ops n g
  total_same zero f g h = refl
  total_same (suc n) f g h = ap₂ G.ops.plus (total_same n f g (λ i l. h i (omega arith))) (h n (omega arith))

  pub total_plus : (n : ℕ) (f g : ℕ → W) → total G.ops n (λ i. G.ops.plus (f i) (g i)) ≡ G.ops.plus (total G.ops n f) (total G.ops n g)
  total_plus zero f g = sym (G.laws.neutral G.ops.none)
  total_plus (suc n) f g = ap (λ t. G.ops.plus t (G.ops.plus (f n) (g n))) (total_plus n f g) ∙ four G (total G.ops n f) (total G.ops n g) (f n) (g n)

  pub total_none : (n : ℕ) (f : ℕ → W) → ((i : ℕ) → i < n → f i ≡ G.ops.none) → total G.ops n f ≡ G.ops.none
  total_none zero f h = refl
  total_none (suc n) f h = ap₂ G.ops.plus (total_none n f (λ i l. h i (omega arith))) (h n (omega arith)) ∙ G.laws.neutral G.ops.none

  pub total_le : (n : ℕ) (f g : ℕ → W) → ((i : ℕ) → i < n → Le G.ops (f i) (g i)) → Le G.ops (total G.ops n f) (total G.ops n g)
  total_le zero f g h = G.laws.irreflexive G.ops.none
  total_le (suc n) f g h = le_plus G (total G.ops n f) (total G.ops n g) (f n) (g n) (total_le n f g (λ i l. h i (omega arith))) (h n (omega arith))

  -- a sum with one term
  pub total_one : (n u k : ℕ) (f : ℕ → W) → u < n → total G.ops n (λ v. times G.ops (when (eqb u v) k) (f v)) ≡ times G.ops k (f u)
  total_one zero u k f h = absurd (omega arith)
  total_one (suc n) u k f h = ⊎_elim here (λ d. there d (total_one n u k f (omega arith))) (cases_eq u n)
    where
      here : u ≡ n → total G.ops (suc n) (λ v. times G.ops (when (eqb u v) k) (f v)) ≡ times G.ops k (f u)
      here e =
          let before = total_none n (λ v. times G.ops (when (eqb u v) k) (f v)) (λ i l. ap (λ b. times G.ops (when b k) (f i)) (ne_eqb u i (omega arith))) in
          let last = ap (λ b. times G.ops (when b k) (f n)) (eq-eqb u n e) in
          ap₂ G.ops.plus before last ∙ G.laws.neutral (times G.ops k (f n)) ∙ ap (λ t. times G.ops k (f t)) (sym e)

      there : (u ≡ n → ⊥) → total G.ops n (λ v. times G.ops (when (eqb u v) k) (f v)) ≡ times G.ops k (f u) → total G.ops (suc n) (λ v. times G.ops (when (eqb u v) k) (f v)) ≡ times G.ops k (f u)
      there d before =
          let last = ap (λ b. times G.ops (when b k) (f n)) (ne_eqb u n d) in
          ap₂ G.ops.plus before last ∙ unit_right G (times G.ops k (f u))

  -- the sum over arcs of what stands at an end is the sum over the nodes
  pub by_node : (m n : ℕ) (end y : ℕ → ℕ) (f : ℕ → W) → ((i : ℕ) → i < m → end i < n) → total G.ops n (λ v. times G.ops (sum_n m (λ i. when (eqb (end i) v) (y i))) (f v)) ≡ total G.ops m (λ i. times G.ops (y i) (f (end i)))
  by_node zero n end y f h = total_none n (λ v. G.ops.none) (λ i l. refl)
  by_node (suc m) n end y f h =
      let before : ℕ → ℕ = λ v. sum_n m (λ i. when (eqb (end i) v) (y i)) in
      let last : ℕ → ℕ = λ v. when (eqb (end m) v) (y m) in
      total_same n (λ v. times G.ops (before v + last v) (f v)) (λ v. G.ops.plus (times G.ops (before v) (f v)) (times G.ops (last v) (f v))) (λ v l. times_add G (before v) (last v) (f v))
      ∙ total_plus n (λ v. times G.ops (before v) (f v)) (λ v. times G.ops (last v) (f v))
      ∙ ap₂ G.ops.plus (by_node m n end y f (λ i l. h i (omega arith))) (total_one n (end m) (y m) f (h m (omega arith)))
