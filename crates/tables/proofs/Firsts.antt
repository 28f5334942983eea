-- Reading and making `First`.
use Rattle.std.proofs.Common.{◌≡◌, ℕ, Some, None, Ok, Err, Option, Result, sym, refl, arith, MatchResult}
use Rattle.tables.specs.Refusals.{number, refusal}
use Rattle.tables.specs.declared.refusal.Refusal.{Refusal}

none≢some : {X : Type 0} (x : X) → ◌≡◌ {A = Option X} None (Some x) → ⊥
none≢some x e = let z : ◌≡◌ {A = ℕ} 0 1 = cc in omega arith

-- the first row's condition holds; the shape is that of `First`, computed, so that the rows are read off the goal
pub here : {P Q : Type 0} {n : ℕ} → P → (P → ◌≡◌ {A = Option ℕ} (Some n) (Some n)) × ((P → ⊥) → Q)
here p = (λ _. refl, λ f. absurd (f p))

-- it does not hold
pub next : {P E Q : Type 0} → (P → ⊥) → Q → (P → E) × ((P → ⊥) → Q)
next f h = (λ p. absurd (f p), λ _. h)

-- where no number is given, the first condition does not hold
pub not_first : {P Q : Type 0} {n : ℕ} → (P → ◌≡◌ {A = Option ℕ} None (Some n)) × ((P → ⊥) → Q) → P → ⊥
not_first {n} h p = none≢some n (h.0 p)

-- and the other rows give none
pub not_rest : {P Q : Type 0} {n : ℕ} → (P → ◌≡◌ {A = Option ℕ} None (Some n)) × ((P → ⊥) → Q) → Q
not_rest {n} h = h.1 (λ p. none≢some n (h.0 p))

-- a call that was not refused went well
pub accepted : {X : Type 0} (A : X → Type 0) (B : Refusal → Type 0) (r : Result X Refusal) → refusal r ≡ None → MatchResult r A B → (x : X) × (r ≡ Ok x) × A x
accepted A B (Ok x) e h = (x, refl, h)
accepted A B (Err e) q h = absurd (none≢some (number e) (sym q))
