-- Numbers as 32 bits hold them, and bounds that lie below where they are cut.
use Rattle.std.proofs.Common.{◌≡◌, ℕ, ◌<◌, ◌≤◌, ◌⊎◌, inl, inr, ⊎_elim, arith}
use Rattle.std.proofs.lemmas.Bool.{cases_lt}
use Rattle.reading.specs.Bounds.{Clamped}

-- a number is kept, or both it and what is held are beyond every bound
pub kept_or_beyond : (n r : ℕ) → Clamped n r → (r ≡ n) ⊎ ((2000000 ≤ n) × (2000000 ≤ r))
kept_or_beyond n r c = ⊎_elim (λ lt. inl (c.small lt)) (λ le. let e = c.large le in inr (omega arith, omega arith)) (cases_lt n 4294967296)

-- a number within a bound is kept
pub kept_within : (n r k : ℕ) → Clamped n r → k ≤ 2000000 → r < k → r ≡ n
kept_within n r k c le lt = ⊎_elim (λ e. e) (λ (p : (2000000 ≤ n) × (2000000 ≤ r)). absurd (omega arith)) (kept_or_beyond n r c)

-- beyond a bound on both sides or on none
pub beyond_to : (n r k : ℕ) → Clamped n r → k ≤ 2000000 → k ≤ n → k ≤ r
beyond_to n r k c le h = ⊎_elim (λ e. omega arith) (λ (p : (2000000 ≤ n) × (2000000 ≤ r)). omega arith) (kept_or_beyond n r c)

pub beyond_from : (n r k : ℕ) → Clamped n r → k ≤ 2000000 → k ≤ r → k ≤ n
beyond_from n r k c le h = ⊎_elim (λ e. omega arith) (λ (p : (2000000 ≤ n) × (2000000 ≤ r)). omega arith) (kept_or_beyond n r c)
