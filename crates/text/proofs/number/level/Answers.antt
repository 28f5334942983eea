use Rattle.std.proofs.Common.{◌≡◌, ℕ, ◌-◌, ◌^◌, ◌<◌, List, ◌∷◌, length, get_or, take, drop, pos, ◌-ℤ◌, neg_ℤ, sym, refl, ◌∙◌, subst, arith, w64, to_z, of_z, rules}
use Rattle.std.proofs.lemmas.Slice.{first_rest}
use Rattle.std.proofs.lemmas.Result.{err_from_is_err_and}
use Rattle.std.proofs.lemmas.Int.{ints, to_z_pos}
use Rattle.text.specs.Numbers.{Spells, signed}
use Rattle.text.specs.NumbersLemmas.{below_digits, level_from_minus, no_level, one_number}
use Rattle.text.proofs.number.level.Goals as goal

-- the minus and the bytes after it
after_minus : (bytes : List ℕ) → 0 < length bytes → get_or bytes 0 0 ≡ 45 → bytes ≡ 45 ∷ take (length bytes - 1) (drop 1 bytes)
after_minus bytes some minus = rw minus at (first_rest bytes 0 some)

pub returns-in_err-n-in-45 : goal.returns-in_err-n-in-45
returns-in_err-n-in-45 c =
    let p = err_from_is_err_and c.from_residual.result c.from_residual.ensures.1 in
    let none = c.in_err-n-in-45.ensures in
    rw (p.1, p.2) (none.0, no_level _ _ (after_minus _ (search rules) (search rules)) (λ n s. absurd (none.1 n s)))

pub overflow_cast-result : goal.overflow_cast-result
overflow_cast-result c = omega (arith, below_digits 13 c.in_ok-n-in-45.n c.in_ok-n-in-45.ensures.1)

pub overflow_sub-result : goal.overflow_sub-result
overflow_sub-result c = omega (arith, ints, below_digits 13 c.in_ok-n-in-45.n c.in_ok-n-in-45.ensures.1)

pub overflow_cast-result-in_default : goal.overflow_cast-result-in_default
overflow_cast-result-in_default c = omega (arith, below_digits 13 c.in_ok-number-in_default.field-0 c.in_ok-number-in_default.ensures.1)

pub returns-in-0 : goal.returns-in-0
returns-in-0 c = (refl, no_level _ _ (after_minus _ (search rules) (search rules)) (λ n s. one_number _ n _ s c.in_ok-n-in-45.ensures ∙ c.in-0.is))

negated : (n : ℕ) → n < 10 ^ 13 → to_z w64 (of_z w64 (pos 0 -ℤ to_z w64 n)) ≡ neg_ℤ (pos n)
negated n lt = omega (arith, ints)

pub returns-in_default-2 : goal.returns-in_default-2
returns-in_default-2 c =
    let n = c.in_ok-n-in-45.n in
    let s = c.in_ok-n-in-45.ensures in
    subst (Spells signed _) (sym (negated n (below_digits 13 n s.1))) (level_from_minus _ _ n (after_minus _ (search rules) (search rules)) (search rules) s)

pub returns-in_ok-number-in_default : goal.returns-in_ok-number-in_default
returns-in_ok-number-in_default c =
    let n = c.in_ok-number-in_default.field-0 in
    let s = c.in_ok-number-in_default.ensures in
    subst (Spells signed _) (sym (to_z_pos w64 n (omega (arith, below_digits 13 n s.1)))) s
