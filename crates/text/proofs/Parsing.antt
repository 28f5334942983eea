-- Digits gone through one by one, as numbers that are spelt.
use Rattle.std.proofs.Common.{◌≡◌, ℕ, ◌+◌, ◌*◌, ◌-◌, ◌^◌, ◌<◌, ◌≤◌, List, length, get_or, take, sym, ap, ◌∙◌, subst, arith}
use Rattle.std.specs.Str.Parse.{digits_value, AllDigits}
use Rattle.std.specs.Char.{digit_value}
use Rattle.std.proofs.lemmas.Str.{digit_value_digit}
use Rattle.std.proofs.lemmas.Str.Parse.{digit_at, digits_value-take-le}
use Rattle.std.proofs.lemmas.Int.Digits.{digits_value_more, digits_more}
use Rattle.std.proofs.lemmas.List.{take_all}
use Rattle.text.specs.Numbers.{SpellsWithin, unsigned}
use Rattle.text.specs.NumbersLemmas.{Plain, plain_from_spells, spells_from_plain_within, value_spelt}

-- a number that a u64 holds
abbrev pub Fitting : ℕ → List ℕ → ℕ → Type 0
Fitting most bytes n = SpellsWithin most unsigned bytes n × (n < 2 ^ 64)

-- v is the value of the first i bytes, which are digits
abbrev pub Read : List ℕ → ℕ → ℕ → Type 0
Read bytes i v = (v ≡ digits_value 10 (take i bytes)) × AllDigits 10 (take i bytes) × (v < 2 ^ 64)

digit_is : (b : ℕ) → 48 ≤ b → b ≤ 57 → digit_value b ≡ b - 48
digit_is b low high = omega (arith, digit_value_digit b (low, high))

module _ (bytes : List ℕ) (i v : ℕ) (l : i < length bytes) (r : Read bytes i v) where
  -- one digit more
  pub one_more : (w : ℕ) → (48 ≤ get_or bytes i 0) × (get_or bytes i 0 ≤ 57) × (w ≡ v * 10 + (get_or bytes i 0 - 48)) × (w < 2 ^ 64) → Read bytes (i + 1) w
  one_more w d =
      let b = digit_is (get_or bytes i 0) d.0 d.1 in
      let more = digits_value_more 10 bytes i l in
      (omega (arith, more, b, r.0, d.2), digits_more 10 bytes i l r.1 (omega arith), d.3)

  -- no digit, or none that a u64 has room for
  pub no_more : (most : ℕ) → (48 ≤ get_or bytes i 0 → get_or bytes i 0 ≤ 57 → 2 ^ 64 ≤ v * 10 + (get_or bytes i 0 - 48)) → (n : ℕ) → Fitting most bytes n → ⊥
  no_more most too n s =
      let plain = plain_from_spells most bytes n s.0 in
      let d = digit_at bytes i plain.all_digits l in
      let large = too (omega (arith, d)) (omega (arith, d)) in
      let b = digit_is (get_or bytes i 0) (omega (arith, d)) (omega (arith, d)) in
      let more = digits_value_more 10 bytes i l in
      let part = digits_value-take-le 10 bytes (i + 1) (omega arith) in
      let value = ap (digits_value 10) s.0.0 ∙ value_spelt n in
      omega (arith, large, b, more, part, value, r.0, s.1)

-- all digits gone through
pub all_read : (most : ℕ) (bytes : List ℕ) (i v : ℕ) → length bytes ≤ i → Read bytes i v → 0 < length bytes → length bytes ≤ most → (get_or bytes 0 0 ≡ 48 → length bytes ≤ 1) → Fitting most bytes v
all_read most bytes i v past r some short lead =
    let all = take_all i bytes past in
    let value : v ≡ digits_value 10 bytes = r.0 ∙ ap (digits_value 10) all in
    let plain : Plain most bytes = record { all_digits = subst (AllDigits 10) all r.1; some = some; short = short; lead = λ e. let one = lead e in omega arith } in
    (subst (SpellsWithin most unsigned bytes) (sym value) (spells_from_plain_within most bytes plain (omega (arith, r.2, value))), r.2)
