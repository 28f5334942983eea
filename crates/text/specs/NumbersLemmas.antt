-- The spelling of numbers: one for each number, and which bytes are one.
use Rattle.std.specs.Prelude.{◌≡◌, ℕ, zero, suc, ◌+◌, ◌/◌, ◌%◌, ◌^◌, ◌<◌, ◌≤◌, List, [], ◌∷◌, ◌++◌, length, ℤ, pos, negsuc, neg_ℤ, decimal, ◌≢◌, slice_index, slice_index_or, count_by, cond, ◌&&◌, refl}
use Rattle.std.proofs.Common.{sym, ap, subst, ◌∙◌, arith, w64, SFits}
use Rattle.std.specs.Str.Parse.{digits_value, AllDigits}
use Rattle.std.specs.Fmt.{signed_decimal}
use Rattle.std.specs.Int.{IsInRange}
use Rattle.std.specs.Char.{digit_value as digitValue, is_ascii_digit}
use Rattle.std.proofs.lemmas.Fmt.{decimal_digit, decimal_step, decimal-digits_value, length-decimal-le}
use Rattle.std.proofs.lemmas.Int.Digits.{digits_value_push, digits_push}
use Rattle.std.proofs.lemmas.List.{get_or_append_left, length_push}
use Rattle.std.proofs.lemmas.Bool.{le-leb}
use Rattle.std.proofs.lemmas.List.Sums.{sum_by_push}
use Rattle.std.proofs.lemmas.Str.Parse.{IsNumeralModel, numerals_by_value, tells_digits, digit_at, digits_value_short, not_in_digits}
use Rattle.std.proofs.lemmas.Int.{ints}
use Rattle.std.proofs.lemmas.Str.{digit_value_digit}
use Rattle.text.specs.Numbers.{digits, spelt, level_spelt, unsigned, signed, Legible, Spells, SpellsWithin}

-- what holds of the one_digit numbers, and goes over from all digits but the last to all of them
pub by_digits : (P : ℕ → List ℕ → Type 0) → ((n : ℕ) → n < 10 → P n ((48 + n) ∷ [])) → ((n : ℕ) (ds : List ℕ) → 10 ≤ n → P (n / 10) ds → P n (ds ++ (48 + n % 10) ∷ [])) → (n : ℕ) → P n (spelt n)
by_digits P one more n = go n n (n / 10) (omega arith) refl
  where
    go : (k n front : ℕ) → n ≤ k → front ≡ n / 10 → P n (digits k n front)
    go zero n front h e = one n (omega arith)
    go (suc k) n zero h e = one n (omega arith)
    go (suc k) n (suc front) h e =
        let rest = go k (suc front) (suc front / 10) (omega arith) refl in
        more n (digits k (suc front) (suc front / 10)) (omega arith) (subst (λ m. P m (digits k (suc front) (suc front / 10))) e rest)

digit_value : (d : ℕ) → d < 10 → digitValue (48 + d) ≡ d
digit_value d lt = omega (arith, digit_value_digit (48 + d) (omega arith, omega arith))

pub digits_spelt : (n : ℕ) → AllDigits 10 (spelt n)
digits_spelt = by_digits (λ _ ds. AllDigits 10 ds)
    (λ n lt. (omega (arith, digit_value n lt), tt))
    (λ n ds le h. digits_push 10 ds (48 + n % 10) h (omega (arith, digit_value (n % 10) (omega arith))))

pub value_spelt : (n : ℕ) → digits_value 10 (spelt n) ≡ n
value_spelt = by_digits (λ n ds. digits_value 10 ds ≡ n)
    (λ n lt. omega (arith, digit_value n lt))
    (λ n ds le h. omega (arith, digits_value_push 10 ds (48 + n % 10), digit_value (n % 10) (omega arith)))

-- at least one digit, and the first is 0 only in 0
pub first_digit : (n : ℕ) → (0 < length (spelt n)) × (0 < n → 48 < slice_index (spelt n) 0)
first_digit = by_digits (λ n ds. (0 < length ds) × (0 < n → 48 < slice_index ds 0))
    (λ n lt. (omega arith, λ p. omega arith))
    (λ n ds le h. (omega (arith, length_push ds (48 + n % 10)), λ p. omega (arith, get_or_append_left ds ((48 + n % 10) ∷ []) 0 0 h.0, h.1 (omega arith))))

-- as the standard library writes it
pub decimal_spelt : (n : ℕ) → n < 2 ^ 64 → decimal n ≡ spelt n
decimal_spelt = by_digits (λ n ds. n < 2 ^ 64 → decimal n ≡ ds)
    (λ n lt _. decimal_digit n lt)
    (λ n ds le h lt. decimal_step n le lt ∙ ap (λ l. l ++ (48 + n % 10) ∷ []) (h (omega arith)))

pub signed_decimal_spelt : (z : ℤ) → SFits w64 z → signed_decimal z ≡ level_spelt z
signed_decimal_spelt (pos n) fits = decimal_spelt n (omega (arith, ints, fits))
signed_decimal_spelt (negsuc n) fits = ap (λ l. 45 ∷ l) (decimal_spelt (suc n) (omega (arith, ints, fits)))

-- no two numbers are spelt alike
pub same_from_spelt : (m n : ℕ) → spelt m ≡ spelt n → m ≡ n
same_from_spelt m n e = sym (value_spelt m) ∙ ap (digits_value 10) e ∙ value_spelt n

-- the library's words for digits and their value are a model of numerals
pub own : IsNumeralModel (AllDigits 10) (digits_value 10)
own = numerals_by_value (AllDigits 10) tells_digits

-- how large a number of so many digits is
pub below_digits : (k n : ℕ) → length (spelt n) ≤ k → n < 10 ^ k
below_digits k n h = subst (λ m. m < 10 ^ k) (value_spelt n) (digits_value_short own (spelt n) k (digits_spelt n) h)

pub few_digits : (k n : ℕ) → 0 < k → n < 10 ^ k → n < 2 ^ 64 → length (spelt n) ≤ k
few_digits k n pos-k lt fits = subst (λ ds. length ds ≤ k) (decimal_spelt n fits) (length-decimal-le k n pos-k lt fits)

-- a byte that is no digit stands in no number
pub not_in_spelt : (b n : ℕ) → (IsInRange 48 57 b → ⊥) → (k : ℕ) → k < length (spelt n) → slice_index (spelt n) k ≢ b
not_in_spelt b n out = not_in_digits own (spelt n) b (digits_spelt n) out

-- the bytes that are a number: digits, at least one and at most so many, and no leading zero
pub record Plain (most : ℕ) (bytes : List ℕ) : Type 0 where
  pub all_digits : AllDigits 10 bytes
  pub some : 0 < length bytes
  pub short : length bytes ≤ most
  pub lead : slice_index_or bytes 0 0 ≡ 48 → length bytes ≡ 1

one_digit : (n : ℕ) → (0 < n → ⊥) → length (spelt n) ≡ 1
one_digit zero h = refl
one_digit (suc n) h = absurd (h (omega arith))

-- the spelling of a number has digits only, at least one, no more than it may, and no zero in front
pub plain_from_spells : (most : ℕ) (bytes : List ℕ) (n : ℕ) → SpellsWithin most unsigned bytes n → Plain most bytes
plain_from_spells most bytes n (e, few) = subst (Plain most) (sym e) (record {
  all_digits = digits_spelt n;
  some = (first_digit n).0;
  short = few;
  lead = λ z. one_digit n (λ p. omega (arith, (first_digit n).1 p));
})

-- and such bytes spell the number that their digits are worth, where a u64 holds it
pub spells_from_plain_within : (most : ℕ) (bytes : List ℕ) → Plain most bytes → digits_value 10 bytes < 2 ^ 64 → SpellsWithin most unsigned bytes (digits_value 10 bytes)
spells_from_plain_within most bytes p small =
    let e = sym (decimal_spelt (digits_value 10 bytes) small) ∙ decimal-digits_value own bytes p.all_digits p.some p.lead small in
    (sym e, subst (λ ds. length ds ≤ most) (sym e) p.short)

-- as it does whatever 13 digits are worth
pub spells_from_plain : (bytes : List ℕ) → Plain 13 bytes → Spells unsigned bytes (digits_value 10 bytes)
spells_from_plain bytes p = spells_from_plain_within 13 bytes p (omega (arith, digits_value_short own bytes 13 p.all_digits p.short))

-- one number only
pub one_number : (bytes : List ℕ) (m n : ℕ) → Spells unsigned bytes m → Spells unsigned bytes n → m ≡ n
one_number bytes m n (p, _) (q, _) = same_from_spelt m n (sym p ∙ q)

no_minus : (bytes : List ℕ) (n : ℕ) → Spells unsigned bytes n → slice_index bytes 0 ≢ 45
no_minus bytes n s e = let p = plain_from_spells 13 bytes n s in let d = digit_at bytes 0 p.all_digits p.some in omega arith

-- after a minus, only a number above 0
pub no_level : (bytes rest : List ℕ) → bytes ≡ 45 ∷ rest → ((n : ℕ) → Spells unsigned rest n → n ≡ 0) → (z : ℤ) → Spells signed bytes z → ⊥
no_level bytes rest e h (pos n) s = no_minus bytes n s (ap (λ l. slice_index l 0) e)
no_level bytes rest e h (negsuc n) s = let r : rest ≡ spelt (suc n) = cc s.0 in omega (arith, h (suc n) (r, s.1))

pub level_from_minus : (bytes rest : List ℕ) (n : ℕ) → bytes ≡ 45 ∷ rest → (n ≢ 0) → Spells unsigned rest n → Spells signed bytes (neg_ℤ (pos n))
level_from_minus bytes rest zero e h s = absurd (h refl)
level_from_minus bytes rest (suc n) e h s = (e ∙ ap (λ l. 45 ∷ l) s.0, s.1)

-- without one, just what a number is
pub no_level_plain : (bytes : List ℕ) → (slice_index bytes 0 ≢ 45) → ((n : ℕ) → Spells unsigned bytes n → ⊥) → (z : ℤ) → Spells signed bytes z → ⊥
no_level_plain bytes m h (pos n) s = h n s
no_level_plain bytes m h (negsuc n) s = m (ap (λ l. slice_index l 0) s.0)

-- no two levels are spelt alike
pub same_from_level : (y z : ℤ) → level_spelt y ≡ level_spelt z → y ≡ z
same_from_level (pos m) (pos n) e = ap pos (same_from_spelt m n e)
same_from_level (pos m) (negsuc n) e = absurd (not_in_spelt 45 m (λ i. omega arith) 0 (first_digit m).0 (ap (λ l. slice_index l 0) e))
same_from_level (negsuc m) (pos n) e = absurd (not_in_spelt 45 n (λ i. omega arith) 0 (first_digit n).0 (ap (λ l. slice_index l 0) (sym e)))
same_from_level (negsuc m) (negsuc n) e = let r : spelt (suc m) ≡ spelt (suc n) = cc in let q = same_from_spelt (suc m) (suc n) r in ap negsuc (omega arith)

-- a byte that is neither a digit nor a minus stands in no level
pub not_in_level : (b : ℕ) (z : ℤ) → (IsInRange 48 57 b → ⊥) → (b ≢ 45) → (k : ℕ) → k < length (level_spelt z) → slice_index (level_spelt z) k ≢ b
not_in_level b (pos n) out minus k lt e = not_in_spelt b n out k lt e
not_in_level b (negsuc n) out minus zero lt e = minus (sym e)
not_in_level b (negsuc n) out minus (suc k) lt e = not_in_spelt b (suc n) out k (omega arith) e

one_counted : (d : ℕ) → d < 10 → count_by is_ascii_digit ((48 + d) ∷ []) ≡ 1
one_counted d lt = λ i. 0 + cond (le-leb 48 (48 + d) (omega arith) i && le-leb (48 + d) 57 (omega arith) i) 1 0

-- all bytes of a number are digits
counted_spelt : (n : ℕ) → length (spelt n) ≡ count_by is_ascii_digit (spelt n)
counted_spelt = by_digits (λ _ ds. length ds ≡ count_by is_ascii_digit ds)
    (λ n lt. sym (one_counted n lt))
    (λ n ds le h. omega (arith, length_push ds (48 + n % 10), sum_by_push (λ c. cond (is_ascii_digit c) 1 0) ds (48 + n % 10), one_counted (n % 10) (omega arith)))

-- the minus is none
counted_level : (z : ℤ) → signed.digit_count z ≡ count_by is_ascii_digit (level_spelt z)
counted_level (pos n) = counted_spelt n
counted_level (negsuc n) = counted_spelt (suc n)

pub legible_unsigned : Legible unsigned
legible_unsigned = record { once = same_from_spelt; high = λ n b low. not_in_spelt b n (λ i. omega arith); counted = counted_spelt }

pub legible_signed : Legible signed
legible_signed = record { once = same_from_level; high = λ z b low. not_in_level b z (λ i. omega arith) (λ e. omega arith); counted = counted_level }
