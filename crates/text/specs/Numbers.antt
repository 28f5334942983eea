-- How numbers are spelt: in decimal digits, with no leading zero, and with a minus only below 0.
use Rattle.std.specs.Prelude.{◌≡◌, ℕ, zero, suc, ◌+◌, ◌/◌, ◌%◌, ◌<◌, ◌≤◌, List, [], ◌∷◌, ◌++◌, length, ℤ, pos, negsuc, Result, MatchResult, unsigned_abs, count_by}
use Rattle.std.specs.Char.{is_ascii_digit}
use Rattle.tables.specs.declared.refusal.Refusal.{Refusal}
use Rattle.tables.specs.declared.refusal.Refusal.TheVariants.{Layout}
use Rattle.text.specs.Parts.{Free}

-- the decimal digits of n, where `front` is n / 10 and `turns` is at least n
abbrev pub digits : ℕ → ℕ → ℕ → List ℕ
digits zero n front = (48 + n) ∷ []
digits (suc turns) n zero = (48 + n) ∷ []
digits (suc turns) n (suc front) = digits turns (suc front) (suc front / 10) ++ (48 + n % 10) ∷ []

-- a number's decimal digits, as bytes
abbrev pub spelt : ℕ → List ℕ
spelt n = digits n n (n / 10)

-- a level's: a minus before the digits where it is below 0
abbrev pub level_spelt : ℤ → List ℕ
level_spelt (pos n) = spelt n
level_spelt (negsuc n) = 45 ∷ spelt (suc n)

-- how numbers of one sort are spelt, and in how many digits
pub record Notation (X : Type 0) : Type 0 where
  pub spelling : X → List ℕ
  pub digit_count : X → ℕ

-- numbers as they are
abbrev pub unsigned : Notation ℕ
unsigned = record { spelling = spelt; digit_count = λ n. length (spelt n) }

-- levels, of which the minus is no digit
abbrev pub signed : Notation ℤ
signed = record { spelling = level_spelt; digit_count = λ z. length (spelt (unsigned_abs z)) }

-- no two numbers are spelt alike, no byte is below the minus, as space and byte 10 are, and the digits counted are those of the spelling
pub record Legible {X : Type 0} (notation : Notation X) : Type 0 where
  pub once : (x y : X) → notation.spelling x ≡ notation.spelling y → x ≡ y
  pub high : (x : X) (b : ℕ) → b < 45 → Free b (notation.spelling x)
  pub counted : (x : X) → notation.digit_count x ≡ count_by is_ascii_digit (notation.spelling x)

-- the bytes are the spelling of x, which has at most so many digits
abbrev pub SpellsWithin : {X : Type 0} → ℕ → Notation X → List ℕ → X → Type 0
SpellsWithin most notation bytes x = (bytes ≡ notation.spelling x) × (notation.digit_count x ≤ most)

-- the bytes are the spelling of x, which has at most 13 digits
abbrev pub Spells : {X : Type 0} → Notation X → List ℕ → X → Type 0
Spells notation bytes x = SpellsWithin 13 notation bytes x

-- what was read fits, or nothing does and the text departs from the layout
abbrev pub Reads : {X : Type 0} → (X → Type 0) → Result X Refusal → Type 0
Reads {X} Fits r = MatchResult r Fits (λ e. (e ≡ Layout) × ((x : X) → Fits x → ⊥))
