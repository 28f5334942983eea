-- Rows of numbers.
use Rattle.std.specs.Prelude.{◌≡◌, ℕ, ◌<◌, ◌≤◌, List, [], ◌∷◌, ◌++◌, length}
use Rattle.std.specs.List.{AllByRecursion}
use Rattle.text.specs.Numbers.{Notation}

-- numbers, each with a space before it
abbrev pub spaced : {X : Type 0} → Notation X → List X → List ℕ
spaced notation [] = []
spaced notation (x ∷ xs) = 32 ∷ (notation.spelling x ++ spaced notation xs)

-- numbers, with one space between
abbrev pub row_spelt : {X : Type 0} → Notation X → List X → List ℕ
row_spelt notation [] = []
row_spelt notation (x ∷ xs) = notation.spelling x ++ spaced notation xs

-- the bytes are the row of these n numbers, at least one, each of at most 13 digits
pub record SpellsRow {X : Type 0} (notation : Notation X) (n : ℕ) (bytes : List ℕ) (xs : List X) : Type 0 where
  pub some : 0 < n
  pub count : length xs ≡ n
  pub spelling : bytes ≡ row_spelt notation xs
  pub short : AllByRecursion (λ x. notation.digit_count x ≤ 13) xs
