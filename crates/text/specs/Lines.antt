-- What a line says, and how it is spelt.
use Rattle.std.specs.Prelude.{◌≡◌, ℕ, ◌≤◌, List, ◌∷◌, length}
use Rattle.text.specs.Numbers.{spelt}
use Rattle.text.specs.Sections.{letter}
use Rattle.text.specs.declared.line.Line.{Line}
use Rattle.text.specs.declared.line.Line.TheVariants as line
use Rattle.text.specs.declared.line.Sort.{Sort}
use Rattle.text.specs.declared.line.Sort.TheVariants as sort

-- which sort of line it is
abbrev pub sort_of : Line → Sort
sort_of (line.Head section count) = sort.Head
sort_of (line.Name name) = sort.Name
sort_of (line.Row row) = sort.Row

-- the bytes of the line: in a head the letter, one space and the count
abbrev pub line_spelt : Line → List ℕ
line_spelt (line.Head section count) = letter section ∷ 32 ∷ spelt count
line_spelt (line.Name name) = name.now
line_spelt (line.Row row) = row.bytes.now

-- a head's count has at most 13 digits
abbrev pub ShortCount : Line → Type 0
ShortCount (line.Head section count) = length (spelt count) ≤ 13
ShortCount (line.Name name) = Unit {0}
ShortCount (line.Row row) = Unit {0}

-- the bytes are this line, of this sort
pub record Says (s : Sort) (bytes : List ℕ) (l : Line) : Type 0 where
  pub sorted : sort_of l ≡ s
  pub bytes_are : bytes ≡ line_spelt l
  pub short : ShortCount l
