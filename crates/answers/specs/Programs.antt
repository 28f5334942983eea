-- What the programs print for what they read.
use Rattle.std.specs.Prelude.{◌≡◌, ℕ, ◌⊎◌, List, [], ◌∷◌, Option, Result}
use Rattle.std.specs.Io.KnownBytes.{Appends}
use Rattle.tables.specs.Refusals.{number}
use Rattle.text.specs.declared.fault.Fault.{Fault}
use Rattle.layout.specs.Records.{Contents, book_of}
use Rattle.layout.specs.Render.{render}
use Rattle.layout.specs.Runs.{Reads, Refused}
use Rattle.record.specs.Checks.{Checks}
use Rattle.record.specs.Sheets.{Sheet, Clears, NoSheet}
use Rattle.record.specs.declared.passed.Passed.{Passed}
use Rattle.answers.specs.Lines.{printed, lines_of}
use Rattle.answers.specs.declared.line.Line.TheVariants.{Refused as RefusedLine}

-- the output grows by bytes that a program prints for a text
abbrev pub Prints : (List ℕ → List ℕ → Type 0) → Option (List ℕ) → Option (List ℕ) → List ℕ → Type 0
Prints program before after text = (bytes : List ℕ) × program text bytes × Appends before after bytes

-- the lines of what check answers of the text
abbrev pub CheckPrints : List ℕ → List ℕ → Type 0
CheckPrints text bytes = (r : Result Passed Fault) × Checks text r × (bytes ≡ printed (lines_of r))

-- the text is a sheet, and the bytes are the record of an allotment and levels that clear comes to from no units, by its kind; it passes
pub record ClearedSheet (text bytes : List ℕ) : Type 0 where
  pub sheet : Contents
  pub reads : Reads text sheet
  pub is : Sheet sheet
  pub filled : Contents
  pub clears : Clears sheet.kind (book_of sheet) filled
  pub bytes_are : bytes ≡ render filled

-- the text does not read, or it is no sheet, and the bytes are the line that says so
pub record RefusedSheet (text bytes : List ℕ) : Type 0 where
  pub fault : Fault
  pub why : Refused text (number fault.refusal) fault.line ⊎ NoSheet text fault
  pub bytes_are : bytes ≡ printed (RefusedLine fault ∷ [])

-- one of both
abbrev pub ClearPrints : List ℕ → List ℕ → Type 0
ClearPrints text bytes = ClearedSheet text bytes ⊎ RefusedSheet text bytes
