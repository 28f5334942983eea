-- Reading the lines of a record one by one.
use Rattle.std.specs.Prelude.{◌≡◌, ℕ, ◌≤◌, ◌⊎◌, List, [], ◌∷◌, ◌++◌, length, ◌≢◌, IfOk, Ok, Err, Result, MatchResult}
use Rattle.tables.specs.Refusals.{number}
use Rattle.tables.specs.declared.refusal.Refusal.{Refusal}
use Rattle.tables.specs.declared.refusal.Refusal.TheVariants.{Layout}
use Rattle.text.specs.Faults.{fault_at}
use Rattle.text.specs.Lines.{Says as SaysLine}
use Rattle.text.specs.Numbers.{spelt, Notation}
use Rattle.text.specs.Parts.{FirstAt}
use Rattle.text.specs.Readers.{Advanced, Halted}
use Rattle.text.specs.Rows.{SpellsRow}
use Rattle.text.specs.Sections.{letter}
use Rattle.text.specs.declared.fault.Fault.{Fault}
use Rattle.text.specs.declared.line.Line.{Line}
use Rattle.text.specs.declared.line.Line.TheVariants.{Row as IsRow}
use Rattle.text.specs.declared.line.Sort.{Sort}
use Rattle.text.specs.declared.reader.Reader.{Reader}
use Rattle.text.specs.declared.row.Row.{Row}
use Rattle.text.specs.declared.section.Section.{Section}
use Rattle.layout.specs.Layout.{Slot, Says, calls_for, with_line}
use Rattle.layout.specs.Records.{Contents}
use Rattle.layout.specs.Runs.{Outcome, reads, refused, ComesTo}
use Rattle.reading.specs.declared.next.Numbered.{Numbered}

-- the text has no ended line next that is an x: it departs from the layout there
pub record Missing {X : Type 0} (Is : List ℕ → X → Type 0) (before : Reader) (f : Fault) : Type 0 where
  pub fault : f ≡ fault_at before.line Layout
  pub none : (x : X) (line rest : List ℕ) → FirstAt 10 before.rest.now line rest → Is line x → ⊥

-- the outcome of reading the next line as an x, with the line's number
abbrev pub ReadNext : {X : Type 0} → (List ℕ → X → Type 0) → Reader → Reader → Result (Numbered X) Fault → Type 0
ReadNext Is before after r = MatchResult r (λ n. (n.line ≡ before.line) × Advanced Is before after n.said) (λ f. Missing Is before f)

-- the next line is of this sort, and a call took something from it, with the line's number; or there is no such line, or the call refused it
pub record NextTaken {X : Type 0} (sort : Sort) (Taken : Line → Result X Refusal → Type 0) (before after : Reader) (r : Result (Numbered X) Fault) : Type 0 where
  pub numbered : IfOk r (λ n. n.line ≡ before.line)
  pub outcome : MatchResult r (λ n. (l : Line) × Advanced (SaysLine sort) before after l × Taken l (Ok n.said)) (λ f. Halted (SaysLine sort) before after f ⊎ ((l : Line) × Advanced (SaysLine sort) before after l × Taken l (Err f.refusal) × (f ≡ fault_at before.line f.refusal)))

-- the bytes are the head of the section, with a count of at most 13 digits
abbrev pub IsHead : Section → List ℕ → ℕ → Type 0
IsHead s bytes n = (bytes ≡ letter s ∷ 32 ∷ spelt n) × (length (spelt n) ≤ 13)

-- the line is the row of these n numbers
pub record RowOf {X : Type 0} (notation : Notation X) (n : ℕ) (l : Line) (xs : List X) : Type 0 where
  pub row : Row
  pub is : l ≡ IsRow row
  pub spells : SpellsRow notation n row.bytes.now xs

-- the bytes are those that are wanted; or they are not, and this is the refusal
abbrev pub SameTested : List ℕ → List ℕ → Refusal → Result (Unit {0}) Refusal → Type 0
SameTested bytes wanted d r = MatchResult r (λ _. bytes ≡ wanted) (λ e. (e ≡ d) × (bytes ≢ wanted))

-- what the text comes to from here on, it comes to from there on
abbrev pub Onward : List Slot → Contents → Reader → List Slot → Contents → Reader → Type 0
Onward due x before due' x' after = (o : Outcome) → ComesTo due' x' after.rest.now after.line o → ComesTo due x before.rest.now before.line o

-- the text is refused, with this fault
abbrev pub Stops : List Slot → Contents → Reader → Fault → Type 0
Stops due x before f = ComesTo due x before.rest.now before.line (refused (number f.refusal) f.line)

-- a line of this sort was read, which says this of each answer; or the text is refused there
abbrev pub LineRead : {X : Type 0} → (s : Slot) → (X → Says s) → Contents → Reader → Reader → Result X Fault → Type 0
LineRead s said x before after r = MatchResult r (λ v. (due : List Slot) → Onward (s ∷ due) x before (calls_for s (said v) ++ due) (with_line s (said v) x) after) (λ f. (due : List Slot) → Stops (s ∷ due) x before f)

-- no line is due, and the text reads as these contents; or it is refused since something is left
abbrev pub Ends : Contents → Reader → Result (Unit {0}) Fault → Type 0
Ends x reader r = MatchResult r (λ _. ComesTo [] x reader.rest.now reader.line (reads x)) (λ f. Stops [] x reader f)
