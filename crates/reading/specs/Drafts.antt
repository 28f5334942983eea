-- What was read so far of a record, and what reading on adds to it.
use Rattle.std.specs.Prelude.{◌≡◌, ℕ, ◌+◌, List, [], ◌∷◌, ◌++◌, replicate, Result, MatchResult}
use Rattle.text.specs.declared.fault.Fault.{Fault}
use Rattle.text.specs.declared.reader.Reader.{Reader}
use Rattle.text.specs.declared.section.Section.TheVariants.{Items}
use Rattle.layout.specs.Layout.{Slot, head}
use Rattle.layout.specs.Records.{Contents}
use Rattle.round.specs.Rounds.{book}
use Rattle.reading.specs.Entries.{section_of, slot_of, many, without}
use Rattle.reading.specs.Held.{held}
use Rattle.reading.specs.Reading.{Onward, Stops}
use Rattle.reading.specs.declared.draft.Draft.{Draft}
use Rattle.reading.specs.declared.entry.Entry.{Entry}
use Rattle.reading.specs.declared.entry.Entry.TheVariants.{Item}

-- the contents that were read
abbrev pub so_far : Draft → Contents
so_far d = held d.kind (book d.round) d.units d.levels

-- these lines were read, and nothing but the entries of this sort has changed
pub record EntriesRead (e : Entry) (lines : List Slot) (before after : Draft) : Type 0 where
  pub onward : (due : List Slot) → Onward (lines ++ due) (so_far before) before.reader due (so_far after) after.reader
  pub only : without e (so_far after) ≡ without e (so_far before)

-- the text is refused at one of these lines, or in what they call for
abbrev pub Halts : List Slot → Draft → Fault → Type 0
Halts lines before f = (due : List Slot) → Stops (lines ++ due) (so_far before) before.reader f

-- n entries of this sort were read; or the text is refused in one of them
abbrev pub Gains : Entry → ℕ → Draft → Draft → Result (Unit {0}) Fault → Type 0
Gains e n before after r = MatchResult r (λ _. EntriesRead e (replicate n (slot_of e)) before after × (many e (so_far after) ≡ many e (so_far before) + n)) (λ f. Halts (replicate n (slot_of e)) before f)

-- the section of these entries was read; or the text is refused in it
abbrev pub ReadsSection : Entry → Draft → Draft → Result (Unit {0}) Fault → Type 0
ReadsSection e before after r = MatchResult r (λ _. EntriesRead e (head (section_of e) ∷ []) before after) (λ f. Halts (head (section_of e) ∷ []) before f)

-- the section of the items was read after these contents, which have none; or the text is refused in it
abbrev pub ReadsItems : Reader → Contents → Result Draft Fault → Type 0
ReadsItems before x r = MatchResult r (λ d. ((due : List Slot) → Onward (head Items ∷ due) x before due (so_far d) d.reader) × (without Item (so_far d) ≡ x)) (λ f. (due : List Slot) → Stops (head Items ∷ due) x before f)
