-- The contents of a record that was read, and what reading a text comes to.
use Rattle.std.specs.Prelude.{ℕ, List, Result, MatchResult}
use Rattle.tables.specs.Refusals.{number}
use Rattle.text.specs.declared.fault.Fault.{Fault}
use Rattle.layout.specs.Records.{Contents}
use Rattle.layout.specs.Runs.{Reads, Refused, OneOutcome, SomeOutcome}
use Rattle.layout.specs.Render.{ReadsRecords, OneText, EarliestDecides, CutBeforeFault}
use Rattle.round.specs.Rounds.{book}
use Rattle.reading.specs.Held.{held}
use Rattle.reading.specs.declared.record.Record.{Record}

-- what the record holds
abbrev pub contents : Record → Contents
contents r = held r.kind (book r.round) r.units r.levels

-- the text reads as the contents of the record; or it is refused with this number at this line
abbrev pub Reading : List ℕ → Result Record Fault → Type 0
Reading text r = MatchResult r (λ x. Reads text (contents x)) (λ f. Refused text (number f.refusal) f.line)

-- what holds of reading: a text reads as contents exactly when it is their spelling and they keep the rules, no two texts read alike, and each
-- text that does not read has exactly one refusal, with its number and line: that of its earliest faulty line
pub record ReadingLaw : Type 0 where
  pub spelling : ReadsRecords
  pub apart : OneText
  pub some : SomeOutcome
  pub one : OneOutcome
  pub earliest : EarliestDecides
  pub cut : CutBeforeFault
