-- Reading a text line by line.
use Rattle.std.specs.Prelude.{◌≡◌, ℕ, ◌+◌, ◌<◌, List, [], ◌∷◌, length, IfOk, Result, MatchResult}
use Rattle.tables.specs.Refusals.{when, First, refusal}
use Rattle.tables.specs.declared.refusal.Refusal.{Refusal}
use Rattle.tables.specs.declared.refusal.Refusal.TheVariants.{Layout}
use Rattle.text.specs.Faults.{fault_at}
use Rattle.text.specs.Parts.{FirstAt}
use Rattle.text.specs.declared.fault.Fault.{Fault}
use Rattle.text.specs.declared.reader.Reader.{Reader}

-- the text lies before the reader, which is at line 1
abbrev pub Begins : List ℕ → Reader → Type 0
Begins text reader = (reader.rest.now ≡ text) × (reader.line ≡ 1)

-- reading begins; a text over 32,768 bytes is refused
pub record Opened (text : List ℕ) (r : Result Reader Refusal) : Type 0 where
  pub refused : First (when 14 (32768 < length text) ∷ []) (refusal r)
  pub outcome : IfOk r (Begins text)

-- the text has an ended line next that is an x, and reading goes on after it
pub record Advanced {X : Type 0} (Is : List ℕ → X → Type 0) (before after : Reader) (x : X) : Type 0 where
  pub line_bytes : List ℕ
  pub ended : FirstAt 10 before.rest.now line_bytes after.rest.now
  pub is : Is line_bytes x
  pub counted : after.line ≡ before.line + 1

-- the text has no ended line next that is an x: it departs from the layout there, and nothing changes
pub record Halted {X : Type 0} (Is : List ℕ → X → Type 0) (before after : Reader) (f : Fault) : Type 0 where
  pub fault : f ≡ fault_at before.line Layout
  pub none : (x : X) (line rest : List ℕ) → FirstAt 10 before.rest.now line rest → Is line x → ⊥
  pub same : after ≡ before

-- the outcome of reading the next line as an x
abbrev pub Next : {X : Type 0} → (List ℕ → X → Type 0) → Reader → Reader → Result X Fault → Type 0
Next Is before after r = MatchResult r (λ x. Advanced Is before after x) (λ f. Halted Is before after f)

-- the text has been read to its end, or departs from the layout by what is left
abbrev pub Ended : Reader → Result (Unit {0}) Fault → Type 0
Ended reader r = MatchResult r (λ _. reader.rest.now ≡ []) (λ f. (f ≡ fault_at reader.line Layout) × (0 < length reader.rest.now))
