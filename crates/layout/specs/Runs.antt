-- What a text comes to, line by line: it reads as contents, or its first faulty line is refused.
use Rattle.std.specs.Prelude.{◌≡◌, ℕ, ◌+◌, ◌<◌, ◌≤◌, ◌⊎◌, List, [], ◌∷◌, ◌++◌, length, Some, None}
use Rattle.tables.specs.Refusals.{First}
use Rattle.text.specs.Parts.{FirstAt}
use Rattle.layout.specs.Records.{Contents}
use Rattle.layout.specs.Layout.{Slot, Says, spell, Fits, rules, calls_for, with_line, nothing, heads}

-- the next line of the text, which byte 10 ends, says c and is in the layout; the rest follows it
pub record LiesNext (s : Slot) (x : Contents) (text : List ℕ) (c : Says s) (rest : List ℕ) : Type 0 where
  pub ended : FirstAt 10 text (spell s c) rest
  pub fits : Fits s x c

-- what a text comes to: it reads as these contents, or it is refused with a number at a line
pub data Outcome : Type 0 where
  reads : Contents → Outcome
  refused : ℕ → ℕ → Outcome

-- what a text comes to from a line on, where these lines are due and the lines before hold these contents
pub data ComesTo : List Slot → Contents → List ℕ → ℕ → Outcome → Type 0 where
  -- no line is due, and nothing is left
  ends : {x : Contents} {line : ℕ} → ComesTo [] x [] line (reads x)
  -- something follows the last line
  trails : {x : Contents} {text : List ℕ} {line : ℕ} → 0 < length text → ComesTo [] x text line (refused 13 line)
  -- the line that is due is missing, or departs from the layout
  departs : {s : Slot} {due : List Slot} {x : Contents} {text : List ℕ} {line : ℕ} → ((c : Says s) (rest : List ℕ) → LiesNext s x text c rest → ⊥) → ComesTo (s ∷ due) x text line (refused 13 line)
  -- it breaks a rule
  breaks : {s : Slot} {due : List Slot} {x : Contents} {text : List ℕ} {line n : ℕ} (c : Says s) (rest : List ℕ) → LiesNext s x text c rest → First (rules s x c) (Some n) → ComesTo (s ∷ due) x text line (refused n line)
  -- it breaks none, and the text comes to what the rest comes to
  keeps : {s : Slot} {due : List Slot} {x : Contents} {text : List ℕ} {line : ℕ} {o : Outcome} (c : Says s) (rest : List ℕ) → LiesNext s x text c rest → First (rules s x c) None → ComesTo (calls_for s c ++ due) (with_line s c x) rest (line + 1) o → ComesTo (s ∷ due) x text line o

-- the text reads as these contents
abbrev pub Reads : List ℕ → Contents → Type 0
Reads text x = (length text ≤ 32768) × ComesTo heads nothing text 1 (reads x)

-- the text is refused with this number at this line: it is too long, or has a faulty line
abbrev pub Refused : List ℕ → ℕ → ℕ → Type 0
Refused text n line = ((32768 < length text) × (n ≡ 14) × (line ≡ 0)) ⊎ ((length text ≤ 32768) × ComesTo heads nothing text 1 (refused n line))

-- no text reads as two contents, none has two refusals, and none that reads is refused
pub record OneOutcome : Type 0 where
  pub one_reading : (text : List ℕ) (x y : Contents) → Reads text x → Reads text y → x ≡ y
  pub one_refusal : (text : List ℕ) (m n k l : ℕ) → Refused text m k → Refused text n l → (m ≡ n) × (k ≡ l)
  pub not_both : (text : List ℕ) (x : Contents) (n l : ℕ) → Reads text x → Refused text n l → ⊥

-- each text reads as contents or is refused
abbrev pub SomeOutcome : Type 0
SomeOutcome = (text : List ℕ) → ((x : Contents) × Reads text x) ⊎ ((n : ℕ) × (line : ℕ) × Refused text n line)
