-- One line of a text: it lies next and keeps the rules, breaks one, or is not there.
use Rattle.std.proofs.Common.{◌≡◌, ℕ, ◌⊎◌, List, ◌∷◌, ◌++◌, IfOk, Some, None, Ok, Err, Result, sym, subst, inl, inr, MatchResult}
use Rattle.tables.specs.Refusals.{First, number, refusal}
use Rattle.tables.specs.declared.refusal.Refusal.{Refusal}
use Rattle.tables.specs.declared.refusal.Refusal.TheVariants.{Layout}
use Rattle.text.specs.Faults.{fault_at, result_at}
use Rattle.text.specs.Parts.{FirstAt}
use Rattle.text.specs.Readers.{Advanced}
use Rattle.text.specs.declared.fault.Fault.{Fault}
use Rattle.text.specs.declared.reader.Reader.{Reader}
use Rattle.text.proofs.Cuts.{first_once}
use Rattle.layout.specs.Layout.{Slot, Says, spell, Fits, rules, calls_for, with_line}
use Rattle.layout.specs.Records.{Contents}
use Rattle.layout.specs.Runs.{LiesNext, ComesTo, departs, breaks, keeps}
use Rattle.reading.specs.Reading.{Missing, Onward, Stops, LineRead}

-- where nothing that is an x comes next, no line of the sort does
pub missed : (s : Slot) (x : Contents) {X : Type 0} (Is : List ℕ → X → Type 0) {before : Reader} {f : Fault} → Missing Is before f → ((c : Says s) → Fits s x c → (v : X) × Is (spell s c) v) → (due : List Slot) → Stops (s ∷ due) x before f
missed s x Is {before} m from due =
    subst (λ g. Stops (s ∷ due) x before g) (sym m.fault) (departs (λ c rest l. let b = from c l.fits in m.none b.0 (spell s c) rest l.ended b.1))

-- what comes next is in no line of the sort
pub departed : (s : Slot) (x : Contents) {X : Type 0} (Is : List ℕ → X → Type 0) {before after : Reader} {v : X} → Advanced Is before after v → ((c : Says s) → Fits s x c → Is (spell s c) v → ⊥) → (line : ℕ) → line ≡ before.line → (due : List Slot) → Stops (s ∷ due) x before (fault_at line Layout)
departed s x Is {before} {after} {v} a not line n due =
    subst (λ k. Stops (s ∷ due) x before (fault_at k Layout)) (sym n) (departs (λ c rest l. not c l.fits (subst (λ b. Is b v) (first_once a.ended l.ended).0 a.is)))

-- what a line says is c
pub record Lies (s : Slot) (x : Contents) {V : Type 0} (Is : List ℕ → V → Type 0) (v : V) (c : Says s) : Type 0 where
  pub spells : (bytes : List ℕ) → Is bytes v → bytes ≡ spell s c
  pub fits : Fits s x c

module _ (s : Slot) (x : Contents) {V : Type 0} (Is : List ℕ → V → Type 0) {before after : Reader} {v : V} (c : Says s) (a : Advanced Is before after v) (l : Lies s x Is v c) where
  lies : LiesNext s x before.rest.now c after.rest.now
  lies = record { ended = subst (λ b. FirstAt 10 before.rest.now b after.rest.now) (l.spells a.line_bytes a.is) a.ended; fits = l.fits }

  -- the line breaks no rule
  sound : First (rules s x c) None → (due : List Slot) → Onward (s ∷ due) x before (calls_for s c ++ due) (with_line s c x) after
  sound none due o h = keeps c after.rest.now lies none (subst (λ k. ComesTo (calls_for s c ++ due) (with_line s c x) after.rest.now k o) a.counted h)

  -- it breaks one
  faulty : (line : ℕ) → line ≡ before.line → (e : Refusal) → First (rules s x c) (Some (number e)) → (due : List Slot) → Stops (s ∷ due) x before (fault_at line e)
  faulty line n e some due = subst (λ k. Stops (s ∷ due) x before (fault_at k e)) (sym n) (breaks c after.rest.now lies some)

-- what a test makes of a line that says v: it says this and breaks no rule; or it is none of the sort, or breaks one
abbrev pub Judged : (s : Slot) {V Y : Type 0} (x : Contents) (Is : List ℕ → V → Type 0) (v : V) (said : Y → Says s) → Result Y Refusal → Type 0
Judged s x Is v said r = MatchResult r (λ y. Lies s x Is v (said y) × First (rules s x (said y)) None) (λ e. ((e ≡ Layout) × ((c : Says s) → Fits s x c → Is (spell s c) v → ⊥)) ⊎ ((c : Says s) × Lies s x Is v c × First (rules s x c) (Some (number e))))

module _ (s : Slot) {V Y : Type 0} (x : Contents) (Is : List ℕ → V → Type 0) (said : Y → Says s) {before after : Reader} {v : V} (a : Advanced Is before after v) where
  -- so the line is read
  pub judged : (line : ℕ) → line ≡ before.line → (r : Result Y Refusal) → Judged s x Is v said r → (o : Result Y Fault) → o ≡ result_at line r → LineRead s said x before after o
  judged line n r j o e = subst (LineRead s said x before after) (sym e) (told r j)
    where
      told : (r : Result Y Refusal) → Judged s x Is v said r → LineRead s said x before after (result_at line r)
      told (Ok y) (l, none) = sound s x Is (said y) a l none
      told (Err d) (inl (q, not)) = subst (λ g. (due : List Slot) → Stops (s ∷ due) x before (fault_at line g)) (sym q) (departed s x Is a not line n)
      told (Err d) (inr (c, l, some)) = faulty s x Is c a l line n d some

  -- the same where the line says c and was tested against the rules
  pub ruled : (c : Says s) → Lies s x Is v c → (line : ℕ) → line ≡ before.line → (r : Result Y Refusal) → First (rules s x c) (refusal r) → IfOk r (λ y. said y ≡ c) → (o : Result Y Fault) → o ≡ result_at line r → LineRead s said x before after o
  ruled c l line n r first same o e = judged line n r (verdict r first same) o e
    where
      verdict : (r : Result Y Refusal) → First (rules s x c) (refusal r) → IfOk r (λ y. said y ≡ c) → Judged s x Is v said r
      verdict (Ok y) none q = subst (λ c. Lies s x Is v c × First (rules s x c) None) (sym q) (l, none)
      verdict (Err d) some q = inr (c, l, some)
