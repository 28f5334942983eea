-- Lines that are rows of n numbers, tested against the rules of their sort.
use Rattle.std.proofs.Common.{◌≡◌, ℕ, ◌<◌, List, [], ◌∷◌, length, get_or, IfOk, Ok, Err, Result, sym, refl, ap, ◌∙◌, subst, arith}
use Rattle.tables.specs.Refusals.{First, refusal}
use Rattle.tables.specs.declared.refusal.Refusal.{Refusal}
use Rattle.text.specs.Faults.{result_at}
use Rattle.text.specs.Numbers.{unsigned}
use Rattle.text.specs.Readers.{Advanced}
use Rattle.text.specs.Rows.{row_spelt, SpellsRow}
use Rattle.text.specs.declared.fault.Fault.{Fault}
use Rattle.text.specs.declared.reader.Reader.{Reader}
use Rattle.layout.specs.Layout.{Slot, offer, give, get, Says, offer_row, line_row, spell, Fits, Short, rules}
use Rattle.layout.specs.Records.{Contents}
use Rattle.reading.specs.Offers.{as_head, as_line}
use Rattle.reading.specs.Reading.{Missing, Stops, LineRead}
use Rattle.reading.proofs.Steps.{Lies, missed, ruled}

-- a sort of lines that are rows of n numbers, and what n numbers say
pub record InRow (s : Slot) (n : ℕ) : Type 0 where
  pub some : 0 < n
  pub row : Says s → List ℕ
  pub says : List ℕ → Says s
  pub count : (c : Says s) → length (row c) ≡ n
  pub back : (ns : List ℕ) → length ns ≡ n → row (says ns) ≡ ns
  pub spelling : (c : Says s) → spell s c ≡ row_spelt unsigned (row c)
  pub short : (x : Contents) (c : Says s) → Fits s x c → Short unsigned (row c)
  pub fits : (x : Contents) (c : Says s) → Short unsigned (row c) → Fits s x c

pub all_four : (ns : List ℕ) → length ns ≡ 4 → get_or ns 0 0 ∷ get_or ns 1 0 ∷ get_or ns 2 0 ∷ get_or ns 3 0 ∷ [] ≡ ns
all_four [] e = absurd (omega arith)
all_four (a ∷ []) e = absurd (omega arith)
all_four (a ∷ b ∷ []) e = absurd (omega arith)
all_four (a ∷ b ∷ c ∷ []) e = absurd (omega arith)
all_four (a ∷ b ∷ c ∷ d ∷ []) e = refl
all_four (a ∷ b ∷ c ∷ d ∷ f ∷ ns) e = absurd (omega arith)

-- such are the head of an offer and the lines of its sides
abbrev pub head_row : InRow offer 4
head_row = record { some = omega arith; row = offer_row; says = as_head; count = λ c. refl; back = all_four; spelling = λ c. refl; short = λ x c p. p; fits = λ x c p. p }

abbrev pub give_row : InRow give 4
give_row = record { some = omega arith; row = line_row; says = as_line; count = λ c. refl; back = all_four; spelling = λ c. refl; short = λ x c p. p; fits = λ x c p. p }

abbrev pub get_row : InRow get 4
get_row = record { some = omega arith; row = line_row; says = as_line; count = λ c. refl; back = all_four; spelling = λ c. refl; short = λ x c p. p; fits = λ x c p. p }

-- what holds of an answer holds of it with a line beside the refusal
pub held_at : {X : Type 0} (P : X → Type 0) (line : ℕ) (r : Result X Refusal) → IfOk r P → (o : Result X Fault) → o ≡ result_at line r → IfOk o P
held_at P line (Ok x) h o e = subst (λ q. IfOk q P) (sym e) h
held_at P line (Err d) h o e = subst (λ q. IfOk q P) (sym e) tt

module _ {s : Slot} {n : ℕ} (is : InRow s n) (x : Contents) where
  -- no such row comes next
  pub no_row : {before : Reader} {f : Fault} → Missing (SpellsRow unsigned n) before f → (due : List Slot) → Stops (s ∷ due) x before f
  no_row m = missed s x (SpellsRow unsigned n) m (λ c p. (is.row c, record { some = is.some; count = is.count c; spelling = is.spelling c; short = is.short x c p }))

  row_lies : (ns bytes : List ℕ) → SpellsRow unsigned n bytes ns → Lies s x (SpellsRow unsigned n) ns (is.says ns)
  row_lies ns bytes i =
      let again = is.back ns i.count in
      record {
        spells = λ bytes j. j.spelling ∙ ap (row_spelt unsigned) (sym again) ∙ sym (is.spelling (is.says ns));
        fits = is.fits x (is.says ns) (subst (Short unsigned) (sym again) i.short);
      }

  -- one does, and a test of its numbers says what comes of it
  pub tested : {Y : Type 0} (said : Y → Says s) {before after : Reader} (ns : List ℕ) → Advanced (SpellsRow unsigned n) before after ns → (line : ℕ) → line ≡ before.line → (r : Result Y Refusal) → First (rules s x (is.says ns)) (refusal r) → IfOk r (λ y. said y ≡ is.says ns) → (o : Result Y Fault) → o ≡ result_at line r → LineRead s said x before after o
  tested said ns a = ruled s x (SpellsRow unsigned n) said a (is.says ns) (row_lies ns a.line_bytes a.is)
