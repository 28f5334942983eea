-- The beginning of a text, one byte longer than a text may be, comes to what the whole comes to.
use Rattle.std.proofs.Common.{◌≡◌, ℕ, ◌≤◌, ◌⊎◌, List, [], ◌∷◌, ◌++◌, length, take, drop, Option, Some, None, IfSome, OnOk, Result, Ok, Err, inl, inr, refl, ap, subst, ◌∙◌, arith}
use Rattle.std.proofs.lemmas.List.{length-take, take_all}
use Rattle.std.specs.Io.KnownBytes.{Appends}
use Rattle.std.specs.Option.{option_map}
use Rattle.tables.specs.Refusals.{number}
use Rattle.text.specs.declared.fault.Fault.{Fault}
use Rattle.layout.specs.Records.{Contents}
use Rattle.layout.specs.Render.{render}
use Rattle.layout.specs.Runs.{Reads, Refused}
use Rattle.record.specs.Checks.{Checks}
use Rattle.record.specs.Sheets.{Cleared, NoSheet, NoPage}
use Rattle.record.specs.declared.passed.Passed.{Passed}
use Rattle.answers.specs.Lines.{printed, lines_of}
use Rattle.answers.specs.Programs.{Prints, CheckPrints, ClearPrints, ClearedSheet, RefusedSheet}
use Rattle.answers.specs.declared.line.Line.TheVariants.{Refused as RefusedLine}

-- as much of a text as is read
abbrev pub beginning : List ℕ → List ℕ
beginning text = take 32769 text

short : (text : List ℕ) → length (beginning text) ≤ 32768 → beginning text ≡ text
short text l = take_all 32769 text (omega (arith, length-take 32769 text))

reads_whole : (text : List ℕ) (x : Contents) → Reads (beginning text) x → Reads text x
reads_whole text x r = subst (λ t. Reads t x) (short text r.0) r

refused_whole : (text : List ℕ) (n line : ℕ) → Refused (beginning text) n line → Refused text n line
refused_whole text n line (inl (long, is, at)) = inl (omega (arith, long, length-take 32769 text), is, at)
refused_whole text n line (inr (l, r)) = subst (λ t. Refused t n line) (short text l) (inr (l, r))

checks_whole : (text : List ℕ) (r : Result Passed Fault) → Checks (beginning text) r → Checks text r
checks_whole text (Ok p) (x, q, a) = (x, record { reads = reads_whole text x q.reads; allowed = q.allowed; fits = q.fits }, a)
checks_whole text (Err f) (inl r) = inl (refused_whole text (number f.refusal) f.line r)
checks_whole text (Err f) (inr q) = inr (record { contents = q.contents; reads = reads_whole text q.contents q.reads; first = q.first; line = q.line })

-- what follows from a result's clause holds of the same result
pub when_ok : {X E P Q : Type 0} (r : Result X E) → (P → Q) → OnOk r P → OnOk r Q
when_ok (Ok x) f p = f p
when_ok (Err e) f p = tt

-- what is read up to a limit, where it is known
pub taken : (known : Option (List ℕ)) (limit : ℕ) (items : List ℕ) → IfSome (option_map (take limit) known) (λ xs. items ≡ [] ++ xs) → IfSome known (λ text. items ≡ take limit text)
taken None limit items h = tt
taken (Some text) limit items h = h

-- so is what holds the same bytes
pub lent : (known : Option (List ℕ)) (text items : List ℕ) → text ≡ items → IfSome known (λ whole. items ≡ beginning whole) → IfSome known (λ whole. text ≡ beginning whole)
lent None text items e h = tt
lent (Some whole) text items e h = e ∙ h

-- what is printed of the answer for the beginning is what is printed for the whole
pub check_prints : (known before after : Option (List ℕ)) (text : List ℕ) (r : Result Passed Fault) → IfSome known (λ whole. text ≡ beginning whole) → Checks text r → Appends before after (printed (lines_of r)) → IfSome known (Prints CheckPrints before after)
check_prints None before after text r e q a = tt
check_prints (Some whole) before after text r e q a = (printed (lines_of r), (r, checks_whole whole r (subst (λ t. Checks t r) e q), refl), a)

front : (xs ys : List ℕ) → take (length xs) (xs ++ ys) ≡ xs
front [] ys = refl
front (x ∷ xs) ys = ap (λ t. x ∷ t) (front xs ys)

-- the record that is filed is at the start of the page
cleared : (whole page after : List ℕ) (n : ℕ) → Cleared (beginning whole) page after n → ClearedSheet whole (take n after)
cleared whole page after n c = record {
  sheet = c.sheet;
  reads = reads_whole whole c.sheet c.reads;
  is = c.is;
  filled = c.filed.contents;
  clears = c.filed.clears;
  bytes_are = ap (λ t. take n t) c.filed.page ∙ ap (λ m. take m (render c.filed.contents ++ drop n page)) c.filed.length ∙ front (render c.filed.contents) (drop n page);
}

-- no record is longer than the page
fits : (whole page : List ℕ) (f : Fault) → length page ≡ 32768 → NoPage whole page f → ⊥
fits whole page f l q = omega (arith, q.short.short, q.short.clears.passes.reads.0, l)

refused : (whole page : List ℕ) (f : Fault) → length page ≡ 32768 → Refused (beginning whole) (number f.refusal) f.line ⊎ (NoSheet (beginning whole) f ⊎ NoPage (beginning whole) page f) → RefusedSheet whole (printed (RefusedLine f ∷ []))
refused whole page f l (inl r) = record { fault = f; why = inl (refused_whole whole (number f.refusal) f.line r); bytes_are = refl }
refused whole page f l (inr (inl q)) = record { fault = f; why = inr (record { contents = q.contents; reads = reads_whole whole q.contents q.reads; not = q.not; number = q.number; line = q.line }); bytes_are = refl }
refused whole page f l (inr (inr q)) = absurd (fits (beginning whole) page f l q)

pub clear_prints : (known before after : Option (List ℕ)) (text page filed : List ℕ) (n : ℕ) → IfSome known (λ whole. text ≡ beginning whole) → Cleared text page filed n → Appends before after (take n filed) → IfSome known (Prints ClearPrints before after)
clear_prints None before after text page filed n e q a = tt
clear_prints (Some whole) before after text page filed n e q a = (take n filed, inl (cleared whole page filed n (subst (λ t. Cleared t page filed n) e q)), a)

pub refusal_prints : (known before after : Option (List ℕ)) (text page : List ℕ) (f : Fault) → length page ≡ 32768 → IfSome known (λ whole. text ≡ beginning whole) → Refused text (number f.refusal) f.line ⊎ (NoSheet text f ⊎ NoPage text page f) → Appends before after (printed (RefusedLine f ∷ [])) → IfSome known (Prints ClearPrints before after)
refusal_prints None before after text page f l e q a = tt
refusal_prints (Some whole) before after text page f l e q a = (printed (RefusedLine f ∷ []), inr (refused whole page f l (subst (λ t. Refused t (number f.refusal) f.line ⊎ (NoSheet t f ⊎ NoPage t page f)) e q)), a)
