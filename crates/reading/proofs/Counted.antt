-- The counts of heads.
use Rattle.std.proofs.Common.{◌≡◌, ℕ, ◌≤◌, length, IfOk, Ok, Err, None, Result, sym, subst, inl, inr}
use Rattle.tables.specs.Refusals.{First}
use Rattle.tables.specs.declared.refusal.Refusal.{Refusal}
use Rattle.text.specs.Faults.{result_at}
use Rattle.text.specs.Numbers.{spelt}
use Rattle.text.specs.declared.fault.Fault.{Fault}
use Rattle.text.specs.declared.section.Section.{Section}
use Rattle.text.specs.NumbersLemmas.{same_from_spelt}
use Rattle.book.specs.Arcs.{nodes as node_count}
use Rattle.layout.specs.Layout.{head, spell, Counts, Fits, rules}
use Rattle.layout.specs.Records.{Contents, book_of}
use Rattle.reading.specs.Entries.{section_of, CountTested, FairCount}
use Rattle.reading.specs.Reading.{IsHead}
use Rattle.reading.specs.declared.entry.Entry.{Entry}
use Rattle.reading.proofs.Steps.{Lies, Judged}

-- a count that the section may not have is in no head of it
pub no_count : (s : Section) (x : Contents) (n : ℕ) → (Counts s x n → ⊥) → (k : ℕ) → Fits (head s) x k → IsHead s (spell (head s) k) n → ⊥
no_count s x n f k fits i =
    let t = i.0 in
    let e : spelt k ≡ spelt n = cc in
    f (subst (Counts s x) (same_from_spelt k n e) fits.0)

-- a count that was tested
module _ (e : Entry) (nodes n : ℕ) where
  pub count_judged : (x : Contents) → node_count (book_of x) ≡ nodes → length (spelt n) ≤ 13 → (r : Result ℕ Refusal) → CountTested e nodes n r → Judged (head (section_of e)) x (IsHead (section_of e)) n (λ m. m) r
  count_judged x q short (Ok m) t =
      let h = t.outcome x q in
      let s = section_of e in
      subst (λ k. Lies (head s) x (IsHead s) n k × First (rules (head s) x k) None) (sym h.0) (record { spells = λ bytes i. i.0; fits = (h.1, (short, tt)) }, h.2)
  count_judged x q short (Err d) t =
      elim (t.outcome x q) [
        | inl (p, not) ↦ inl (p, no_count (section_of e) x n not)
        | inr (counts, some) ↦ inr (n, record { spells = λ bytes i. i.0; fits = (counts, (short, tt)) }, some)
      ]

  pub fair_count : (line : ℕ) (r : Result ℕ Refusal) → CountTested e nodes n r → (o : Result ℕ Fault) → o ≡ result_at line r → IfOk o (λ m. FairCount e nodes m)
  fair_count line (Ok m) t o q = subst (λ w. IfOk w (λ m. FairCount e nodes m)) (sym q) (record { allowed = λ x p. let h = t.outcome x p in subst (Counts (section_of e) x) (sym h.0) h.1; few = t.few })
  fair_count line (Err d) t o q = subst (λ w. IfOk w (λ m. FairCount e nodes m)) (sym q) tt
