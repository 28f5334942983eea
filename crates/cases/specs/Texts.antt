-- What a text reads as, and what check, file and clear_sheet come to.
use Rattle.std.specs.Prelude.{◌≡◌, ℕ, ◌≤◌, List, ◌++◌, length, take, drop, ℤ, Ok, Result, MatchResult}
use Rattle.tables.specs.Refusals.{number}
use Rattle.tables.specs.declared.refusal.Refusal.{Refusal}
use Rattle.text.specs.declared.fault.Fault.{Fault}
use Rattle.book.specs.Books.{Book}
use Rattle.book.specs.Allotments.{Allotment}
use Rattle.layout.specs.Records.{Kind, Contents, book_of}
use Rattle.layout.specs.Runs.{Reads}
use Rattle.record.specs.Checks.{Checks}
use Rattle.record.specs.Files.{Files}
use Rattle.record.specs.Sheets.{Clearing}
use Rattle.record.specs.declared.passed.Passed.{Passed}
use Rattle.record.specs.declared.passed.OfferResult.{OfferResult}
use Rattle.record.specs.declared.passed.Total.{Total}

-- the text reads as a record of this kind, of a round with this book
pub record RecordOf (text : List ℕ) (k : Kind) (b : Book) : Type 0 where
  pub some : (x : Contents) × Reads text x
  pub every : (x : Contents) → Reads text x → (x.kind ≡ k) × (book_of x ≡ b)

-- check can answer, and P holds of each answer
pub record Check (text : List ℕ) (P : Result Passed Fault → Type 0) : Type 0 where
  pub some : (r : Result Passed Fault) × Checks text r
  pub every : (r : Result Passed Fault) → Checks text r → P r

-- the text passes, with this worth and these results of its offers
abbrev pub Passing : List ℕ → Total → List OfferResult → Type 0
Passing text worth offers = Check text (λ r. MatchResult r (λ p. (p.worth ≡ worth) × (p.offers ≡ offers)) (λ _. ⊥))

-- the text gets the refusal of this number, at this line, or at line 0 where no line is to blame
abbrev pub Failing : List ℕ → ℕ → ℕ → Type 0
Failing text n line = Check text (λ r. MatchResult r (λ _. ⊥) (λ f. (number f.refusal ≡ n) × (f.line ≡ line)))

-- on each page that is long enough file can write the record of this book, this allotment and these levels; and however it comes
-- back, it is not refused, the text is at the start of the page, whose other bytes stay, and n is answered
pub record Filing (text : List ℕ) (k : Kind) (b : Book) (a : Allotment) (levels : List (List ℤ)) (n : ℕ) : Type 0 where
  pub some : (page : List ℕ) → length text ≤ length page → (after : List ℕ) × (r : Result ℕ Refusal) × Files k b a levels page after r
  pub every : (page after : List ℕ) (r : Result ℕ Refusal) → length text ≤ length page → Files k b a levels page after r → (r ≡ Ok n) × (after ≡ text ++ drop n page)

-- on each page of 32,768 bytes clear_sheet can clear the sheet; and however it comes back, it is not refused, and as many bytes of
-- the page as it answers are a text that passes with this worth and these results of its offers
pub record ClearingSheet (sheet : List ℕ) (worth : Total) (offers : List OfferResult) : Type 0 where
  pub some : (page : List ℕ) → 32768 ≤ length page → (after : List ℕ) × (r : Result ℕ Fault) × Clearing sheet page after r
  pub every : (page after : List ℕ) (r : Result ℕ Fault) → 32768 ≤ length page → Clearing sheet page after r → MatchResult r (λ n. Passing (take n after) worth offers) (λ _. ⊥)
