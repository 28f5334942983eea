-- What file does.
use Rattle.std.specs.Prelude.{◌≡◌, ℕ, ◌<◌, ◌≤◌, ◌≢◌, List, [], ◌∷◌, ◌++◌, length, take, drop, ℤ, IfOk, Result, MatchResult}
use Rattle.tables.specs.Refusals.{when, First, refusal}
use Rattle.tables.specs.declared.refusal.Refusal.{Refusal}
use Rattle.tables.specs.declared.refusal.Refusal.TheVariants.{Page}
use Rattle.worth.specs.Kinds.{Ops}
use Rattle.network.specs.Networks.{Net}
use Rattle.network.specs.Potentials.{Fitted}
use Rattle.book.specs.Allotments.{Allotment, Allowed, Alike}
use Rattle.book.specs.Arcs.{nodes, filled}
use Rattle.book.specs.Books.{Book, Any}
use Rattle.layout.specs.Records.{Kind, Contents, book_of, allotted, level_size, contents_of}
use Rattle.layout.specs.Render.{render}
use Rattle.layout.specs.Runs.{Reads}
use Rattle.record.specs.Evidence.{Passes}

-- what the record of a round holds, with the first levels, one for each node
abbrev pub filed : Kind → Book → Allotment → List (List ℤ) → Contents
filed k b a zs = contents_of k b a (take (nodes b) zs)

-- when filing is refused: a level out of bounds among the first, as far as they are there (3), fewer levels than nodes (10), or a page shorter
-- than the record (12)
abbrev pub RefusesFiling : Kind → Book → Allotment → List (List ℤ) → List ℕ → Result ℕ Refusal → Type 0
RefusesFiling k b a zs page r =
    First (when 3 (Any (λ z. 1000000 < level_size z) (take (nodes b) zs)) ∷ when 10 (length zs < nodes b) ∷ when 12 (length page < length (render (filed k b a zs))) ∷ []) (refusal r)

-- the record is at the start of the page, whose other bytes stay, and its length is answered; it reads back to that round, that allotment and
-- those levels
pub record Written (k : Kind) (b : Book) (a : Allotment) (zs : List (List ℤ)) (before after : List ℕ) (n : ℕ) : Type 0 where
  pub length : n ≡ length (render (filed k b a zs))
  pub page : after ≡ render (filed k b a zs) ++ drop n before
  pub reads : Reads (render (filed k b a zs)) (filed k b a zs)
  pub book : book_of (filed k b a zs) ≡ b
  pub allotment : Alike b.offers (allotted (filed k b a zs)) a

-- what file does; where it is refused nothing changes
pub record Files (k : Kind) (b : Book) (a : Allotment) (zs : List (List ℤ)) (before after : List ℕ) (r : Result ℕ Refusal) : Type 0 where
  pub refused : RefusesFiling k b a zs before r
  pub outcome : MatchResult r (λ n. Written k b a zs before after n) (λ _. after ≡ before)

-- a page of 15,000 bytes takes every record: with one the page is not what a call is refused for
abbrev pub Roomy : List ℕ → Refusal → Type 0
Roomy page e = 15000 ≤ length page → e ≢ Page

-- where the round's network n is filled by its allotment, which is allowed, as wherever a use of the round stops, and the worths fit it,
-- the record that is filed with them as levels zs passes
abbrev pub Evident : {W : Type 0} → Ops W → Kind → Book → Allotment → Net → List W → List (List ℤ) → List ℕ → Result ℕ Refusal → Type 0
Evident o k b a n worths zs after r = n ≡ filled b a → Allowed b a → Fitted o n worths → IfOk r (λ m. Passes (take m after) (filed k b a zs))
