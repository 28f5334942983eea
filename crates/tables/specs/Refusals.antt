-- Why a call is refused, with which number, and which of several reasons is given.
use Rattle.std.specs.Prelude.{◌≡◌, ℕ, List, [], ◌∷◌, ◌++◌, Some, None, Ok, Err, codes, decimal, Option, Result}
use Rattle.tables.specs.declared.refusal.Refusal.{Refusal}
use Rattle.tables.specs.declared.refusal.Refusal.TheVariants.{Unknown, Full, Bounds, Price, Spelling, Double, Bare, Loop, Withdrawn, Short, Unfit, Page, Layout, Long, Rule, Sheet}

-- the number of each refusal
abbrev pub number : Refusal → ℕ
number Unknown = 1
number Full = 2
number Bounds = 3
number Price = 4
number Spelling = 5
number Double = 6
number Bare = 7
number Loop = 8
number Withdrawn = 9
number Short = 10
number Unfit = 11
number Page = 12
number Layout = 13
number Long = 14
number Rule = 15
number Sheet = 16

-- its name for humans
abbrev pub named : Refusal → List ℕ
named Unknown = codes "no such member, item, offer, line, place or leg"
named Full = codes "a size would be exceeded"
named Bounds = codes "limit, holding, room, weeks, units or level out of bounds"
named Price = codes "price out of bounds"
named Spelling = codes "name ill spelt, or first item not cash"
named Double = codes "double name, holding or item on a side"
named Bare = codes "a side without lines"
named Loop = codes "cash given at a lower price than got"
named Withdrawn = codes "the offer is already withdrawn"
named Short = codes "work table or levels shorter than the places"
named Unfit = codes "levels do not fit"
named Page = codes "page shorter than the record"
named Layout = codes "text departs from the layout"
named Long = codes "text over 32,768 bytes"
named Rule = codes "a rule of allotments or a room is broken"
named Sheet = codes "text reads but is not a sheet"

-- the text of a refusal: its number and its name
abbrev pub described : Refusal → List ℕ
described e = decimal (number e) ++ (codes ": " ++ named e)

-- a condition, with the number of the refusal that it brings
pub data Row : Type 1 where
  when : ℕ → Type 0 → Row

-- the answer is the number of the first row whose condition holds, or none where none holds
abbrev pub First : List Row → Option ℕ → Type 0
First [] r = r ≡ None
First (when n P ∷ rows) r = (P → r ≡ Some n) × ((P → ⊥) → First rows r)

-- the number that a call was refused with, or none where it was not
abbrev pub refusal : {X : Type 0} → Result X Refusal → Option ℕ
refusal (Ok x) = None
refusal (Err e) = Some (number e)
