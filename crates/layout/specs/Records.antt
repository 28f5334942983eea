-- What a record holds, and which rules its contents keep.
use Rattle.std.specs.Prelude.{◌≡◌, ℕ, ◌≤◌, max, cond, ◌⊎◌, List, [], ◌∷◌, map, length, ℤ, codes, ◌==◌, slice_index, slice_index_or}
use Rattle.std.specs.List.{AllByRecursion}
use Rattle.worth.specs.Money.{money, of_cents}
use Rattle.worth.specs.Weeks.{weeks, of_count}
use Rattle.book.specs.Allotments.{Allotment, Units, Alike}
use Rattle.book.specs.Arcs.{nodes}
use Rattle.book.specs.Books.{Book, Offer, Sound}
use Rattle.book.specs.Rows.{AllWith, map_with}
use Rattle.book.specs.declared.holding.Holding.{Holding}
use Rattle.book.specs.declared.line.Line.{Line}

-- the kinds of worth that records have
pub data Kind : Type 0 where
  by_money : Kind
  by_money_then_weeks : Kind

-- the words of a kind, one for each of its parts
abbrev pub words : Kind → List (List ℕ)
words by_money = codes "money" ∷ []
words by_money_then_weeks = codes "money" ∷ codes "weeks" ∷ []

-- how many parts a kind has
abbrev pub parts : Kind → ℕ
parts k = length (words k)

-- the kind with one part or two
abbrev pub kind_of : ℕ → Kind
kind_of n = cond (n == 1) by_money by_money_then_weeks

-- a line of an offer, and the units on it
pub record LineWithUnits : Type 0 where
  pub line : Line
  pub units : ℕ

-- an offer with the units on its lines; its limit is 0 where it is withdrawn
pub record OfferWithUnits : Type 0 where
  pub member : ℕ
  pub limit : ℕ
  pub give : List LineWithUnits
  pub get : List LineWithUnits

-- what a record holds: the kind of worth, the round with the units on its lines, and the levels of the nodes, one number for each part of the
-- kind, or no levels
pub record Contents : Type 0 where
  pub kind : Kind
  pub items : List (List ℕ)
  pub members : List (List ℕ)
  pub holdings : List Holding
  pub offers : List OfferWithUnits
  pub levels : List (List ℤ)

-- the line without the units
abbrev pub line_of : LineWithUnits → Line
line_of l = l.line

-- the units alone
abbrev pub units_of : LineWithUnits → ℕ
units_of l = l.units

-- the offer without the units
abbrev pub offer_of : OfferWithUnits → Offer
offer_of o = record { member = o.member; limit = o.limit; give = map line_of o.give; get = map line_of o.get }

-- the book of the round
abbrev pub book_of : Contents → Book
book_of x = record { items = x.items; members = x.members; holdings = x.holdings; offers = map offer_of x.offers }

-- what the offers are read as past their end
abbrev pub no_filled_offer : OfferWithUnits
no_filled_offer = record { member = 0; limit = 0; give = []; get = [] }

-- the units on the lines of a side, by the line's number
abbrev pub units_on : List LineWithUnits → ℕ → ℕ
units_on ls t = slice_index (map units_of ls) t

-- the allotment
abbrev pub allotted : Contents → Allotment
allotted x k = record { give = units_on (slice_index_or x.offers k no_filled_offer).give; get = units_on (slice_index_or x.offers k no_filled_offer).get }

-- the size of a level, an amount or an amount and a count of weeks
abbrev pub level_size : List ℤ → ℕ
level_size [] = 0
level_size (amount ∷ []) = money.size (of_cents amount)
level_size (amount ∷ count ∷ zs) = max (money.size (of_cents amount)) (weeks.size (of_count count))

-- a level has a number for each part of the kind, and a size of at most 1,000,000
abbrev pub FairLevel : Kind → List ℤ → Type 0
FairLevel k zs = (length zs ≡ parts k) × (level_size zs ≤ 1000000)

-- each line of a side has at most 1,000 units
abbrev pub FairUnits : List LineWithUnits → Type 0
FairUnits ls = AllByRecursion (λ l. l.units ≤ 1000) ls

-- the contents keep the rules: the book is sound, units and levels are within their bounds, and each node has a level or none has
pub record Valid (x : Contents) : Type 0 where
  pub sound : Sound (book_of x)
  pub units : AllByRecursion (λ o. FairUnits o.give × FairUnits o.get) x.offers
  pub levels : AllByRecursion (FairLevel x.kind) x.levels
  pub levelled : (length x.levels ≡ 0) ⊎ (length x.levels ≡ nodes (book_of x))

abbrev pub fill_line : Line → ℕ → LineWithUnits
fill_line l n = record { line = l; units = n }

-- the offer with units on its lines
abbrev pub fill_offer : Offer → Units → OfferWithUnits
fill_offer o u = record { member = o.member; limit = o.limit; give = map_with fill_line o.give u.give; get = map_with fill_line o.get u.get }

-- what the record of a round, an allotment and levels holds
abbrev pub contents_of : Kind → Book → Allotment → List (List ℤ) → Contents
contents_of k b a zs = record { kind = k; items = b.items; members = b.members; holdings = b.holdings; offers = map_with fill_offer b.offers a; levels = zs }

-- an allotment with at most 1,000 units on each line
abbrev pub FairAllotment : List Offer → Allotment → Type 0
FairAllotment os a = AllWith (λ o u. AllWith (λ l n. n ≤ 1000) o.give u.give × AllWith (λ l n. n ≤ 1000) o.get u.get) os a

-- each round, allotment and levels have their record: it holds that round and that allotment, and it keeps the rules where they do
pub record Recorded (k : Kind) (b : Book) (a : Allotment) (zs : List (List ℤ)) : Type 0 where
  pub book : book_of (contents_of k b a zs) ≡ b
  pub allotment : Alike b.offers (allotted (contents_of k b a zs)) a
  pub valid : Sound b → FairAllotment b.offers a → AllByRecursion (FairLevel k) zs → length zs ≡ nodes b → Valid (contents_of k b a zs)

abbrev pub AllRecorded : Type 0
AllRecorded = (k : Kind) (b : Book) (a : Allotment) (zs : List (List ℤ)) → Recorded k b a zs
