-- What a round holds, and what is always true of it.
use Rattle.std.specs.Prelude.{◌≡◌, ℕ, ◌+◌, ◌<◌, ◌≤◌, Bool, cond, ◌&&◌, List, [], ◌∷◌, map, length, get_or, Some, None, codes, Option, ◌==◌, ◌≢◌, slice_index_or}
use Rattle.std.specs.Option.{option_map}
use Rattle.std.specs.List.{AllByRecursion}
use Rattle.book.specs.Spelling.{Spelt}
use Rattle.book.specs.declared.line.Line.{Line}
use Rattle.book.specs.declared.holding.Holding.{Holding}

-- what a member would give and get, and how many units of it in all; the limit is 0 once it is withdrawn
pub record Offer : Type 0 where
  pub member : ℕ
  pub limit : ℕ
  pub give : List Line
  pub get : List Line

-- the names of the items, of which the first is cash, and of the members, the holdings and the offers, each in the order first made
pub record Book : Type 0 where
  pub items : List (List ℕ)
  pub members : List (List ℕ)
  pub holdings : List Holding
  pub offers : List Offer

-- what the lists are read as past their ends
abbrev pub no_line : Line
no_line = record { item = 0; limit = 0; price = 0 }

-- the holdings likewise
abbrev pub no_holding : Holding
no_holding = record { member = 0; item = 0; units = 0 }

-- and the offers
abbrev pub no_offer : Offer
no_offer = record { member = 0; limit = 0; give = []; get = [] }

-- offer k of a book
abbrev pub offer_at : Book → ℕ → Offer
offer_at b k = slice_index_or b.offers k no_offer

-- the holding is member m's of item i
abbrev pub is_of : Holding → ℕ → ℕ → Bool
is_of h m i = h.member == m && h.item == i

-- the number of member m's holding of item i, or none where no entry exists
abbrev pub spot_of : List Holding → ℕ → ℕ → Option ℕ
spot_of [] m i = None
spot_of (h ∷ hs) m i = cond (is_of h m i) (Some 0) (option_map (λ k. 1 + k) (spot_of hs m i))

-- the units that member m holds of item i, or none where no entry exists
abbrev pub held_by : List Holding → ℕ → ℕ → Option ℕ
held_by hs m i = option_map (λ k. (get_or hs k no_holding).units) (spot_of hs m i)

-- no entry stands twice
abbrev pub Distinct : {X : Type 0} → List X → Type 0
Distinct {X} xs = (i j : ℕ) (d : X) → i < j → j < length xs → slice_index_or xs i d ≢ slice_index_or xs j d

-- some entry stands twice
abbrev pub Twice : {X : Type 0} → List X → Type 0
Twice {X} xs = (j : ℕ) × (j < length xs) × (i : ℕ) × (i < j) × ((d : X) → slice_index_or xs i d ≡ slice_index_or xs j d)

-- some entry has the property
abbrev pub Any : {X : Type 0} → (X → Type 0) → List X → Type 0
Any {X} P xs = (k : ℕ) × (k < length xs) × ((d : X) → P (slice_index_or xs k d))

-- the item of a line
abbrev pub item_of : Line → ℕ
item_of l = l.item

-- the member and the item of a holding
abbrev pub pair : Holding → ℕ × ℕ
pair h = (h.member, h.item)

-- cash on both sides, given at a lower price than got
abbrev pub Loop : List Line → List Line → Type 0
Loop give get = Any (λ g. (g.item ≡ 0) × Any (λ w. (w.item ≡ 0) × (g.price < w.price)) get) give

-- how many lines the offers have, over both sides
abbrev pub line_count : List Offer → ℕ
line_count [] = 0
line_count (o ∷ os) = (length o.give + length o.get) + line_count os

-- a holding of one of n items by one of m members, of at most 1,000 units
abbrev pub FairHolding : ℕ → ℕ → Holding → Type 0
FairHolding n m h = (h.member < m) × (h.item < n) × (h.units ≤ 1000)

-- a line of one of n items, within the bounds of limits and prices
pub record Fair (n : ℕ) (l : Line) : Type 0 where
  pub known : l.item < n
  pub least : 1 ≤ l.limit
  pub most : l.limit ≤ 1000
  pub price : l.price ≤ 1000000

-- a side of an offer: it is not bare, and no item stands on it twice
pub record Side (n : ℕ) (ls : List Line) : Type 0 where
  pub some : 1 ≤ length ls
  pub fair : AllByRecursion (Fair n) ls
  pub apart : Distinct (map item_of ls)

-- an offer over n items by one of m members
pub record FairOffer (n m : ℕ) (o : Offer) : Type 0 where
  pub known : o.member < m
  pub most : o.limit ≤ 1000
  pub gives : Side n o.give
  pub gets : Side n o.get
  pub no_loop : Loop o.give o.get → ⊥

-- what is true of every round's book
pub record Sound (b : Book) : Type 0 where
  pub cash : (0 < length b.items) × (slice_index_or b.items 0 [] ≡ codes "cash")
  pub items_spelt : AllByRecursion Spelt b.items
  pub items_apart : Distinct b.items
  pub items_few : length b.items ≤ 16
  pub members_spelt : AllByRecursion Spelt b.members
  pub members_apart : Distinct b.members
  pub members_few : length b.members ≤ 32
  pub holdings_fair : AllByRecursion (FairHolding (length b.items) (length b.members)) b.holdings
  pub holdings_apart : Distinct (map pair b.holdings)
  pub holdings_few : length b.holdings ≤ 128
  pub offers_fair : AllByRecursion (FairOffer (length b.items) (length b.members)) b.offers
  pub offers_few : length b.offers ≤ 64
  pub lines_few : line_count b.offers ≤ 256
