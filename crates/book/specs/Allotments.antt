-- Allotments, which of them are allowed, and what they pay: over offers, items and members alone.
use Rattle.std.specs.Prelude.{◌≡◌, ℕ, ◌*◌, ◌<◌, ◌≤◌, cond, List, length, ℤ, pos, ◌-ℤ◌, Some, None, Option, ◌==◌, ◌≢◌, slice_index_or}
use Rattle.flow.specs.Graphs.{when}
use Rattle.book.specs.Rows.{sum_with, total_with, AllWith}
use Rattle.book.specs.Books.{Book, Offer, held_by, no_offer}
use Rattle.book.specs.declared.line.Line.{Line}

-- whole units, 0 or more, on each line of an offer, by the line's number on its side
pub record Units : Type 0 where
  pub give : ℕ → ℕ
  pub get : ℕ → ℕ

-- the units of each offer, by the offer's number
abbrev pub Allotment : Type 0
Allotment = ℕ → Units

-- the units x on all lines of a side
abbrev pub all_of : List Line → (ℕ → ℕ) → ℕ
all_of ls x = sum_with (λ l n. n) ls x

-- those on the lines of item j
abbrev pub of_item : ℕ → List Line → (ℕ → ℕ) → ℕ
of_item j ls x = sum_with (λ l n. when (l.item == j) n) ls x

-- the units of item j got over all offers
abbrev pub got : List Offer → Allotment → ℕ → ℕ
got os a j = sum_with (λ o u. of_item j o.get u.get) os a

-- the units of item j given over all offers
abbrev pub given : List Offer → Allotment → ℕ → ℕ
given os a j = sum_with (λ o u. of_item j o.give u.give) os a

-- the units of item j that member m gives over all its offers
abbrev pub given_by : List Offer → Allotment → ℕ → ℕ → ℕ
given_by os a m j = sum_with (λ o u. when (o.member == m) (of_item j o.give u.give)) os a

-- n units of item j may be given from what is held of it: at most that, or, where nothing is entered, any cash and no other item
abbrev pub MayGive : Option ℕ → ℕ → ℕ → Type 0
MayGive (Some units) j n = n ≤ units
MayGive None j n = (j ≢ 0) → n ≡ 0

-- no line has more units than its limit
abbrev pub KeepsLimits : List Line → (ℕ → ℕ) → Type 0
KeepsLimits ls x = AllWith (λ l n. n ≤ l.limit) ls x

-- an allotment is allowed: each offer gets as many units as it gives, of each item as many are got as given, no member gives more of an item
-- than it may, no line has more than its limit, and no offer gives more than its limit
pub record Allowed (b : Book) (a : Allotment) : Type 0 where
  pub evenly : AllWith (λ o u. all_of o.get u.get ≡ all_of o.give u.give) b.offers a
  pub cleared : (j : ℕ) → j < length b.items → got b.offers a j ≡ given b.offers a j
  pub owned : (m j : ℕ) → m < length b.members → j < length b.items → MayGive (held_by b.holdings m j) j (given_by b.offers a m j)
  pub gives : AllWith (λ o u. KeepsLimits o.give u.give) b.offers a
  pub gets : AllWith (λ o u. KeepsLimits o.get u.get) b.offers a
  pub limits : AllWith (λ o u. all_of o.give u.give ≤ o.limit) b.offers a

-- the same units on each line of an offer
pub record AlikeOn (o : Offer) (u w : Units) : Type 0 where
  pub give : (t : ℕ) → t < length o.give → u.give t ≡ w.give t
  pub get : (t : ℕ) → t < length o.get → u.get t ≡ w.get t

-- allotments that put the same units on each line of each offer
abbrev pub Alike : List Offer → Allotment → Allotment → Type 0
Alike os a c = (k : ℕ) → k < length os → AlikeOn (slice_index_or os k no_offer) (a k) (c k)

-- price × units over the lines of a side
abbrev pub price_of : List Line → (ℕ → ℕ) → ℕ
price_of ls x = sum_with (λ l n. l.price * n) ls x

-- what an offer pays: over its get lines, less over its give lines
abbrev pub payoff : Offer → Units → ℤ
payoff o u = pos (price_of o.get u.get) -ℤ pos (price_of o.give u.give)

-- the sum of the payoffs
abbrev pub payoffs : List Offer → Allotment → ℤ
payoffs os a = total_with payoff os a

-- the units x on lines that are not of cash
abbrev pub weeks_on : List Line → (ℕ → ℕ) → ℕ
weeks_on ls x = sum_with (λ l n. cond (l.item == 0) 0 n) ls x

-- the weeks that an offer gets
abbrev pub weeks_of : Offer → Units → ℕ
weeks_of o u = weeks_on o.get u.get

-- the weeks got over all offers
abbrev pub weeks_got : List Offer → Allotment → ℕ
weeks_got os a = sum_with weeks_of os a
