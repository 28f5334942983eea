-- The worth of a filled network in integers: its money is the sum of the payoffs, its weeks are the weeks got.
use Rattle.std.proofs.Common.{◌≡◌, ℕ, zero, suc, ◌+◌, ◌*◌, Bool, true, false, cond, eqb, List, [], ◌∷◌, ◌++◌, length, ℤ, pos, ◌+ℤ◌, ◌-ℤ◌, ◌*ℤ◌, neg_ℤ, sym, refl, ap, ◌∙◌, ap₂, mul_comm, arith}
use lib.IntN.{+ℤ_assoc, +ℤ_comm, +ℤ_idl, *ℤ-zero, zero-*ℤ, suc_ℤ-*ℤ, pos-*ℤ-pos, pos-*ℤ-negsuc}
use Rattle.std.proofs.lemmas.Int.{ints}
use Rattle.worth.specs.Kinds.{Ops}
use Rattle.worth.specs.Money.{money}
use Rattle.worth.specs.Weeks.{weeks}
use Rattle.worth.specs.Lexicographic.{pile}
use Rattle.flow.specs.Groups.{times, total}
use Rattle.flow.specs.Arcs.{arc_at, flow_of}
use Rattle.flow.specs.declared.arc.Arc.{Arc}
use Rattle.network.specs.Networks.{Net, value}
use Rattle.book.specs.Rows.{sum_with, total_with, map_with}
use Rattle.book.specs.Books.{Book, Offer}
use Rattle.book.specs.Allotments.{Allotment, Units, price_of, payoff, payoffs, weeks_of, weeks_got}
use Rattle.book.specs.Arcs.{OfferFlows, holding_arc, holding_arcs, give_arc, own_arc, get_arc, offer_arcs, offers_arcs, filling, filled}
use Rattle.book.specs.Agreement.{MoneyIsPayoffs, MoneyThenWeeks}
use Rattle.book.specs.declared.line.Line.{Line}
use Rattle.book.specs.declared.holding.Holding.{Holding}
use Rattle.book.proofs.Split.{lines_of}

-- units × worth of one, over the arcs, in integers
abbrev amount : (Arc → ℤ) → List Arc → ℤ
amount u [] = pos 0
amount u (a ∷ xs) = (pos a.flow *ℤ u a) +ℤ amount u xs

total_z : ℕ → (ℕ → ℤ) → ℤ
total_z zero f = pos 0
total_z (suc n) f = total_z n f +ℤ f n

total_front : (n : ℕ) (f : ℕ → ℤ) → total_z (suc n) f ≡ f 0 +ℤ total_z n (λ i. f (suc i))
unfolding total_z
total_front zero f = +ℤ_comm (pos 0) (f 0)
total_front (suc n) f = ap (λ t. t +ℤ f (suc n)) (total_front n f) ∙ +ℤ_assoc (f 0) (total_z n (λ i. f (suc i))) (f (suc n))

-- an integer that is read off worths and that adds up as they do
pub record Adds {W : Type 0} (o : Ops W) (part : W → ℤ) : Type 0 where
  pub none : part o.none ≡ pos 0
  pub plus : (x y : W) → part (o.plus x y) ≡ part x +ℤ part y

module _ {W : Type 0} (o : Ops W) (part : W → ℤ) (adds : Adds o part) where
  part_times : (n : ℕ) (w : W) → part (times o n w) ≡ pos n *ℤ part w
  part_times zero w = adds.none ∙ sym (zero-*ℤ (part w))
  part_times (suc n) w = adds.plus w (times o n w) ∙ ap (λ t. part w +ℤ t) (part_times n w) ∙ +ℤ_comm (part w) (pos n *ℤ part w) ∙ sym (suc_ℤ-*ℤ (pos n) (part w))

  part_total : (n : ℕ) (f : ℕ → W) → part (total o n f) ≡ total_z n (λ i. part (f i))
  unfolding total_z
  part_total zero f = adds.none
  part_total (suc n) f = adds.plus (total o n f) (f n) ∙ ap (λ t. t +ℤ part (f n)) (part_total n f)

  abbrev unit_part : Arc → ℤ
  unit_part a = part (o.unit a.price a.weeks)

  along : (xs : List Arc) → total_z (length xs) (λ i. part (times o (flow_of xs i) (o.unit (arc_at xs i).price (arc_at xs i).weeks))) ≡ amount unit_part xs
  unfolding total_z
  along [] = refl
  along (x ∷ xs) = total_front (length xs) (λ i. part (times o (flow_of (x ∷ xs) i) (o.unit (arc_at (x ∷ xs) i).price (arc_at (x ∷ xs) i).weeks))) ∙ ap₂ ◌+ℤ◌ (part_times x.flow (o.unit x.price x.weeks)) (along xs)

  part_value : (n : Net) → part (value o n) ≡ amount unit_part n.arcs
  part_value n = part_total (length n.arcs) (λ i. times o (flow_of n.arcs i) (o.unit (arc_at n.arcs i).price (arc_at n.arcs i).weeks)) ∙ along n.arcs

amount_append : (u : Arc → ℤ) (xs ys : List Arc) → amount u (xs ++ ys) ≡ amount u xs +ℤ amount u ys
amount_append u [] ys = sym (+ℤ_idl (amount u ys))
amount_append u (a ∷ xs) ys = ap (λ t. (pos a.flow *ℤ u a) +ℤ t) (amount_append u xs ys) ∙ sym (+ℤ_assoc (pos a.flow *ℤ u a) (amount u xs) (amount u ys))

-- where nothing counts on an arc with neither price nor weeks, and on an offer's arcs counts what `side` says, the sides add up
module _ (u : Arc → ℤ) (side : Offer → Units → ℤ) (bare : (a : Arc) → a.price ≡ pos 0 → a.weeks ≡ 0 → u a ≡ pos 0) (offer : (n : ℕ) (hs : List Holding) (p : ℕ) (o : Offer) (g : OfferFlows) → amount u (offer_arcs n hs p o g) ≡ side o (record { give = g.give; get = g.get })) where
  amount_held : (q : ℕ) (hs : List Holding) (x : ℕ → ℕ) → amount u (holding_arcs q hs x) ≡ pos 0
  amount_held q [] x = refl
  amount_held q (h ∷ hs) x =
      ap₂ ◌+ℤ◌ (ap (λ t. pos (x 0) *ℤ t) (bare (holding_arc q h (x 0)) refl refl) ∙ *ℤ-zero (pos (x 0))) (amount_held (q + 1) hs (λ k. x (suc k)))

  amount_offers : (n : ℕ) (hs : List Holding) (p : ℕ) (os : List Offer) (f : ℕ → OfferFlows) → amount u (offers_arcs n hs p os f) ≡ total_with side os (lines_of f)
  amount_offers n hs p [] f = refl
  amount_offers n hs p (o ∷ os) f = amount_append u (offer_arcs n hs p o (f 0)) (offers_arcs n hs (p + 2) os (λ k. f (suc k))) ∙ ap₂ ◌+ℤ◌ (offer n hs p o (f 0)) (amount_offers n hs (p + 2) os (λ k. f (suc k)))

  amount_filled : (b : Book) (a : Allotment) → amount u (filled b a).arcs ≡ total_with side b.offers a
  amount_filled b a =
      let n : ℕ = length b.items in
      amount_append u (holding_arcs n b.holdings (filling b a).held) (offers_arcs n b.holdings (n + length b.holdings) b.offers (filling b a).offers)
      ∙ ap₂ ◌+ℤ◌ (amount_held n b.holdings (filling b a).held) (amount_offers n b.holdings (n + length b.holdings) b.offers (filling b a).offers)
      ∙ +ℤ_idl (total_with side b.offers a)

-- money
abbrev cents_of : Arc → ℤ
cents_of a = a.price

negated : (y p : ℕ) → pos y *ℤ neg_ℤ (pos p) ≡ neg_ℤ (pos (p * y))
negated y zero = let e : 0 ≡ 0 * y = omega arith in *ℤ-zero (pos y) ∙ ap (λ t. neg_ℤ (pos t)) e
negated y (suc p) = pos-*ℤ-negsuc y p ∙ ap (λ t. neg_ℤ (pos t)) (mul_comm y (suc p))

neg_plus : (a b : ℕ) → neg_ℤ (pos a) +ℤ neg_ℤ (pos b) ≡ neg_ℤ (pos (a + b))
neg_plus a b = omega (arith, ints)

both_sides : (g t : ℕ) → neg_ℤ (pos g) +ℤ (pos 0 +ℤ pos t) ≡ pos t -ℤ pos g
both_sides g t = omega (arith, ints)

cents_give : (n : ℕ) (hs : List Holding) (m p : ℕ) (ls : List Line) (x : ℕ → ℕ) → amount cents_of (map_with (give_arc n hs m p) ls x) ≡ neg_ℤ (pos (price_of ls x))
cents_give n hs m p [] x = refl
cents_give n hs m p (l ∷ ls) x = ap₂ ◌+ℤ◌ (negated (x 0) l.price) (cents_give n hs m p ls (λ t. x (suc t))) ∙ neg_plus (l.price * x 0) (price_of ls (λ t. x (suc t)))

cents_get : (p : ℕ) (ls : List Line) (x : ℕ → ℕ) → amount cents_of (map_with (get_arc p) ls x) ≡ pos (price_of ls x)
cents_get p [] x = refl
cents_get p (l ∷ ls) x = ap₂ ◌+ℤ◌ (pos-*ℤ-pos (x 0) l.price ∙ ap pos (mul_comm (x 0) l.price)) (cents_get p ls (λ t. x (suc t)))

cents_offer : (n : ℕ) (hs : List Holding) (p : ℕ) (o : Offer) (g : OfferFlows) → amount cents_of (offer_arcs n hs p o g) ≡ payoff o (record { give = g.give; get = g.get })
cents_offer n hs p o g =
    amount_append cents_of (map_with (give_arc n hs o.member p) o.give g.give) (own_arc p o.limit g.own ∷ map_with (get_arc (p + 1)) o.get g.get)
    ∙ ap₂ ◌+ℤ◌ (cents_give n hs o.member p o.give g.give) (ap₂ ◌+ℤ◌ (*ℤ-zero (pos g.own)) (cents_get (p + 1) o.get g.get))
    ∙ both_sides (price_of o.give g.give) (price_of o.get g.get)

cents_filled : (b : Book) (a : Allotment) → amount cents_of (filled b a).arcs ≡ payoffs b.offers a
cents_filled b a = amount_filled cents_of payoff (λ a e f. e) cents_offer b a

-- weeks
abbrev count_of : Arc → ℤ
count_of a = pos a.weeks

counted : (b : Bool) (x : ℕ) → pos x *ℤ pos (cond b 0 1) ≡ pos (cond b 0 x)
counted true x = *ℤ-zero (pos x)
counted false x = let e : x * 1 ≡ x = omega arith in pos-*ℤ-pos x 1 ∙ ap pos e

count_give : (n : ℕ) (hs : List Holding) (m p : ℕ) (ls : List Line) (x : ℕ → ℕ) → amount count_of (map_with (give_arc n hs m p) ls x) ≡ pos 0
count_give n hs m p [] x = refl
count_give n hs m p (l ∷ ls) x = ap₂ ◌+ℤ◌ (*ℤ-zero (pos (x 0))) (count_give n hs m p ls (λ t. x (suc t)))

count_get : (p : ℕ) (ls : List Line) (x : ℕ → ℕ) → amount count_of (map_with (get_arc p) ls x) ≡ pos (sum_with (λ l n. cond (eqb l.item 0) 0 n) ls x)
count_get p [] x = refl
count_get p (l ∷ ls) x = ap₂ ◌+ℤ◌ (counted (eqb l.item 0) (x 0)) (count_get p ls (λ t. x (suc t)))

count_offer : (n : ℕ) (hs : List Holding) (p : ℕ) (o : Offer) (g : OfferFlows) → amount count_of (offer_arcs n hs p o g) ≡ pos (weeks_of o (record { give = g.give; get = g.get }))
count_offer n hs p o g =
    amount_append count_of (map_with (give_arc n hs o.member p) o.give g.give) (own_arc p o.limit g.own ∷ map_with (get_arc (p + 1)) o.get g.get)
    ∙ ap₂ ◌+ℤ◌ (count_give n hs o.member p o.give g.give) (ap₂ ◌+ℤ◌ (*ℤ-zero (pos g.own)) (count_get (p + 1) o.get g.get))
    ∙ +ℤ_idl _ ∙ +ℤ_idl _

count_total : (os : List Offer) (a : Allotment) → total_with (λ o u. pos (weeks_of o u)) os a ≡ pos (weeks_got os a)
count_total [] a = refl
count_total (o ∷ os) a = ap (λ t. pos (weeks_of o (a 0)) +ℤ t) (count_total os (λ k. a (suc k)))

count_filled : (b : Book) (a : Allotment) → amount count_of (filled b a).arcs ≡ pos (weeks_got b.offers a)
count_filled b a = amount_filled count_of (λ o u. pos (weeks_of o u)) (λ a e f. ap pos f) count_offer b a ∙ count_total b.offers a

pub money_is_payoffs_lem : MoneyIsPayoffs
money_is_payoffs_lem b a = part_value money (λ w. w.cents) (record { none = refl; plus = λ x y. refl }) (filled b a) ∙ cents_filled b a

pub money_then_weeks : MoneyThenWeeks
money_then_weeks b a = (
  part_value (pile money weeks) (λ w. w.first.cents) (record { none = refl; plus = λ x y. refl }) (filled b a) ∙ cents_filled b a,
  part_value (pile money weeks) (λ w. w.second.count) (record { none = refl; plus = λ x y. refl }) (filled b a) ∙ count_filled b a,
)
