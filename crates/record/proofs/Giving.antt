-- Units summed line by line and offer by offer.
use Rattle.std.proofs.Common.{◌≡◌, ℕ, suc, ◌+◌, ◌*◌, ◌^◌, ◌<◌, ◌≤◌, Bool, true, false, eqb, cond, List, [], ◌∷◌, ◌++◌, map, length, get_or, sum, refl, ap, ◌∙◌, arith}
use Rattle.std.specs.List.{filter, sum_by, zip}
use Rattle.std.proofs.ByRecursion.{All-from_get_or, sum_by_le}
use Rattle.std.proofs.lemmas.List.{length-append, length-map}
use Rattle.std.proofs.lemmas.List.Sums.{sum_by-cons}
use Rattle.flow.specs.Graphs.{when}
use Rattle.book.specs.Allotments.{of_item, given_by}
use Rattle.book.specs.declared.holding.Holding.{Holding}
use Rattle.book.specs.declared.line.Line.{Line}
use Rattle.layout.specs.Records.{OfferWithUnits, Contents, no_filled_offer, line_of, units_of, units_on, offer_of}
use Rattle.layout.proofs.Recorded.{lines_same}
use Rattle.reading.specs.Held.{units_in}
use Rattle.record.specs.Filled.{filled, given_in}
use Rattle.record.specs.Flows.{Moderate}
use Rattle.record.specs.declared.record_network.filled.FilledOffer.{FilledOffer}
use Rattle.record.proofs.Flowing.{allotment}
use Rattle.record.proofs.Showing.{Bounded, units_back}

-- all units of a side can be summed
pub total_fits : (ls : List Line) (us : List ℕ) → Moderate ls us → sum us < 2 ^ 32
total_fits ls us m = omega (arith, m.few, sum_by_le (λ n. n) 1000 us (All-from_get_or (λ n. n ≤ 1000) us 0 (λ t _. m.small t)))

-- the units on the lines of an item, as the library picks and sums them
picked : (b : Bool) (l : Line) (u : ℕ) (ps : List (Line × ℕ)) → sum (map (λ p. p.1) (cond b ((l, u) ∷ ps) ps)) ≡ when b u + sum (map (λ p. p.1) ps)
picked true l u ps = sum_by-cons (λ n. n) u (map (λ p. p.1) ps)
picked false l u ps = omega arith

pub item_summed : (j : ℕ) (ls : List Line) (us : List ℕ) → length ls ≡ length us → sum (map (λ p. p.1) (filter (λ p. eqb p.0.item j) (zip ls us))) ≡ of_item j ls (λ t. get_or us t 0)
item_summed j [] us e = refl
item_summed j (l ∷ ls) [] e = absurd (omega arith)
item_summed j (l ∷ ls) (u ∷ us) e = picked (eqb l.item j) l u (filter (λ p. eqb p.0.item j) (zip ls us)) ∙ ap (λ n. when (eqb l.item j) u + n) (item_summed j ls us (omega arith))

when_le : (b : Bool) (n : ℕ) → when b n ≤ n
when_le true n = omega arith
when_le false n = omega arith

of_item_le : (j : ℕ) (ls : List Line) (u : ℕ → ℕ) → ((t : ℕ) → u t ≤ 1000) → of_item j ls u ≤ 1000 * length ls
of_item_le j [] u h = omega arith
of_item_le j (l ∷ ls) u h = omega (arith, when_le (eqb l.item j) (u 0), h 0, of_item_le j ls (λ t. u (suc t)) (λ t. h (suc t)))

pub item_fits : (j : ℕ) (ls : List Line) (us : List ℕ) → Moderate ls us → sum (map (λ p. p.1) (filter (λ p. eqb p.0.item j) (zip ls us))) < 2 ^ 32
item_fits j ls us m = omega (arith, item_summed j ls us m.long, of_item_le j ls (λ t. get_or us t 0) m.small, m.long, m.few)

-- what an offer gives from a holding, by its lines and its row of units
pub given_shown : (h : Holding) (v : FilledOffer) → given_in h (filled v) ≡ when (eqb v.offer.member h.member) (of_item h.item v.offer.give.now (λ t. get_or v.given.now t 0))
given_shown h v =
    let ls = lines_same v.offer.give.now (λ t. get_or v.given.now t 0) in
    let us = units_back v.offer.give.now v.given.now v.gives.long in
    (λ i. when (eqb v.offer.member h.member) (of_item h.item (ls i) (λ t. get_or (us i) t 0)))

module _ (h : Holding) where
  -- what all give from it
  pub given_sum : (os : List OfferWithUnits) → sum_by (given_in h) os ≡ given_by (map offer_of os) (allotment os) h.member h.item
  given_sum [] = refl
  given_sum (o ∷ os) = sum_by-cons (given_in h) o os ∙ ap (λ n. given_in h o + n) (given_sum os)

  given_le : (os : List OfferWithUnits) → ((k t : ℕ) → units_on (get_or os k no_filled_offer).give t ≤ 1000) → sum_by (given_in h) os ≤ 1000 * length (units_in os)
  given_le [] s = omega arith
  given_le (o ∷ os) s =
      let lines = map line_of o.give in
      omega (arith, sum_by-cons (given_in h) o os, when_le (eqb o.member h.member) (of_item h.item lines (units_on o.give)), of_item_le h.item lines (units_on o.give) (s 0), length-map o.give line_of, length-map o.give units_of, length-append (map units_of o.give) (map units_of o.get ++ units_in os), length-append (map units_of o.get) (units_in os), given_le os (λ k. s (suc k)))

  pub given_fits : (x : Contents) → Bounded x → sum_by (given_in h) x.offers < 2 ^ 32
  given_fits x bs = omega (arith, given_le x.offers (λ k t. (bs.units k t).0), bs.lines)
