-- Each round, allotment and levels have their record.
use Rattle.std.proofs.Common.{◌≡◌, ℕ, zero, suc, ◌<◌, ◌≤◌, List, [], ◌∷◌, map, length, get_or, sym, refl, ap, ◌∙◌, subst, inr, arith}
use Rattle.std.specs.List.{AllByRecursion}
use Rattle.book.specs.Allotments.{Allotment, AlikeOn}
use Rattle.book.specs.Arcs.{nodes}
use Rattle.book.specs.Books.{Offer, no_offer, Sound}
use Rattle.book.specs.Rows.{AllWith, map_with}
use Rattle.book.specs.declared.line.Line.{Line}
use Rattle.layout.specs.Records.{no_filled_offer, line_of, units_on, offer_of, book_of, fill_line, fill_offer, contents_of, FairUnits, FairAllotment, AllRecorded}

pub lines_same : (ls : List Line) (u : ℕ → ℕ) → map line_of (map_with fill_line ls u) ≡ ls
lines_same [] u = refl
lines_same (l ∷ ls) u = ap (λ ms. l ∷ ms) (lines_same ls (λ k. u (suc k)))

pub units_same : (ls : List Line) (u : ℕ → ℕ) (t : ℕ) → t < length ls → units_on (map_with fill_line ls u) t ≡ u t
units_same [] u t lt = absurd (omega arith)
units_same (l ∷ ls) u zero lt = refl
units_same (l ∷ ls) u (suc t) lt = units_same ls (λ k. u (suc k)) t (omega arith)

units_fair : (ls : List Line) (u : ℕ → ℕ) → AllWith (λ l n. n ≤ 1000) ls u → FairUnits (map_with fill_line ls u)
units_fair [] u h = tt
units_fair (l ∷ ls) u h = (h.0, units_fair ls (λ k. u (suc k)) h.1)

pub offers_same : (os : List Offer) (a : Allotment) → map offer_of (map_with fill_offer os a) ≡ os
offers_same [] a = refl
offers_same (o ∷ os) a =
    let g = lines_same o.give (a 0).give in
    let w = lines_same o.get (a 0).get in
    let t = offers_same os (λ k. a (suc k)) in
    (λ i. record { member = o.member; limit = o.limit; give = g i; get = w i } ∷ t i)

offers_alike : (os : List Offer) (a : Allotment) (k : ℕ) → k < length os → AlikeOn (get_or os k no_offer) (record { give = units_on (get_or (map_with fill_offer os a) k no_filled_offer).give; get = units_on (get_or (map_with fill_offer os a) k no_filled_offer).get }) (a k)
offers_alike [] a k lt = absurd (omega arith)
offers_alike (o ∷ os) a zero lt = record { give = units_same o.give (a 0).give; get = units_same o.get (a 0).get }
offers_alike (o ∷ os) a (suc k) lt = offers_alike os (λ k. a (suc k)) k (omega arith)

offers_fair : (os : List Offer) (a : Allotment) → FairAllotment os a → AllByRecursion (λ f. FairUnits f.give × FairUnits f.get) (map_with fill_offer os a)
offers_fair [] a h = tt
offers_fair (o ∷ os) a h = ((units_fair o.give (a 0).give h.0.0, units_fair o.get (a 0).get h.0.1), offers_fair os (λ k. a (suc k)) h.1)

pub all_recorded : AllRecorded
all_recorded k b a zs =
    let os = offers_same b.offers a in
    let same : book_of (contents_of k b a zs) ≡ b = (λ i. record { items = b.items; members = b.members; holdings = b.holdings; offers = os i }) in
    record {
      book = same;
      allotment = offers_alike b.offers a;
      valid = λ s f l n. record { sound = subst Sound (sym same) s; units = offers_fair b.offers a f; levels = l; levelled = inr (n ∙ ap nodes (sym same)) };
    }
