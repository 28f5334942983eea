-- Offers with the units of their lines, taken one after the other from a row.
use Rattle.std.proofs.Common.{◌≡◌, ℕ, zero, suc, ◌+◌, ◌<◌, ◌≤◌, List, [], ◌∷◌, ◌++◌, map, length, get_or, take, drop, sym, refl, ap, ◌∙◌, subst, arith}
use mathlib.Core.HLevel.{×_prop}
use mathlib.Core.Logic.{∥∥₁_elim}
use native.Mathlib.Bridge.{le_prop}
use Rattle.std.specs.List.{AllByRecursion}
use Rattle.std.proofs.lemmas.List.{length-append, length-map, drop_more, drop_at, take_at, get_or-map}
use Rattle.book.specs.Books.{Book, no_offer}
use Rattle.book.specs.Rows.{map_with}
use Rattle.book.specs.declared.line.Line.{Line}
use Rattle.layout.specs.Records.{LineWithUnits, OfferWithUnits, Contents, no_filled_offer, line_of, units_of, units_on, offer_of, book_of, allotted, fill_line, fill_offer, FairUnits}
use Rattle.round.specs.Views.{seen}
use Rattle.round.specs.declared.offer_view.OfferView.{OfferView}
use Rattle.reading.specs.Contents.{contents}
use Rattle.reading.specs.Held.{units_in}
use Rattle.reading.specs.declared.record.Record.{Record}
use Rattle.reading.proofs.Helds.{units_counted}
use Rattle.record.specs.Filled.{left}
use Rattle.record.specs.Flows.{Moderate}
use Rattle.record.specs.declared.record_network.filled.FilledOffers.{FilledOffers}

-- the bounds of what a record holds
pub record Bounded (x : Contents) : Type 0 where
  pub holdings : length x.holdings ≤ 128
  pub offers : length x.offers ≤ 64
  pub lines : length (units_in x.offers) ≤ 256
  pub units : (k t : ℕ) → ((allotted x k).give t ≤ 1000) × ((allotted x k).get t ≤ 1000)

fair_side : (ls : List LineWithUnits) → FairUnits ls → (t : ℕ) → units_on ls t ≤ 1000
fair_side [] h t = omega arith
fair_side (l ∷ ls) h zero = h.0
fair_side (l ∷ ls) h (suc t) = fair_side ls h.1 t

fair_offers : (os : List OfferWithUnits) → AllByRecursion (λ o. FairUnits o.give × FairUnits o.get) os → (k t : ℕ) → (units_on (get_or os k no_filled_offer).give t ≤ 1000) × (units_on (get_or os k no_filled_offer).get t ≤ 1000)
fair_offers [] h k t = (omega arith, omega arith)
fair_offers (o ∷ os) h zero t = (fair_side o.give h.0.0 t, fair_side o.get h.0.1 t)
fair_offers (o ∷ os) h (suc k) t = fair_offers os h.1 k t

pub bounded : (r : Record) → Bounded (contents r)
bounded r =
    let os = (contents r).offers in
    record {
      holdings = ∥∥₁_elim r.valid le_prop (λ v. v.sound.holdings_few);
      offers = ∥∥₁_elim r.valid le_prop (λ v. omega (arith, v.sound.offers_few, length-map os offer_of));
      lines = ∥∥₁_elim r.valid le_prop (λ v. omega (arith, v.sound.lines_few, units_counted os));
      units = λ k t. ∥∥₁_elim r.valid (×_prop le_prop le_prop) (λ v. fair_offers os v.units k t);
    }

-- the offers from one on have no more lines than all
later_few : (os : List OfferWithUnits) (k : ℕ) → length (units_in (drop k os)) ≤ length (units_in os)
later_few os zero = omega arith
later_few [] (suc k) = omega arith
later_few (o ∷ os) (suc k) = omega (arith, later_few os k, length-append (map units_of o.give) (map units_of o.get ++ units_in os), length-append (map units_of o.get) (units_in os))

-- lines and their units, put together again and taken apart
again : (ls : List LineWithUnits) → map_with fill_line (map line_of ls) (units_on ls) ≡ ls
again [] = refl
again (l ∷ ls) = ap (λ ms. l ∷ ms) (again ls)

pub units_back : (ls : List Line) (us : List ℕ) → length ls ≡ length us → map units_of (map_with fill_line ls (λ t. get_or us t 0)) ≡ us
units_back [] [] e = refl
units_back [] (u ∷ us) e = absurd (omega arith)
units_back (l ∷ ls) [] e = absurd (omega arith)
units_back (l ∷ ls) (u ∷ us) e = ap (λ vs. u ∷ vs) (units_back ls us (omega arith))

-- what is known of an offer that comes next, of its units and of those that are left after them
pub record Parted (s : FilledOffers) (v : OfferView) (given got rest : List ℕ) : Type 0 where
  pub gives : Moderate v.give.now given
  pub gets : Moderate v.get.now got
  pub own : rest ≡ units_in (drop (s.next + 1) (contents s.read.now).offers)
  pub first : left s ≡ fill_offer (seen v) (record { give = λ t. get_or given t 0; get = λ t. get_or got t 0 }) ∷ drop (s.next + 1) (contents s.read.now).offers

module _ (s : FilledOffers) {b : Book} (e : b ≡ book_of (contents s.read.now)) (v : OfferView) (shown : (s.next < length b.offers) × (seen v ≡ get_or b.offers s.next no_offer)) where
  abbrev os : List OfferWithUnits
  os = (contents s.read.now).offers

  abbrev o : OfferWithUnits
  o = get_or os s.next no_filled_offer

  abbrev gives : List ℕ
  gives = map units_of o.give

  abbrev gets : List ℕ
  gets = map units_of o.get

  abbrev later : List ℕ
  later = units_in (drop (s.next + 1) os)

  known : s.next < length os
  known = omega (arith, shown.0, ap (λ c. length c.offers) e, length-map os offer_of)

  pub number_fits : s.next < 64
  number_fits = omega (arith, known, (bounded s.read.now).offers)

  is : seen v ≡ offer_of o
  is = shown.1 ∙ ap (λ c. get_or c.offers s.next no_offer) e ∙ get_or-map offer_of os s.next no_filled_offer no_offer known

  ahead : s.units.now ≡ gives ++ (gets ++ later)
  ahead = s.own ∙ ap units_in (drop_more os s.next no_filled_offer known)

  many_given : length gives ≡ length v.give.now
  many_given = length-map o.give units_of ∙ sym (length-map o.give line_of) ∙ sym (ap (λ c. length c.give) is)

  many_got : length gets ≡ length v.get.now
  many_got = length-map o.get units_of ∙ sym (length-map o.get line_of) ∙ sym (ap (λ c. length c.get) is)

  few : length gives + length gets ≤ 256
  few = omega (arith, (bounded s.read.now).lines, later_few os s.next, ap length s.own, ap length ahead, length-append gives (gets ++ later), length-append gets later)

  -- the row is long enough for the give lines
  pub gives_fit : length v.give.now ≤ length s.units.now
  gives_fit = omega (arith, ap length ahead, length-append gives (gets ++ later), many_given)

  module _ {others : List ℕ} (eo : others ≡ drop (length v.give.now) s.units.now) where
    others_is : others ≡ gets ++ later
    others_is = eo ∙ ap (drop (length v.give.now)) ahead ∙ drop_at gives (gets ++ later) (length v.give.now) many_given

    -- and for the get lines after them
    pub gets_fit : length v.get.now ≤ length others
    gets_fit = omega (arith, ap length others_is, length-append gets later, many_got)

    module _ {given got rest : List ℕ} (eg : given ≡ take (length v.give.now) s.units.now) (ew : got ≡ take (length v.get.now) others) (er : rest ≡ drop (length v.get.now) others) where
      given_is : given ≡ gives
      given_is = eg ∙ ap (take (length v.give.now)) ahead ∙ take_at gives (gets ++ later) (length v.give.now) many_given

      got_is : got ≡ gets
      got_is = ew ∙ ap (take (length v.get.now)) others_is ∙ take_at gets later (length v.get.now) many_got

      pub parted : Parted s v given got rest
      parted =
          let units = (bounded s.read.now).units s.next in
          let whole : offer_of o ≡ seen v = sym is in
          let g : gives ≡ given = sym given_is in
          let w : gets ≡ got = sym got_is in
          let same : o ≡ fill_offer (offer_of o) (record { give = units_on o.give; get = units_on o.get }) = (λ i. record { member = o.member; limit = o.limit; give = sym (again o.give) i; get = sym (again o.get) i }) in
          record {
            gives = record { long = sym many_given ∙ ap length g; few = omega (arith, few, ap length g); small = λ t. subst (λ ys. get_or ys t 0 ≤ 1000) g (units t).0 };
            gets = record { long = sym many_got ∙ ap length w; few = omega (arith, few, ap length w); small = λ t. subst (λ ys. get_or ys t 0 ≤ 1000) w (units t).1 };
            own = er ∙ ap (drop (length v.get.now)) others_is ∙ drop_at gets later (length v.get.now) many_got;
            first = drop_more os s.next no_filled_offer known ∙ ap (λ c. c ∷ drop (s.next + 1) os) (same ∙ (λ i. fill_offer (whole i) (record { give = λ t. get_or (g i) t 0; get = λ t. get_or (w i) t 0 })));
          }
