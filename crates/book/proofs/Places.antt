-- Where each arc of a book stands.
use Rattle.std.proofs.Common.{◌≡◌, ℕ, zero, suc, ◌+◌, ◌*◌, ◌<◌, List, [], ◌∷◌, ◌++◌, length, get_or, sym, refl, ap, ◌∙◌, subst, arith}
use Rattle.std.proofs.lemmas.List.{get_or_append_left, get_or-append-add}
use Rattle.flow.specs.Arcs.{blank, arc_at}
use Rattle.flow.specs.declared.arc.Arc.{Arc}
use Rattle.book.specs.Rows.{map_with}
use Rattle.book.specs.Books.{Offer, no_line, no_holding, no_offer, offer_at}
use Rattle.book.specs.Arcs.{OfferFlows, holding_arc, holding_arcs, give_arc, own_arc, get_arc, offer_arcs, offers_arcs, filling, inside, arcs_before}
use Rattle.book.specs.Agreement.{ArcsArePlaced, FillingKeepsUnits}
use Rattle.book.specs.declared.holding.Holding.{Holding}
use Rattle.book.specs.declared.line.Line.{Line}
use Rattle.book.proofs.Sums.{length_map_with}
use Rattle.book.proofs.Filled.{length_held, length_offer, length_arcs}

at_left : (xs ys : List Arc) (i j : ℕ) → i ≡ j → j < length xs → arc_at (xs ++ ys) i ≡ arc_at xs j
at_left xs ys i j e l = ap (arc_at (xs ++ ys)) e ∙ get_or_append_left xs ys blank j l

at_right : (xs ys : List Arc) (i j : ℕ) → i ≡ length xs + j → arc_at (xs ++ ys) i ≡ arc_at ys j
at_right xs ys i j e = ap (arc_at (xs ++ ys)) e ∙ get_or-append-add xs ys j blank

at_map_with : {X U : Type 0} (f : X → U → Arc) (xs : List X) (u : ℕ → U) (t : ℕ) (d : X) → t < length xs → arc_at (map_with f xs u) t ≡ f (get_or xs t d) (u t)
at_map_with f [] u t d l = absurd (omega arith)
at_map_with f (x ∷ xs) u zero d l = refl
at_map_with f (x ∷ xs) u (suc t) d l = at_map_with f xs (λ k. u (suc k)) t d (omega arith)

at_held : (q : ℕ) (hs : List Holding) (x : ℕ → ℕ) (k : ℕ) → k < length hs → arc_at (holding_arcs q hs x) k ≡ holding_arc (q + k) (get_or hs k no_holding) (x k)
at_held q [] x k l = absurd (omega arith)
at_held q (h ∷ hs) x zero l = let e : q ≡ q + 0 = omega arith in ap (λ v. holding_arc v h (x 0)) e
at_held q (h ∷ hs) x (suc k) l = let e : (q + 1) + k ≡ q + suc k = omega arith in at_held (q + 1) hs (λ k. x (suc k)) k (omega arith) ∙ ap (λ v. holding_arc v (get_or hs k no_holding) (x (suc k))) e

module _ (n : ℕ) (hs : List Holding) where
  -- the arcs xs, from number i on, are those of offer o, whose inside is node p, with flows g
  pub record Stands (xs : List Arc) (i p : ℕ) (o : Offer) (g : OfferFlows) : Type 0 where
    pub give : (t : ℕ) → t < length o.give → arc_at xs (i + t) ≡ give_arc n hs o.member p (get_or o.give t no_line) (g.give t)
    pub own : arc_at xs (i + length o.give) ≡ own_arc p o.limit g.own
    pub get : (t : ℕ) → t < length o.get → arc_at xs (i + (length o.give + suc t)) ≡ get_arc (p + 1) (get_or o.get t no_line) (g.get t)

  -- with other arcs after them, and with others before them
  stands_left : (xs ys : List Arc) (p : ℕ) (o : Offer) (g : OfferFlows) → length xs ≡ length o.give + suc (length o.get) → Stands xs 0 p o g → Stands (xs ++ ys) 0 p o g
  stands_left xs ys p o g e s = record {
    give = λ t l. at_left xs ys (0 + t) (0 + t) refl (omega arith) ∙ s.give t l;
    own = at_left xs ys (0 + length o.give) (0 + length o.give) refl (omega arith) ∙ s.own;
    get = λ t l. at_left xs ys (0 + (length o.give + suc t)) (0 + (length o.give + suc t)) refl (omega arith) ∙ s.get t l;
  }

  stands_right : (xs ys : List Arc) (i j p q : ℕ) (o : Offer) (g : OfferFlows) → i ≡ length xs + j → q ≡ p → Stands ys j q o g → Stands (xs ++ ys) i p o g
  stands_right xs ys i j p q o g e z s = record {
    give = λ t l. at_right xs ys (i + t) (j + t) (omega arith) ∙ s.give t l ∙ ap (λ v. give_arc n hs o.member v (get_or o.give t no_line) (g.give t)) z;
    own = at_right xs ys (i + length o.give) (j + length o.give) (omega arith) ∙ s.own ∙ ap (λ v. own_arc v o.limit g.own) z;
    get = λ t l. at_right xs ys (i + (length o.give + suc t)) (j + (length o.give + suc t)) (omega arith) ∙ s.get t l ∙ ap (λ v. get_arc (v + 1) (get_or o.get t no_line) (g.get t)) z;
  }

  at_offer : (p : ℕ) (o : Offer) (g : OfferFlows) → Stands (offer_arcs n hs p o g) 0 p o g
  at_offer p o g =
      let give : Line → ℕ → Arc = give_arc n hs o.member p in
      let gives : List Arc = map_with give o.give g.give in
      let rest : List Arc = own_arc p o.limit g.own ∷ map_with (get_arc (p + 1)) o.get g.get in
      let e : length gives ≡ length o.give = length_map_with give o.give g.give in
      record {
        give = λ t l. at_left gives rest (0 + t) t (omega arith) (omega arith) ∙ at_map_with give o.give g.give t no_line l;
        own = at_right gives rest (0 + length o.give) 0 (omega arith);
        get = λ t l. at_right gives rest (0 + (length o.give + suc t)) (suc t) (omega arith) ∙ at_map_with (get_arc (p + 1)) o.get g.get t no_line l;
      }

  at_offers : (p : ℕ) (os : List Offer) (f : ℕ → OfferFlows) (k : ℕ) → k < length os → Stands (offers_arcs n hs p os f) (arcs_before os k) (p + 2 * k) (get_or os k no_offer) (f k)
  at_offers p [] f k l = absurd (omega arith)
  at_offers p (o ∷ os) f zero l =
      let z : p ≡ p + 2 * 0 = omega arith in
      stands_left (offer_arcs n hs p o (f 0)) (offers_arcs n hs (p + 2) os (λ k. f (suc k))) (p + 2 * 0) o (f 0) (length_offer n hs p o (f 0)) (turned z (at_offer p o (f 0)))
    where
      turned : {q : ℕ} → p ≡ q → Stands (offer_arcs n hs p o (f 0)) 0 p o (f 0) → Stands (offer_arcs n hs p o (f 0)) 0 q o (f 0)
      turned e s = subst (λ v. Stands (offer_arcs n hs p o (f 0)) 0 v o (f 0)) e s
  at_offers p (o ∷ os) f (suc k) l =
      let e = length_offer n hs p o (f 0) in
      stands_right (offer_arcs n hs p o (f 0)) (offers_arcs n hs (p + 2) os (λ k. f (suc k))) (arcs_before (o ∷ os) (suc k)) (arcs_before os k) (p + 2 * suc k) ((p + 2) + 2 * k) (get_or os k no_offer) (f (suc k)) (omega arith) (omega arith) (at_offers (p + 2) os (λ k. f (suc k)) k (omega arith))

pub arcs_are_placed_lem : ArcsArePlaced
arcs_are_placed_lem b f = record {
  count = length_arcs b f;
  held = λ k l. at_left held rest k k refl (omega (arith, e)) ∙ at_held n b.holdings f.held k l;
  give = λ k t l h. at (arcs_before b.offers k + t) ∙ (offers k l).give t h;
  own = λ k l. at (arcs_before b.offers k + length (offer_at b k).give) ∙ (offers k l).own;
  get = λ k t l h. at (arcs_before b.offers k + (length (offer_at b k).give + suc t)) ∙ (offers k l).get t h;
}
  where
    n : ℕ
    n = length b.items

    held : List Arc
    held = holding_arcs n b.holdings f.held

    rest : List Arc
    rest = offers_arcs n b.holdings (n + length b.holdings) b.offers f.offers

    e : length held ≡ length b.holdings
    e = length_held n b.holdings f.held

    at : (i : ℕ) → arc_at (held ++ rest) (length b.holdings + i) ≡ arc_at rest i
    at i = at_right held rest (length b.holdings + i) i (ap (λ m. m + i) (sym e))

    offers : (k : ℕ) → k < length b.offers → Stands n b.holdings rest (arcs_before b.offers k) (inside b k) (offer_at b k) (f.offers k)
    offers k l = at_offers n b.holdings (n + length b.holdings) b.offers f.offers k l

pub filling_keeps_units : FillingKeepsUnits
filling_keeps_units b a k l = let p = arcs_are_placed_lem b (filling b a) in record { give = λ t h. ap (λ (x : Arc). x.flow) (p.give k t l h); get = λ t h. ap (λ (x : Arc). x.flow) (p.get k t l h) }
