-- Flows read along the arcs of a book: every circulation is the filling of the allotment that it puts on the lines.
use Rattle.std.proofs.Common.{◌≡◌, ℕ, zero, suc, ◌+◌, ◌<◌, eqb, List, [], ◌∷◌, ◌++◌, length, get_or, sym, refl, ap, ◌∙◌, subst, ap₂, arith}
use mathlib.Core.Path.{fun_ext}
use Rattle.std.proofs.lemmas.List.{length-append}
use Rattle.flow.specs.Graphs.{when}
use Rattle.flow.specs.Arcs.{flow_of, with_flow}
use Rattle.flow.specs.declared.arc.Arc.{Arc}
use Rattle.book.specs.Rows.{sum_with, AllWith, map_with}
use Rattle.book.specs.Books.{Book, Offer, Sound, line_count, no_holding, no_offer}
use Rattle.book.specs.Allotments.{Allotment, Alike, given_by}
use Rattle.book.specs.Arcs.{Flows, OfferFlows, holding_arc, holding_arcs, give_arc, own_arc, get_arc, offer_arcs, offers_arcs, laid, nodes, no_flows, arcs_of, held_flows, offer_flows, filling, arcs_before, allotment_of}
use Rattle.book.specs.declared.holding.Holding.{Holding}
use Rattle.book.proofs.Sums.{length_map_with}
use Rattle.book.proofs.Nodes.{Balanced, Conserved, Conserving, conserving}
use Rattle.book.proofs.Split.{lines_of, given_from}
use Rattle.book.proofs.Rules.{apart}

-- the flows y on a list of arcs
abbrev pub with_flows : List Arc → (ℕ → ℕ) → List Arc
with_flows xs y = map_with (λ a x. with_flow x a) xs y

flows_same : (xs : List Arc) (y z : ℕ → ℕ) → ((i : ℕ) → y i ≡ z i) → with_flows xs y ≡ with_flows xs z
flows_same xs y z h = ap (with_flows xs) (fun_ext h)

flows_append : (xs ys : List Arc) (y : ℕ → ℕ) → with_flows (xs ++ ys) y ≡ with_flows xs y ++ with_flows ys (λ i. y (length xs + i))
flows_append [] ys y = flows_same ys y (λ i. y (0 + i)) (λ i. let e : i ≡ 0 + i = omega arith in ap y e)
flows_append (x ∷ xs) ys y = ap (λ t. with_flow (y 0) x ∷ t) (flows_append xs ys (λ i. y (suc i)) ∙ ap (λ t. with_flows xs (λ i. y (suc i)) ++ t) (flows_same ys (λ i. y (suc (length xs + i))) (λ i. y (suc (length xs) + i)) (λ i. let e : suc (length xs + i) ≡ suc (length xs) + i = omega arith in ap y e)))

flows_laid : {X : Type 0} (f : X → ℕ → Arc) → ((x : X) (v w : ℕ) → with_flow w (f x v) ≡ f x w) → (xs : List X) (u y : ℕ → ℕ) → with_flows (map_with f xs u) y ≡ map_with f xs y
flows_laid f h [] u y = refl
flows_laid f h (x ∷ xs) u y = ap₂ ◌∷◌ (h x (u 0) (y 0)) (flows_laid f h xs (λ k. u (suc k)) (λ k. y (suc k)))

flows_held : (q : ℕ) (hs : List Holding) (x y : ℕ → ℕ) → with_flows (holding_arcs q hs x) y ≡ holding_arcs q hs y
flows_held q [] x y = refl
flows_held q (h ∷ hs) x y = ap₂ ◌∷◌ refl (flows_held (q + 1) hs (λ k. x (suc k)) (λ k. y (suc k)))

pub length_held : (q : ℕ) (hs : List Holding) (x : ℕ → ℕ) → length (holding_arcs q hs x) ≡ length hs
length_held q [] x = refl
length_held q (h ∷ hs) x = ap suc (length_held (q + 1) hs (λ k. x (suc k)))

-- the flows of a row by what they stand for
abbrev read_offers : List Offer → (ℕ → ℕ) → ℕ → OfferFlows
read_offers [] y k = record { give = λ t. 0; own = 0; get = λ t. 0 }
read_offers (o ∷ os) y zero = record { give = y; own = y (length o.give); get = λ t. y (length o.give + suc t) }
read_offers (o ∷ os) y (suc k) = read_offers os (λ i. y (length o.give + suc (length o.get + i))) k

abbrev read : Book → (ℕ → ℕ) → Flows
read b y = record { held = y; offers = read_offers b.offers (λ i. y (length b.holdings + i)) }

module _ (n : ℕ) (hs : List Holding) where
  pub length_offer : (p : ℕ) (o : Offer) (f : OfferFlows) → length (offer_arcs n hs p o f) ≡ length o.give + suc (length o.get)
  length_offer p o f =
      length-append (map_with (give_arc n hs o.member p) o.give f.give) (own_arc p o.limit f.own ∷ map_with (get_arc (p + 1)) o.get f.get)
      ∙ ap₂ (λ a c. a + suc c) (length_map_with (give_arc n hs o.member p) o.give f.give) (length_map_with (get_arc (p + 1)) o.get f.get)

  flows_offer : (p : ℕ) (o : Offer) (f : OfferFlows) (y : ℕ → ℕ) → with_flows (offer_arcs n hs p o f) y ≡ offer_arcs n hs p o (record { give = y; own = y (length o.give); get = λ t. y (length o.give + suc t) })
  flows_offer p o f y =
      let gives : List Arc = map_with (give_arc n hs o.member p) o.give f.give in
      let gets : List Arc = map_with (get_arc (p + 1)) o.get f.get in
      let e : length gives ≡ length o.give = length_map_with (give_arc n hs o.member p) o.give f.give in
      let z : length gives + 0 ≡ length o.give = omega (arith, e) in
      flows_append gives (own_arc p o.limit f.own ∷ gets) y
      ∙ ap₂ ◌++◌ (flows_laid (give_arc n hs o.member p) (λ x v w. refl) o.give f.give y)
      (ap₂ ◌∷◌ (ap (λ i. own_arc p o.limit (y i)) z)
      (flows_laid (get_arc (p + 1)) (λ x v w. refl) o.get f.get (λ i. y (length gives + suc i)) ∙ ap (λ m. map_with (get_arc (p + 1)) o.get (λ i. y (m + suc i))) e))

  flows_offers : (p : ℕ) (os : List Offer) (f : ℕ → OfferFlows) (y : ℕ → ℕ) → with_flows (offers_arcs n hs p os f) y ≡ offers_arcs n hs p os (read_offers os y)
  flows_offers p [] f y = refl
  flows_offers p (o ∷ os) f y =
      let rest : List Arc = offers_arcs n hs (p + 2) os (λ k. f (suc k)) in
      let e = length_offer p o (f 0) in
      flows_append (offer_arcs n hs p o (f 0)) rest y
      ∙ ap₂ ◌++◌ (flows_offer p o (f 0) y)
      (flows_same rest (λ i. y (length (offer_arcs n hs p o (f 0)) + i)) (λ i. y (length o.give + suc (length o.get + i))) (λ i. let r : length (offer_arcs n hs p o (f 0)) + i ≡ length o.give + suc (length o.get + i) = omega (arith, e) in ap y r)
      ∙ flows_offers (p + 2) os (λ k. f (suc k)) (λ i. y (length o.give + suc (length o.get + i))))

length_offers : (n : ℕ) (hs : List Holding) (p : ℕ) (os : List Offer) (f : ℕ → OfferFlows) → length (offers_arcs n hs p os f) ≡ line_count os + length os
length_offers n hs p [] f = refl
length_offers n hs p (o ∷ os) f = length-append (offer_arcs n hs p o (f 0)) (offers_arcs n hs (p + 2) os (λ k. f (suc k))) ∙ omega (arith, length_offer n hs p o (f 0), length_offers n hs (p + 2) os (λ k. f (suc k)))

-- an arc for each holding, each line and each offer
pub length_arcs : (b : Book) (f : Flows) → length (laid b f) ≡ length b.holdings + (line_count b.offers + length b.offers)
length_arcs b f =
    length-append (holding_arcs (length b.items) b.holdings f.held) (offers_arcs (length b.items) b.holdings (length b.items + length b.holdings) b.offers f.offers)
    ∙ ap₂ ◌+◌ (length_held (length b.items) b.holdings f.held) (length_offers (length b.items) b.holdings (length b.items + length b.holdings) b.offers f.offers)

-- other flows on the arcs of a book
flows_book : (b : Book) (f : Flows) (y : ℕ → ℕ) → with_flows (laid b f) y ≡ laid b (read b y)
flows_book b f y =
    let held : List Arc = holding_arcs (length b.items) b.holdings f.held in
    let rest : List Arc = offers_arcs (length b.items) b.holdings (length b.items + length b.holdings) b.offers f.offers in
    flows_append held rest y
    ∙ ap₂ ◌++◌ (flows_held (length b.items) b.holdings f.held y)
    (ap (λ m. with_flows rest (λ i. y (m + i))) (length_held (length b.items) b.holdings f.held)
    ∙ flows_offers (length b.items) b.holdings (length b.items + length b.holdings) b.offers f.offers (λ i. y (length b.holdings + i)))

pub flows_laid_book : (b : Book) (y : ℕ → ℕ) → (f : Flows) × (with_flows (arcs_of b) y ≡ laid b f)
flows_laid_book b y = (read b y, flows_book b no_flows y)

-- every list of arcs has its own flows on it
row_own : (xs : List Arc) → with_flows xs (flow_of xs) ≡ xs
row_own [] = refl
row_own (x ∷ xs) = ap (λ t. x ∷ t) (row_own xs)

pub laid_as_row : (b : Book) (f : Flows) → with_flows (arcs_of b) (flow_of (laid b f)) ≡ laid b f
laid_as_row b f = flows_book b no_flows (flow_of (laid b f)) ∙ sym (flows_book b f (flow_of (laid b f))) ∙ row_own (laid b f)

-- where a line's arc stands
pub record Lines (os : List Offer) (y : ℕ → ℕ) (k : ℕ) (g : OfferFlows) : Type 0 where
  pub give : (t : ℕ) → g.give t ≡ y (arcs_before os k + t)
  pub own : g.own ≡ y (arcs_before os k + length (get_or os k no_offer).give)
  pub get : (t : ℕ) → g.get t ≡ y (arcs_before os k + (length (get_or os k no_offer).give + suc t))

lines_found : (os : List Offer) (y : ℕ → ℕ) (k : ℕ) → k < length os → Lines os y k (read_offers os y k)
lines_found [] y k l = absurd (omega arith)
lines_found (o ∷ os) y zero l = record { give = λ t. at (omega arith); own = at (omega arith); get = λ t. at (omega arith) }
  where
    at : {i j : ℕ} → i ≡ j → y i ≡ y j
    at e = ap y e
lines_found (o ∷ os) y (suc k) l = go (lines_found os (λ i. y (length o.give + suc (length o.get + i))) k (omega arith))
  where
    at : {i j : ℕ} → i ≡ j → y i ≡ y j
    at e = ap y e

    go : Lines os (λ i. y (length o.give + suc (length o.get + i))) k (read_offers (o ∷ os) y (suc k)) → Lines (o ∷ os) y (suc k) (read_offers (o ∷ os) y (suc k))
    go r = record { give = λ t. r.give t ∙ at (omega arith); own = r.own ∙ at (omega arith); get = λ t. r.get t ∙ at (omega arith) }

read_alike : (b : Book) (y : ℕ → ℕ) → Alike b.offers (lines_of (read b y).offers) (allotment_of b y)
read_alike b y k l = let r = lines_found b.offers (λ i. y (length b.holdings + i)) k l in record { give = λ t _. r.give t; get = λ t _. r.get t }

-- allotments that are alike fill alike
laid_alike : {X U Y : Type 0} (f : X → U → Y) (xs : List X) (u w : ℕ → U) → ((k : ℕ) → k < length xs → u k ≡ w k) → map_with f xs u ≡ map_with f xs w
laid_alike f [] u w h = refl
laid_alike f (x ∷ xs) u w h = ap₂ ◌∷◌ (ap (f x) (h 0 (omega arith))) (laid_alike f xs (λ k. u (suc k)) (λ k. w (suc k)) (λ k l. h (suc k) (omega arith)))

pub sum_with_alike : {X U : Type 0} (f : X → U → ℕ) (xs : List X) (u w : ℕ → U) → ((k : ℕ) → k < length xs → u k ≡ w k) → sum_with f xs u ≡ sum_with f xs w
sum_with_alike f [] u w h = refl
sum_with_alike f (x ∷ xs) u w h = ap₂ ◌+◌ (ap (f x) (h 0 (omega arith))) (sum_with_alike f xs (λ k. u (suc k)) (λ k. w (suc k)) (λ k l. h (suc k) (omega arith)))

held_alike : (q : ℕ) (hs : List Holding) (x y : ℕ → ℕ) → ((k : ℕ) → k < length hs → x k ≡ y k) → holding_arcs q hs x ≡ holding_arcs q hs y
held_alike q [] x y h = refl
held_alike q (k ∷ hs) x y h = ap₂ ◌∷◌ (ap (holding_arc q k) (h 0 (omega arith))) (held_alike (q + 1) hs (λ k. x (suc k)) (λ k. y (suc k)) (λ i l. h (suc i) (omega arith)))

given_alike : (os : List Offer) (a c : Allotment) (m j : ℕ) → Alike os a c → given_by os a m j ≡ given_by os c m j
given_alike [] a c m j h = refl
given_alike (o ∷ os) a c m j h = ap₂ ◌+◌ (ap (when (eqb o.member m)) (sum_with_alike (λ l n. when (eqb l.item j) n) o.give (a 0).give (c 0).give (h 0 (omega arith)).give)) (given_alike os (λ k. a (suc k)) (λ k. c (suc k)) m j (λ k l. h (suc k) (omega arith)))

offers_alike : (n : ℕ) (hs : List Holding) (p : ℕ) (os : List Offer) (a c : Allotment) → Alike os a c → offers_arcs n hs p os (offer_flows os a) ≡ offers_arcs n hs p os (offer_flows os c)
offers_alike n hs p [] a c h = refl
offers_alike n hs p (o ∷ os) a c h =
    let g = h 0 (omega arith) in
    ap₂ ◌++◌ (ap₂ ◌++◌ (laid_alike (give_arc n hs o.member p) o.give (a 0).give (c 0).give g.give) (ap₂ ◌∷◌ (ap (own_arc p o.limit) (sum_with_alike (λ l n. n) o.give (a 0).give (c 0).give g.give)) (laid_alike (get_arc (p + 1)) o.get (a 0).get (c 0).get g.get)))
    (offers_alike n hs (p + 2) os (λ k. a (suc k)) (λ k. c (suc k)) (λ k l. h (suc k) (omega arith)))

pub fill_alike : (b : Book) (a c : Allotment) → Alike b.offers a c → laid b (filling b a) ≡ laid b (filling b c)
fill_alike b a c h = ap₂ ◌++◌ (held_alike (length b.items) b.holdings (held_flows b.holdings b.offers a) (held_flows b.holdings b.offers c) (λ k l. given_alike b.offers a c (get_or b.holdings k no_holding).member (get_or b.holdings k no_holding).item h)) (offers_alike (length b.items) b.holdings (length b.items + length b.holdings) b.offers a c h)

-- conservation determines the flows that are on no line
module _ (b : Book) where
  offers_same : (p : ℕ) (os : List Offer) (g : ℕ → OfferFlows) → AllWith Conserved os g → offers_arcs (length b.items) b.holdings p os g ≡ offers_arcs (length b.items) b.holdings p os (offer_flows os (lines_of g))
  offers_same p [] g e = refl
  offers_same p (o ∷ os) g e = ap₂ ◌++◌ (ap (λ w. offer_arcs (length b.items) b.holdings p o (record { give = (g 0).give; own = w; get = (g 0).get })) (sym e.0.0)) (offers_same (p + 2) os (λ k. g (suc k)) e.1)

  determined : (s : Sound b) (f : Flows) → Balanced (nodes b) (laid b f) → laid b f ≡ laid b (filling b (lines_of f.offers))
  determined s f c =
      let d : Conserving b f = conserving b s f c in
      ap₂ ◌++◌ (held_alike (length b.items) b.holdings f.held (held_flows b.holdings b.offers (lines_of f.offers)) (λ k l. d.holdings k l ∙ sym (given_from (length b.items) b.holdings (apart b s) (length b.members) k b.offers f.offers l s.offers_fair)))
      (offers_same (length b.items + length b.holdings) b.offers f.offers d.offers)

  pub circulation_filled : (y : ℕ → ℕ) → Sound b → Balanced (nodes b) (with_flows (arcs_of b) y) → with_flows (arcs_of b) y ≡ laid b (filling b (allotment_of b y))
  circulation_filled y s c =
      let e = flows_book b no_flows y in
      e ∙ determined s (read b y) (subst (Balanced (nodes b)) e c) ∙ fill_alike b (lines_of (read b y).offers) (allotment_of b y) (read_alike b y)
