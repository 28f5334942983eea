-- An allotment is allowed just where its filling is a circulation within the capacities.
use Rattle.std.proofs.Common.{◌≡◌, ℕ, suc, ◌+◌, ◌<◌, ◌≤◌, true, false, cond, ◌&&◌, ◌||◌, eqb, List, [], ◌∷◌, length, get_or, Some, sym, refl, ap, ◌∙◌, subst, ap₂, subst₂, ⊎_elim, arith}
use Rattle.std.specs.List.{AllByRecursion}
use Rattle.std.proofs.ByRecursion.{All-append}
use Rattle.std.proofs.lemmas.Bool.{eq-eqb, ne_eqb, eqb-true, eqb-false, cases_Bool, cond_both, cond-false, and_parts, or_parts, or_from, both_ways}
use Rattle.flow.specs.Graphs.{when}
use Rattle.flow.specs.declared.arc.Arc.{Arc}
use Rattle.book.specs.Rows.{AllWith}
use Rattle.book.specs.Books.{Book, Offer, Fair, FairHolding, FairOffer, Sound, is_of, held_by, no_holding}
use Rattle.book.specs.Allotments.{Allotment, all_of, of_item, given_by, MayGive, KeepsLimits, Allowed}
use Rattle.book.specs.Arcs.{OfferFlows, holding_arcs, offers_arcs, offer_arcs, laid, nodes, held_flows, offer_flows, filling}
use Rattle.book.specs.declared.line.Line.{Line}
use Rattle.book.specs.declared.holding.Holding.{Holding}
use Rattle.book.proofs.Each.{all_left, all_right, all_both, with_weaker, sum_with_none, all_offer, parts_offer, as_filled, to_filled, from_filled}
use Rattle.book.proofs.Holdings.{has, Apart, same_pair, distinct_is_apart, held_step, held_none, found_own, capacity, capacity_is}
use Rattle.book.proofs.Nodes.{Balanced, Conserved, Conserving, conserving, circulating}
use Rattle.book.proofs.Split.{own_lines, given_split, given_from, got_split}

abbrev pub Fits : Arc → Type 0
Fits a = a.flow ≤ a.capacity

abbrev pub Fitting : List Arc → Type 0
Fitting xs = AllByRecursion Fits xs

pub apart : (b : Book) → Sound b → Apart b.holdings
apart b s = distinct_is_apart b.holdings s.holdings_apart

-- capacities of the offers' arcs
module _ (n : ℕ) (hs : List Holding) where
  -- the flows on an offer's arcs stay within their capacities
  abbrev Room : Offer → OfferFlows → Type 0
  Room o g = AllWith (λ l y. y ≤ capacity hs o.member l) o.give g.give × (g.own ≤ o.limit) × KeepsLimits o.get g.get

  fitting_offers : (p : ℕ) (os : List Offer) (f : ℕ → OfferFlows) → AllWith Room os f → Fitting (offers_arcs n hs p os f)
  fitting_offers p [] f e = tt
  fitting_offers p (o ∷ os) f e = All-append Fits (offer_arcs n hs p o (f 0)) (offers_arcs n hs (p + 2) os (λ k. f (suc k))) (all_offer Fits n hs p o (f 0) e.0) (fitting_offers (p + 2) os (λ k. f (suc k)) e.1)

  offers_fitting : (p : ℕ) (os : List Offer) (f : ℕ → OfferFlows) → Fitting (offers_arcs n hs p os f) → AllWith Room os f
  offers_fitting p [] f e = tt
  offers_fitting p (o ∷ os) f e = (parts_offer Fits n hs p o (f 0) (all_left Fits (offer_arcs n hs p o (f 0)) (offers_arcs n hs (p + 2) os (λ k. f (suc k))) e), offers_fitting (p + 2) os (λ k. f (suc k)) (all_right Fits (offer_arcs n hs p o (f 0)) (offers_arcs n hs (p + 2) os (λ k. f (suc k))) e))

fitting_held : (q : ℕ) (hs : List Holding) (f : Holding → ℕ) → AllByRecursion (λ h. f h ≤ h.units) hs → Fitting (holding_arcs q hs (λ k. f (get_or hs k no_holding)))
fitting_held q [] f e = tt
fitting_held q (h ∷ hs) f e = (e.0, fitting_held (q + 1) hs f e.1)

held_fitting : (q : ℕ) (hs : List Holding) (f : Holding → ℕ) → Fitting (holding_arcs q hs (λ k. f (get_or hs k no_holding))) → AllByRecursion (λ h. f h ≤ h.units) hs
held_fitting q [] f e = tt
held_fitting q (h ∷ hs) f e = (e.0, held_fitting (q + 1) hs f e.1)

-- a holding bounds what its member gives of its item
owned_some : (G : ℕ → ℕ → ℕ) (hs : List Holding) (m j : ℕ) → has hs m j ≡ true → AllByRecursion (λ h. G h.member h.item ≤ h.units) hs → MayGive (held_by hs m j) j (G m j)
owned_some G [] m j e w = absurd (both_ways false refl e)
owned_some G (h ∷ hs) m j e w = subst (λ o. MayGive o j (G m j)) (sym (held_step h hs m j)) (⊎_elim here (λ t. there t (owned_some G hs m j (ap (λ z. z || has hs m j) (sym t) ∙ e) w.1)) (cases_Bool (is_of h m j)))
  where
    here : is_of h m j ≡ true → MayGive (cond (is_of h m j) (Some h.units) (held_by hs m j)) j (G m j)
    here t =
        let p = same_pair h m j t in
        subst (λ z. MayGive (cond z (Some h.units) (held_by hs m j)) j (G m j)) (sym t) (subst₂ (λ x y. G x y ≤ h.units) (sym p.0) (sym p.1) w.0)

    there : is_of h m j ≡ false → MayGive (held_by hs m j) j (G m j) → MayGive (cond (is_of h m j) (Some h.units) (held_by hs m j)) j (G m j)
    there t r = subst (λ z. MayGive (cond z (Some h.units) (held_by hs m j)) j (G m j)) (sym t) r

-- each line has at most what its member gives of its item
when_own : (j y : ℕ) → when (eqb j j) y ≡ y
when_own j y = ap (λ b. when b y) (eq-eqb j j refl)

covered_lines : (G : ℕ → ℕ) (ls : List Line) (x : ℕ → ℕ) → ((j : ℕ) → of_item j ls x ≤ G j) → AllWith (λ l y. y ≤ G l.item) ls x
covered_lines G [] x h = tt
covered_lines G (l ∷ ls) x h = (omega (arith, when_own l.item (x 0), h l.item), covered_lines G ls (λ t. x (suc t)) (λ j. omega (arith, h j)))

covered : (G : ℕ → ℕ → ℕ) (os : List Offer) (a : Allotment) → ((m j : ℕ) → given_by os a m j ≤ G m j) → AllWith (λ o u. AllWith (λ l y. y ≤ G o.member l.item) o.give u.give) os a
covered G [] a h = tt
covered G (o ∷ os) a h = (covered_lines (G o.member) o.give (a 0).give (λ j. omega (arith, h o.member j, when_own o.member (of_item j o.give (a 0).give))), covered G os (λ k. a (suc k)) (λ m j. omega (arith, h m j)))

-- with no holding, an item other than cash has no capacity
capacity_none : (hs : List Holding) (m : ℕ) (l : Line) → (l.item ≡ 0 → ⊥) → has hs m l.item ≡ false → capacity hs m l ≡ 0
capacity_none hs m l cash none = capacity_is hs m l ∙ cond-false (eqb l.item 0 || has hs m l.item) l.limit 0 (or_from (eqb l.item 0) (has hs m l.item) (ne_eqb l.item 0 cash) none)

given_none : (hs : List Holding) (m j : ℕ) → has hs m j ≡ false → (j ≡ 0 → ⊥) → (os : List Offer) (a : Allotment) → AllWith (λ o u. AllWith (λ l y. y ≤ capacity hs o.member l) o.give u.give) os a → given_by os a m j ≡ 0
given_none hs m j none cash [] a e = refl
given_none hs m j none cash (o ∷ os) a e = ap₂ ◌+◌ (own_lines o.member m j o.give (a 0).give ∙ sum_with_none (λ l y. when (eqb o.member m && eqb l.item j) y) o.give (a 0).give (with_weaker (λ l y. y ≤ capacity hs o.member l) (λ l y. when (eqb o.member m && eqb l.item j) y ≡ 0) line o.give (a 0).give e.0)) (given_none hs m j none cash os (λ k. a (suc k)) e.1)
  where
    line : (l : Line) (y : ℕ) → y ≤ capacity hs o.member l → when (eqb o.member m && eqb l.item j) y ≡ 0
    line l y w = cond_both (eqb o.member m && eqb l.item j) y 0 (λ t. t ≡ 0) here (λ _. refl)
      where
        here : (eqb o.member m && eqb l.item j) ≡ true → y ≡ 0
        here t =
            let p = and_parts (eqb o.member m) (eqb l.item j) t in
            let q = eqb-true l.item j p.1 in
            omega (arith, capacity_none hs o.member l (λ z. cash (sym q ∙ z)) (ap₂ (has hs) (eqb-true o.member m p.0) q ∙ none))

pub capacity_le : (hs : List Holding) (m : ℕ) (l : Line) → capacity hs m l ≤ l.limit
capacity_le hs m l = subst (λ t. t ≤ l.limit) (sym (capacity_is hs m l)) (cond_both (eqb l.item 0 || has hs m l.item) l.limit 0 (λ t. t ≤ l.limit) (λ _. omega arith) (λ _. omega arith))

-- what a line may have by the rules it may have by its arc
line_room : (hs : List Holding) (m : ℕ) (l : Line) (y g : ℕ) → MayGive (held_by hs m l.item) l.item g → y ≤ g → y ≤ l.limit → y ≤ capacity hs m l
line_room hs m l y g may le lim = subst (λ t. y ≤ t) (sym (capacity_is hs m l)) (cond_both (eqb l.item 0 || has hs m l.item) l.limit 0 (λ t. y ≤ t) (λ _. lim) none)
  where
    none : (eqb l.item 0 || has hs m l.item) ≡ false → y ≤ 0
    none e =
        let p = or_parts (eqb l.item 0) (has hs m l.item) e in
        let z : (l.item ≡ 0 → ⊥) → g ≡ 0 = subst (λ o. MayGive o l.item g) (held_none hs m l.item p.1) may in
        omega (arith, z (eqb-false l.item 0 p.0))

module _ (b : Book) (s : Sound b) (a : Allotment) where
  abbrev n : ℕ
  n = length b.items

  abbrev hs : List Holding
  hs = b.holdings

  abbrev os : List Offer
  os = b.offers

  abbrev held_part : List Arc
  held_part = holding_arcs n hs (held_flows hs os a)

  abbrev offer_part : List Arc
  offer_part = offers_arcs n hs (n + length hs) os (offer_flows os a)

  circulates : Allowed b a → Balanced (nodes b) (laid b (filling b a))
  circulates w = circulating b s (filling b a) (record {
    items = λ j h. got_split j os (offer_flows os a) ∙ w.cleared j h ∙ sym (given_split n hs (apart b s) j os (offer_flows os a) h);
    holdings = λ k h. given_from n hs (apart b s) (length b.members) k os (offer_flows os a) h s.offers_fair;
    offers = to_filled Conserved os a (with_weaker (λ o u. all_of o.get u.get ≡ all_of o.give u.give) (λ o u. Conserved o (as_filled o u)) (λ o u e. (refl, sym e)) os a w.evenly);
  })

  room : Allowed b a → AllWith (Room n hs) os (offer_flows os a)
  room w = to_filled (Room n hs) os a (go os a s.offers_fair (covered G os a (λ m j. omega arith)) w.gives w.limits w.gets)
    where
      G : ℕ → ℕ → ℕ
      G = given_by os a

      lines : (m : ℕ) → m < length b.members → (ls : List Line) (x : ℕ → ℕ) → AllByRecursion (Fair n) ls → AllWith (λ l y. y ≤ G m l.item) ls x → KeepsLimits ls x → AllWith (λ l y. y ≤ capacity hs m l) ls x
      lines m k [] x e c v = tt
      lines m k (l ∷ ls) x e c v = (line_room hs m l (x 0) (G m l.item) (w.owned m l.item k e.0.known) c.0 v.0, lines m k ls (λ t. x (suc t)) e.1 c.1 v.1)

      go : (ps : List Offer) (c : Allotment) → AllByRecursion (FairOffer n (length b.members)) ps → AllWith (λ o u. AllWith (λ l y. y ≤ G o.member l.item) o.give u.give) ps c → AllWith (λ o u. KeepsLimits o.give u.give) ps c → AllWith (λ o u. all_of o.give u.give ≤ o.limit) ps c → AllWith (λ o u. KeepsLimits o.get u.get) ps c → AllWith (λ o u. Room n hs o (as_filled o u)) ps c
      go [] c e v x y z = tt
      go (o ∷ ps) c e v x y z = ((lines o.member e.0.known o.give (c 0).give e.0.gives.fair v.0 x.0, y.0, z.0), go ps (λ k. c (suc k)) e.1 v.1 x.1 y.1 z.1)

  held_room : Allowed b a → AllByRecursion (λ h. given_by os a h.member h.item ≤ h.units) hs
  held_room w = all_both (FairHolding n (length b.members)) (λ h. held_by hs h.member h.item ≡ Some h.units) (λ h. given_by os a h.member h.item ≤ h.units) (λ h k e. subst (λ o. MayGive o h.item (given_by os a h.member h.item)) e (w.owned h.member h.item k.0 k.1)) hs s.holdings_fair (found_own hs (apart b s))

  fits : Allowed b a → Fitting (laid b (filling b a))
  fits w = All-append Fits held_part offer_part (fitting_held n hs (λ h. given_by os a h.member h.item) (held_room w)) (fitting_offers n hs (n + length hs) os (offer_flows os a) (room w))

  allowed : Fitting (laid b (filling b a)) → Balanced (nodes b) (laid b (filling b a)) → Allowed b a
  allowed w c =
      let d : Conserving b (filling b a) = conserving b s (filling b a) c in
      let r : AllWith (λ o u. Room n hs o (as_filled o u)) os a = from_filled (Room n hs) os a (offers_fitting n hs (n + length hs) os (offer_flows os a) (all_right Fits held_part offer_part w)) in
      let g : AllWith (λ o u. AllWith (λ l y. y ≤ capacity hs o.member l) o.give u.give) os a = with_weaker (λ o u. Room n hs o (as_filled o u)) (λ o u. AllWith (λ l y. y ≤ capacity hs o.member l) o.give u.give) (λ o u e. e.0) os a r in
      record {
        evenly = with_weaker (λ o u. Conserved o (as_filled o u)) (λ o u. all_of o.get u.get ≡ all_of o.give u.give) (λ o u e. sym e.1) os a (from_filled Conserved os a d.offers);
        cleared = λ j h. sym (got_split j os (offer_flows os a)) ∙ d.items j h ∙ given_split n hs (apart b s) j os (offer_flows os a) h;
        owned = λ m j h k. ⊎_elim
            (λ t. owned_some (given_by os a) hs m j t (held_fitting n hs (λ h. given_by os a h.member h.item) (all_left Fits held_part offer_part w)))
            (λ t. subst (λ o. MayGive o j (given_by os a m j)) (sym (held_none hs m j t)) (λ cash. given_none hs m j t cash os a g))
            (cases_Bool (has hs m j));
        gives = with_weaker (λ o u. AllWith (λ l y. y ≤ capacity hs o.member l) o.give u.give) (λ o u. KeepsLimits o.give u.give) (λ o u. with_weaker (λ l y. y ≤ capacity hs o.member l) (λ l y. y ≤ l.limit) (λ l y q. omega (arith, capacity_le hs o.member l)) o.give u.give) os a g;
        gets = with_weaker (λ o u. Room n hs o (as_filled o u)) (λ o u. KeepsLimits o.get u.get) (λ o u e. e.2) os a r;
        limits = with_weaker (λ o u. Room n hs o (as_filled o u)) (λ o u. all_of o.give u.give ≤ o.limit) (λ o u e. e.1) os a r;
      }

-- in both directions
pub allowed_flows : (b : Book) (a : Allotment) → Sound b → Allowed b a → Fitting (laid b (filling b a)) × Balanced (nodes b) (laid b (filling b a))
allowed_flows b a s w = (fits b s a w, circulates b s a w)

pub flows_allowed : (b : Book) (a : Allotment) → Sound b → Fitting (laid b (filling b a)) → Balanced (nodes b) (laid b (filling b a)) → Allowed b a
flows_allowed b a s w c = allowed b s a w c
