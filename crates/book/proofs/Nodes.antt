-- What comes and goes at each node of a book's network.
use Rattle.std.proofs.Common.{◌≡◌, ℕ, zero, suc, ◌+◌, ◌-◌, ◌*◌, ◌<◌, ◌≤◌, eqb, List, [], ◌∷◌, ◌++◌, length, sym, refl, ap, ◌∙◌, ap₂, ⊎_elim, arith}
use Rattle.std.specs.List.{AllByRecursion}
use Rattle.std.proofs.lemmas.Bool.{cases_lt}
use Rattle.flow.specs.Graphs.{when}
use Rattle.flow.specs.declared.arc.Arc.{Arc}
use Rattle.book.specs.Rows.{sum_with, AllWith, map_with}
use Rattle.book.specs.Books.{Book, Offer, Fair, FairHolding, FairOffer, Sound}
use Rattle.book.specs.Allotments.{all_of, of_item}
use Rattle.book.specs.Arcs.{Flows, OfferFlows, holding_arcs, give_arc, get_arc, own_arc, offer_arcs, offers_arcs, laid, nodes}
use Rattle.book.specs.declared.line.Line.{Line}
use Rattle.book.specs.declared.holding.Holding.{Holding}
use Rattle.book.proofs.Sums.{sum, sum_append, sum_map_with, sum_none, sum_when, when_eq, when_ne}
use Rattle.book.proofs.Holdings.{leaves, leaves_under}

-- the flow on the arcs that end at node v, and on those that begin there
abbrev pub coming : ℕ → List Arc → ℕ
coming v xs = sum (λ a. when (eqb a.to v) a.flow) xs

abbrev pub going : ℕ → List Arc → ℕ
going v xs = sum (λ a. when (eqb a.from v) a.flow) xs

-- at each of n nodes as much comes as goes
abbrev pub Balanced : ℕ → List Arc → Type 0
Balanced n xs = (v : ℕ) → v < n → coming v xs ≡ going v xs

coming_append : (v : ℕ) (xs ys : List Arc) → coming v (xs ++ ys) ≡ coming v xs + coming v ys
coming_append v xs ys = sum_append (λ a. when (eqb a.to v) a.flow) xs ys

going_append : (v : ℕ) (xs ys : List Arc) → going v (xs ++ ys) ≡ going v xs + going v ys
going_append v xs ys = sum_append (λ a. when (eqb a.from v) a.flow) xs ys

-- the holdings' arcs
held_below : (v q : ℕ) (hs : List Holding) (x : ℕ → ℕ) → v < q → coming v (holding_arcs q hs x) ≡ 0
held_below v q [] x l = refl
held_below v q (h ∷ hs) x l = ap₂ ◌+◌ (when_ne q v (x 0) (omega arith)) (held_below v (q + 1) hs (λ k. x (suc k)) (omega arith))

held_above : (v q : ℕ) (hs : List Holding) (x : ℕ → ℕ) → q + length hs ≤ v → coming v (holding_arcs q hs x) ≡ 0
held_above v q [] x l = refl
held_above v q (h ∷ hs) x l = ap₂ ◌+◌ (when_ne q v (x 0) (omega arith)) (held_above v (q + 1) hs (λ k. x (suc k)) (omega arith))

held_at : (v q k : ℕ) (hs : List Holding) (x : ℕ → ℕ) → v ≡ q + k → k < length hs → coming v (holding_arcs q hs x) ≡ x k
held_at v q k [] x e l = absurd (omega arith)
held_at v q zero (h ∷ hs) x e l = omega (arith, when_eq q v (x 0) (omega arith), held_below v (q + 1) hs (λ k. x (suc k)) (omega arith))
held_at v q (suc k) (h ∷ hs) x e l = omega (arith, when_ne q v (x 0) (omega arith), held_at v (q + 1) k hs (λ k. x (suc k)) (omega arith) (omega arith))

-- the flow to the holdings of item v
abbrev pub held_of : ℕ → List Holding → (ℕ → ℕ) → ℕ
held_of v hs x = sum_with (λ h y. when (eqb h.item v) y) hs x

held_going : (v q : ℕ) (hs : List Holding) (x : ℕ → ℕ) → going v (holding_arcs q hs x) ≡ held_of v hs x
held_going v q [] x = refl
held_going v q (h ∷ hs) x = ap (λ t. when (eqb h.item v) (x 0) + t) (held_going v (q + 1) hs (λ k. x (suc k)))

-- an offer takes in what its own arc carries, and that is what it hands on
abbrev pub Conserved : Offer → OfferFlows → Type 0
Conserved o g = (all_of o.give g.give ≡ g.own) × (g.own ≡ all_of o.get g.get)

-- the units got of item v over all offers
abbrev pub got_at : ℕ → List Offer → (ℕ → OfferFlows) → ℕ
got_at v os f = sum_with (λ o g. of_item v o.get g.get) os f

-- the arcs of offers, over n items
module _ (n : ℕ) (hs : List Holding) where
  -- the flow on the give lines of an offer that leave from node v
  abbrev pub left_by : ℕ → Offer → (ℕ → ℕ) → ℕ
  left_by v o x = sum_with (λ l y. when (eqb (leaves n hs o.member l.item) v) y) o.give x

  -- over all offers
  abbrev pub left_from : ℕ → List Offer → (ℕ → OfferFlows) → ℕ
  left_from v os f = sum_with (λ o g. left_by v o g.give) os f

  offer_coming : (v p : ℕ) (o : Offer) (f : OfferFlows) → coming v (offer_arcs n hs p o f) ≡ when (eqb p v) (all_of o.give f.give) + (when (eqb (p + 1) v) f.own + of_item v o.get f.get)
  offer_coming v p o f =
      let test : Arc → ℕ = λ a. when (eqb a.to v) a.flow in
      sum_append test (map_with (give_arc n hs o.member p) o.give f.give) (own_arc p o.limit f.own ∷ map_with (get_arc (p + 1)) o.get f.get)
      ∙ ap₂ ◌+◌ (sum_map_with test (give_arc n hs o.member p) o.give f.give ∙ sum_when (eqb p v) (λ l y. y) o.give f.give) (ap (λ t. when (eqb (p + 1) v) f.own + t) (sum_map_with test (get_arc (p + 1)) o.get f.get))

  offer_going : (v p : ℕ) (o : Offer) (f : OfferFlows) → going v (offer_arcs n hs p o f) ≡ left_by v o f.give + (when (eqb p v) f.own + when (eqb (p + 1) v) (all_of o.get f.get))
  offer_going v p o f =
      let test : Arc → ℕ = λ a. when (eqb a.from v) a.flow in
      sum_append test (map_with (give_arc n hs o.member p) o.give f.give) (own_arc p o.limit f.own ∷ map_with (get_arc (p + 1)) o.get f.get)
      ∙ ap₂ ◌+◌ (sum_map_with test (give_arc n hs o.member p) o.give f.give) (ap (λ t. when (eqb p v) f.own + t) (sum_map_with test (get_arc (p + 1)) o.get f.get ∙ sum_when (eqb (p + 1) v) (λ l y. y) o.get f.get))

  -- below the offers' nodes
  offers_coming : (v p : ℕ) (os : List Offer) (f : ℕ → OfferFlows) → v < p → coming v (offers_arcs n hs p os f) ≡ got_at v os f
  offers_coming v p [] f l = refl
  offers_coming v p (o ∷ os) f l =
      coming_append v (offer_arcs n hs p o (f 0)) (offers_arcs n hs (p + 2) os (λ k. f (suc k)))
      ∙ ap₂ ◌+◌ (offer_coming v p o (f 0) ∙ omega (arith, when_ne p v (all_of o.give (f 0).give) (omega arith), when_ne (p + 1) v (f 0).own (omega arith))) (offers_coming v (p + 2) os (λ k. f (suc k)) (omega arith))

  offers_going : (v p : ℕ) (os : List Offer) (f : ℕ → OfferFlows) → v < p → going v (offers_arcs n hs p os f) ≡ left_from v os f
  offers_going v p [] f l = refl
  offers_going v p (o ∷ os) f l =
      going_append v (offer_arcs n hs p o (f 0)) (offers_arcs n hs (p + 2) os (λ k. f (suc k)))
      ∙ ap₂ ◌+◌ (offer_going v p o (f 0) ∙ omega (arith, when_ne p v (f 0).own (omega arith), when_ne (p + 1) v (all_of o.get (f 0).get) (omega arith))) (offers_going v (p + 2) os (λ k. f (suc k)) (omega arith))

  -- past the items no get line ends, and past the holdings no give line begins
  get_none : (v : ℕ) (ls : List Line) (x : ℕ → ℕ) → n ≤ v → AllByRecursion (Fair n) ls → of_item v ls x ≡ 0
  get_none v ls x h e = sum_none (Fair n) (λ l y. when (eqb l.item v) y) (λ l y k. when_ne l.item v y (omega arith)) ls x e

  give_none : (v : ℕ) (o : Offer) (x : ℕ → ℕ) → n + length hs ≤ v → AllByRecursion (Fair n) o.give → left_by v o x ≡ 0
  give_none v o x h e = sum_none (Fair n) (λ l y. when (eqb (leaves n hs o.member l.item) v) y) (λ l y k. when_ne (leaves n hs o.member l.item) v y (λ t. omega (arith, leaves_under n hs o.member l.item (omega arith)))) o.give x e

  -- and m members
  module _ (m : ℕ) where
    pub got_none : (v : ℕ) (os : List Offer) (f : ℕ → OfferFlows) → n ≤ v → AllByRecursion (FairOffer n m) os → got_at v os f ≡ 0
    got_none v os f h e = sum_none (FairOffer n m) (λ o g. of_item v o.get g.get) (λ o g k. get_none v o.get g.get h k.gets.fair) os f e

    left_none : (v : ℕ) (os : List Offer) (f : ℕ → OfferFlows) → n + length hs ≤ v → AllByRecursion (FairOffer n m) os → left_from v os f ≡ 0
    left_none v os f h e = sum_none (FairOffer n m) (λ o g. left_by v o g.give) (λ o g k. give_none v o g.give h k.gives.fair) os f e

    -- past the holdings' nodes
    module _ (p : ℕ) (o : Offer) (os : List Offer) (f : ℕ → OfferFlows) (e : AllByRecursion (FairOffer n m) (o ∷ os)) where
      abbrev rest : List Arc
      rest = offers_arcs n hs (p + 2) os (λ k. f (suc k))

      past_coming : (v : ℕ) → n + length hs ≤ v → coming v (offers_arcs n hs p (o ∷ os) f) ≡ (when (eqb p v) (all_of o.give (f 0).give) + when (eqb (p + 1) v) (f 0).own) + coming v rest
      past_coming v h =
          coming_append v (offer_arcs n hs p o (f 0)) rest
          ∙ ap (λ t. t + coming v rest) (offer_coming v p o (f 0) ∙ omega (arith, get_none v o.get (f 0).get (omega arith) e.0.gets.fair))

      past_going : (v : ℕ) → n + length hs ≤ v → going v (offers_arcs n hs p (o ∷ os) f) ≡ (when (eqb p v) (f 0).own + when (eqb (p + 1) v) (all_of o.get (f 0).get)) + going v rest
      past_going v h =
          going_append v (offer_arcs n hs p o (f 0)) rest
          ∙ ap (λ t. t + going v rest) (offer_going v p o (f 0) ∙ omega (arith, give_none v o (f 0).give h e.0.gives.fair))

      rest_coming : (v : ℕ) → n + length hs ≤ v → v < p + 2 → coming v rest ≡ 0
      rest_coming v h l = offers_coming v (p + 2) os (λ k. f (suc k)) l ∙ got_none v os (λ k. f (suc k)) (omega arith) e.1

      rest_going : (v : ℕ) → n + length hs ≤ v → v < p + 2 → going v rest ≡ 0
      rest_going v h l = offers_going v (p + 2) os (λ k. f (suc k)) l ∙ left_none v os (λ k. f (suc k)) h e.1

    abbrev EvenFrom : ℕ → List Offer → (ℕ → OfferFlows) → Type 0
    EvenFrom p os f = (v : ℕ) → p ≤ v → v < p + 2 * length os → coming v (offers_arcs n hs p os f) ≡ going v (offers_arcs n hs p os f)

    conserved : (p : ℕ) (os : List Offer) (f : ℕ → OfferFlows) → n + length hs ≤ p → AllByRecursion (FairOffer n m) os → EvenFrom p os f → AllWith Conserved os f
    conserved p [] f l e c = tt
    conserved p (o ∷ os) f l e c = ((inside, outside), conserved (p + 2) os (λ k. f (suc k)) (omega arith) e.1 beyond)
      where
        inside : all_of o.give (f 0).give ≡ (f 0).own
        inside = omega (arith, c p (omega arith) (omega arith), past_coming p o os f e p l, past_going p o os f e p l, rest_coming p o os f e p l (omega arith), rest_going p o os f e p l (omega arith), when_eq p p (all_of o.give (f 0).give) refl, when_eq p p (f 0).own refl, when_ne (p + 1) p (f 0).own (omega arith), when_ne (p + 1) p (all_of o.get (f 0).get) (omega arith))

        outside : (f 0).own ≡ all_of o.get (f 0).get
        outside = omega (arith, c (p + 1) (omega arith) (omega arith), past_coming p o os f e (p + 1) (omega arith), past_going p o os f e (p + 1) (omega arith), rest_coming p o os f e (p + 1) (omega arith) (omega arith), rest_going p o os f e (p + 1) (omega arith) (omega arith), when_ne p (p + 1) (all_of o.give (f 0).give) (omega arith), when_ne p (p + 1) (f 0).own (omega arith), when_eq (p + 1) (p + 1) (f 0).own refl, when_eq (p + 1) (p + 1) (all_of o.get (f 0).get) refl)

        beyond : EvenFrom (p + 2) os (λ k. f (suc k))
        beyond v h k = omega (arith, c v (omega arith) (omega arith), past_coming p o os f e v (omega arith), past_going p o os f e v (omega arith), when_ne p v (all_of o.give (f 0).give) (omega arith), when_ne p v (f 0).own (omega arith), when_ne (p + 1) v (f 0).own (omega arith), when_ne (p + 1) v (all_of o.get (f 0).get) (omega arith))

    even_from : (p : ℕ) (os : List Offer) (f : ℕ → OfferFlows) → n + length hs ≤ p → AllByRecursion (FairOffer n m) os → AllWith Conserved os f → EvenFrom p os f
    even_from p [] f l e c v h k = absurd (omega arith)
    even_from p (o ∷ os) f l e c v h k = past_coming p o os f e v (omega arith) ∙ ap₂ ◌+◌ ends (⊎_elim none (λ r. even_from (p + 2) os (λ k. f (suc k)) (omega arith) e.1 c.1 v r (omega arith)) (cases_lt v (p + 2))) ∙ sym (past_going p o os f e v (omega arith))
      where
        ends : when (eqb p v) (all_of o.give (f 0).give) + when (eqb (p + 1) v) (f 0).own ≡ when (eqb p v) (f 0).own + when (eqb (p + 1) v) (all_of o.get (f 0).get)
        ends = ap₂ ◌+◌ (ap (when (eqb p v)) c.0.0) (ap (when (eqb (p + 1) v)) c.0.1)

        none : v < p + 2 → coming v (rest p o os f e) ≡ going v (rest p o os f e)
        none r = rest_coming p o os f e v (omega arith) r ∙ sym (rest_going p o os f e v (omega arith) r)

-- a circulation, item by item, holding by holding and offer by offer
pub record Conserving (b : Book) (f : Flows) : Type 0 where
  pub items : (j : ℕ) → j < length b.items → got_at j b.offers f.offers ≡ held_of j b.holdings f.held + left_from (length b.items) b.holdings j b.offers f.offers
  pub holdings : (k : ℕ) → k < length b.holdings → f.held k ≡ left_from (length b.items) b.holdings (length b.items + k) b.offers f.offers
  pub offers : AllWith Conserved b.offers f.offers

module _ (b : Book) (s : Sound b) (f : Flows) where
  abbrev n : ℕ
  n = length b.items

  abbrev m : ℕ
  m = length b.members

  abbrev base : ℕ
  base = n + length b.holdings

  abbrev held : List Arc
  held = holding_arcs n b.holdings f.held

  abbrev rows : List Arc
  rows = offers_arcs n b.holdings base b.offers f.offers

  held_none : (v : ℕ) → n ≤ v → going v held ≡ 0
  held_none v h = held_going v n b.holdings f.held ∙ sum_none (FairHolding n m) (λ w y. when (eqb w.item v) y) (λ w y k. when_ne w.item v y (λ t. omega (arith, k.1))) b.holdings f.held s.holdings_fair

  item_coming : (v : ℕ) → v < n → coming v (laid b f) ≡ got_at v b.offers f.offers
  item_coming v h = coming_append v held rows ∙ omega (arith, held_below v n b.holdings f.held h, offers_coming n b.holdings v base b.offers f.offers (omega arith))

  item_going : (v : ℕ) → v < n → going v (laid b f) ≡ held_of v b.holdings f.held + left_from n b.holdings v b.offers f.offers
  item_going v h = going_append v held rows ∙ ap₂ ◌+◌ (held_going v n b.holdings f.held) (offers_going n b.holdings v base b.offers f.offers (omega arith))

  holding_coming : (v k : ℕ) → v ≡ n + k → k < length b.holdings → coming v (laid b f) ≡ f.held k
  holding_coming v k e h = coming_append v held rows ∙ omega (arith, held_at v n k b.holdings f.held e h, offers_coming n b.holdings v base b.offers f.offers (omega arith), got_none n b.holdings m v b.offers f.offers (omega arith) s.offers_fair)

  holding_going : (v k : ℕ) → v ≡ n + k → k < length b.holdings → going v (laid b f) ≡ left_from n b.holdings v b.offers f.offers
  holding_going v k e h = going_append v held rows ∙ omega (arith, held_none v (omega arith), offers_going n b.holdings v base b.offers f.offers (omega arith))

  high_coming : (v : ℕ) → base ≤ v → coming v (laid b f) ≡ coming v rows
  high_coming v h = coming_append v held rows ∙ omega (arith, held_above v n b.holdings f.held h)

  high_going : (v : ℕ) → base ≤ v → going v (laid b f) ≡ going v rows
  high_going v h = going_append v held rows ∙ omega (arith, held_none v (omega arith))

  pub conserving : Balanced (nodes b) (laid b f) → Conserving b f
  conserving c = record {
    items = λ j h. sym (item_coming j h) ∙ c j (omega arith) ∙ item_going j h;
    holdings = λ k h. sym (holding_coming (n + k) k refl h) ∙ c (n + k) (omega arith) ∙ holding_going (n + k) k refl h;
    offers = conserved n b.holdings m base b.offers f.offers (omega arith) s.offers_fair (λ v h k. sym (high_coming v h) ∙ c v k ∙ high_going v h);
  }

  pub circulating : Conserving b f → Balanced (nodes b) (laid b f)
  circulating c v h = ⊎_elim low (λ k. ⊎_elim (mid k) high (cases_lt v base)) (cases_lt v n)
    where
      low : v < n → coming v (laid b f) ≡ going v (laid b f)
      low k = item_coming v k ∙ c.items v k ∙ sym (item_going v k)

      mid : n ≤ v → v < base → coming v (laid b f) ≡ going v (laid b f)
      mid k r =
          let e : v ≡ n + (v - n) = omega arith in
          holding_coming v (v - n) e (omega arith) ∙ c.holdings (v - n) (omega arith) ∙ ap (λ t. left_from n b.holdings t b.offers f.offers) (sym e) ∙ sym (holding_going v (v - n) e (omega arith))

      high : base ≤ v → coming v (laid b f) ≡ going v (laid b f)
      high k = high_coming v k ∙ even_from n b.holdings m base b.offers f.offers (omega arith) s.offers_fair c.offers v k h ∙ sym (high_going v k)
