-- What the accepted calls leave in an open round.
use Rattle.std.proofs.Common.{◌≡◌, ℕ, suc, ◌+◌, ◌<◌, ◌⊎◌, ◌↔◌, Bool, true, false, cond, ◌&&◌, ◌||◌, eqb, List, [], ◌∷◌, ◌++◌, map, length, reverse, get_or, set, Some, None, Option, sym, refl, ap, ap₂, ◌∙◌, subst, inl, inr, one-add, arith}
use Rattle.std.specs.Prelude.{codes, filter_map, find, Contains, is_some, Ok, Err}
use Rattle.std.specs.List.{list_any}
use Rattle.std.specs.Option.{option_map}
use Rattle.std.specs.Set.{unique_keys, is_member}
use Rattle.std.proofs.lemmas.List.{map_push, length-set, get_or_append_left, get_or_push, length_push, ext_get_or, get_or-set_same, get_or-set_other, length-reverse}
use Rattle.std.proofs.lemmas.Grind.{reverse_onto}
use Rattle.std.proofs.lemmas.Map.Views.{Contains-from_any, list_any-from_Contains}
use Rattle.std.proofs.lemmas.Map.Made.{Contains-tail}
use Rattle.std.proofs.lemmas.Cmp.{nat_eq_equiv}
use Rattle.std.proofs.lemmas.Bool.{cases_lt, cases_eq, cases_Bool, both_ways, eqb-true}
use Rattle.book.specs.Books.{Book, Offer, no_offer, no_holding, pair, is_of, spot_of, held_by, Distinct, Sound}
use Rattle.book.specs.declared.holding.Holding.{Holding}
use Rattle.book.proofs.Holdings.{Apart, held_step, held_none, is_turned, same_pair as same_parts, pair_is, none_else, distinct_is_apart}
use Rattle.terms.proofs.Spots.{spot_some, no_none}
use Rattle.round.specs.Holdings.{put_at, placed}
use Rattle.round.specs.Offering.{withdrawn}
use Rattle.tables.proofs.Firsts.{not_first, not_rest}
use Rattle.round.specs.Rounds.{fresh, with_items, with_members, with_holdings, with_offers}
use Rattle.round.specs.Uses.{Accepted, an_item, a_member, a_holding, an_offer, a_withdrawal, item_named, member_named, held, offered, number_withdrawn, same_pair, Left, JustLeft, Opened, begun, item, member, hold, offer, withdraw}
use Rattle.round.proofs.Sounds.{pairs_set, below}

-- holdings

-- the units of the latest hold for a pair
abbrev pub latest : List Holding → ℕ → ℕ → Option ℕ
latest holds m i = option_map (λ h. h.units) (find (λ h. is_of h m i) holds)

-- a pair was held where some hold for it is found
found : (holds : List Holding) (m i : ℕ) → is_member same_pair (map pair holds) (m, i) ≡ is_some (find (λ h. is_of h m i) holds)
found [] m i = refl
found (h ∷ holds) m i = ap (λ t. t || is_member same_pair (map pair holds) (m, i)) (is_turned h m i) ∙ go (is_of h m i) (found holds m i)
  where
    go : (t : Bool) → is_member same_pair (map pair holds) (m, i) ≡ is_some (find (λ x. is_of x m i) holds) → (t || is_member same_pair (map pair holds) (m, i)) ≡ is_some (cond t (Some h) (find (λ x. is_of x m i) holds))
    go true e = refl
    go false e = e

put_pairs : (hs : List Holding) (h : Holding) (holds : List Holding) (spot : Option ℕ) → spot ≡ spot_of hs h.member h.item → option_map (λ k. (get_or hs k no_holding).units) spot ≡ latest holds h.member h.item → map pair hs ≡ reverse (unique_keys same_pair (map pair holds)) → map pair (put_at spot hs h) ≡ reverse (unique_keys same_pair (map pair (h ∷ holds)))
put_pairs hs h holds spot e u p = go spot (find (λ x. is_of x h.member h.item) holds) e u (found holds h.member h.item)
  where
    go : (spot : Option ℕ) (o : Option Holding) → spot ≡ spot_of hs h.member h.item → option_map (λ k. (get_or hs k no_holding).units) spot ≡ option_map (λ x. x.units) o → is_member same_pair (map pair holds) (pair h) ≡ is_some o → map pair (put_at spot hs h) ≡ reverse (unique_keys same_pair (pair h ∷ map pair holds))
    go (Some k) (Some x) e u f = let s = spot_some hs h.member h.item k e in pairs_set hs k h s.0 s.1 ∙ p ∙ ap (λ t. reverse (cond t (unique_keys same_pair (map pair holds)) (pair h ∷ unique_keys same_pair (map pair holds)))) (sym f)
    go None None e u f = map_push pair hs h ∙ ap (λ xs. xs ++ pair h ∷ []) p ∙ sym (reverse_onto (unique_keys same_pair (map pair holds)) (pair h) []) ∙ ap (λ t. reverse (cond t (unique_keys same_pair (map pair holds)) (pair h ∷ unique_keys same_pair (map pair holds)))) (sym f)
    go (Some k) None e u f = absurd (no_none _ u)
    go None (Some x) e u f = absurd (no_none _ (sym u))

-- holdings of the same pair are the same to every search
same_search : (x h : Holding) (m i : ℕ) → is_of x h.member h.item ≡ true → is_of x m i ≡ is_of h m i
same_search x h m i e = let p = same_parts x h.member h.item e in ap₂ (λ a b. eqb a m && eqb b i) (sym p.0) (sym p.1)

-- holdings of two pairs are not both found
not_both : (x h : Holding) (m i : ℕ) → is_of x h.member h.item ≡ false → is_of x m i ≡ true → is_of h m i ≡ true → ⊥
not_both x h m i e f g =
    let p = same_parts x m i f in
    let q = same_parts h m i g in
    both_ways (is_of x h.member h.item) e (pair_is x h.member h.item (sym q.0 ∙ p.0) (sym q.1 ∙ p.1))

cond_twice : {X : Type 0} (t : Bool) (a b z : X) → cond t a z ≡ cond t a (cond t b z)
cond_twice true a b z = refl
cond_twice false a b z = refl

cond_swap : {X : Type 0} (s t : Bool) (a b z : X) → (s ≡ true → t ≡ true → ⊥) → cond s a (cond t b z) ≡ cond t b (cond s a z)
cond_swap true true a b z f = absurd (f refl refl)
cond_swap true false a b z f = refl
cond_swap false true a b z f = refl
cond_swap false false a b z f = refl

put_more : (x : Holding) (hs : List Holding) (h : Holding) (spot : Option ℕ) → put_at (option_map (λ k. 1 + k) spot) (x ∷ hs) h ≡ x ∷ put_at spot hs h
put_more x hs h None = refl
put_more x hs h (Some k) = ap (λ n. set (x ∷ hs) n h) (one-add k)

-- what is held after a holding was put among others
held_placed : (hs : List Holding) (h : Holding) (m i : ℕ) → held_by (placed hs h) m i ≡ cond (is_of h m i) (Some h.units) (held_by hs m i)
held_placed [] h m i = held_step h [] m i
held_placed (x ∷ hs) h m i = go (is_of x h.member h.item) (held_placed hs h m i) refl
  where
    go : (t : Bool) → held_by (placed hs h) m i ≡ cond (is_of h m i) (Some h.units) (held_by hs m i) → is_of x h.member h.item ≡ t → held_by (put_at (cond t (Some 0) (option_map (λ k. 1 + k) (spot_of hs h.member h.item))) (x ∷ hs) h) m i ≡ cond (is_of h m i) (Some h.units) (held_by (x ∷ hs) m i)
    go true w e =
        held_step h hs m i
        ∙ cond_twice (is_of h m i) (Some h.units) (Some x.units) (held_by hs m i)
        ∙ ap (λ t. cond (is_of h m i) (Some h.units) (cond t (Some x.units) (held_by hs m i))) (sym (same_search x h m i e))
        ∙ ap (λ o. cond (is_of h m i) (Some h.units) o) (sym (held_step x hs m i))
    go false w e =
        ap (λ ys. held_by ys m i) (put_more x hs h (spot_of hs h.member h.item))
        ∙ held_step x (placed hs h) m i
        ∙ ap (λ o. cond (is_of x m i) (Some x.units) o) w
        ∙ cond_swap (is_of x m i) (is_of h m i) (Some x.units) (Some h.units) (held_by hs m i) (not_both x h m i e)
        ∙ ap (λ o. cond (is_of h m i) (Some h.units) o) (sym (held_step x hs m i))

found_units : (h : Holding) (o : Option Holding) (t : Bool) → cond t (Some h.units) (option_map (λ x. x.units) o) ≡ option_map (λ x. x.units) (cond t (Some h) o)
found_units h o true = refl
found_units h o false = refl

held_latest : (hs : List Holding) (h : Holding) (holds : List Holding) → ((m i : ℕ) → held_by hs m i ≡ latest holds m i) → (m i : ℕ) → held_by (placed hs h) m i ≡ latest (h ∷ holds) m i
held_latest hs h holds u m i = held_placed hs h m i ∙ ap (λ o. cond (is_of h m i) (Some h.units) o) (u m i) ∙ found_units h (find (λ x. is_of x m i) holds) (is_of h m i)

-- holdings with the same pairs, none of them twice, and the same units held are the same
same_holdings : (xs ys : List Holding) → Apart xs → Apart ys → map pair xs ≡ map pair ys → ((m i : ℕ) → held_by xs m i ≡ held_by ys m i) → xs ≡ ys
same_holdings [] [] a b e u = refl
same_holdings [] (y ∷ ys) a b e u = cc
same_holdings (x ∷ xs) [] a b e u = cc
same_holdings (x ∷ xs) (y ∷ ys) a b e u = ap₂ ◌∷◌ head (same_holdings xs ys a.1 b.1 rest others)
  where
    first : pair x ≡ pair y
    first = cc

    rest : map pair xs ≡ map pair ys
    rest = cc

    member : y.member ≡ x.member
    member = ap (λ p. p.0) (sym first)

    item : y.item ≡ x.item
    item = ap (λ p. p.1) (sym first)

    units : Some x.units ≡ Some y.units
    units =
        sym (held_step x xs x.member x.item ∙ ap (λ t. cond t (Some x.units) (held_by xs x.member x.item)) (pair_is x x.member x.item refl refl))
        ∙ u x.member x.item
        ∙ held_step y ys x.member x.item
        ∙ ap (λ t. cond t (Some y.units) (held_by ys x.member x.item)) (pair_is y x.member x.item (sym member) (sym item))

    head : x ≡ y
    head = let k : x.units ≡ y.units = cc units in λ j. record { member = sym member j; item = sym item j; units = k j }

    others : (m i : ℕ) → held_by xs m i ≡ held_by ys m i
    others m i = go (is_of x m i) refl
      where
        go : (t : Bool) → is_of x m i ≡ t → held_by xs m i ≡ held_by ys m i
        go true e = held_none xs m i (none_else x xs m i a e) ∙ sym (held_none ys m i (none_else y ys m i b (sym (same_search x y m i (pair_is x y.member y.item member item)) ∙ e)))
        go false e =
            sym (held_step x xs m i ∙ ap (λ t. cond t (Some x.units) (held_by xs m i)) e)
            ∙ u m i
            ∙ held_step y ys m i
            ∙ ap (λ t. cond t (Some y.units) (held_by ys m i)) (sym (same_search x y m i (pair_is x y.member y.item member item)) ∙ e)

-- offers

-- the offers as they stand, of those that were made and the numbers withdrawn, the latest first
pub record Offered (made : List Offer) (back : List ℕ) (os : List Offer) : Type 0 where
  pub count : length os ≡ length made
  pub standing : (k : ℕ) → k < length os → (Contains back k → ⊥) → get_or os k no_offer ≡ get_or (reverse made) k no_offer
  pub gone : (k : ℕ) → k < length os → Contains back k → get_or os k no_offer ≡ withdrawn (get_or (reverse made) k no_offer)
  pub limits : (k : ℕ) → k < length os → (Contains back k → ⊥) → 0 < (get_or os k no_offer).limit
  -- an offer was made before it was withdrawn
  pub before : (k : ℕ) → Contains back k → k < length os

-- what was made before stands where it stood
made_before : (made : List Offer) (o : Offer) (k : ℕ) → k < length made → get_or (reverse (o ∷ made)) k no_offer ≡ get_or (reverse made) k no_offer
made_before made o k l = ap (λ xs. get_or xs k no_offer) (reverse_onto made o []) ∙ get_or_append_left (reverse made) (o ∷ []) no_offer k (omega (arith, length-reverse made))

made_last : (made : List Offer) (o : Offer) (k : ℕ) → length made ≡ k → get_or (reverse (o ∷ made)) k no_offer ≡ o
made_last made o k e = ap (λ xs. get_or xs k no_offer) (reverse_onto made o []) ∙ get_or_push (reverse made) o no_offer k (length-reverse made ∙ e)

pub one_more : (made : List Offer) (back : List ℕ) (os : List Offer) (o : Offer) → 0 < o.limit → Offered made back os → Offered (o ∷ made) back (os ++ o ∷ [])
one_more made back os o some p = record {
  count = omega (arith, longer, p.count);
  standing = λ k l f. elim (cases_lt k (length os)) [
    | inl e ↦ get_or_append_left os (o ∷ []) no_offer k e ∙ p.standing k e f ∙ sym (made_before made o k (omega (arith, p.count)))
    | inr e ↦ let n : length os ≡ k = omega (arith, longer) in get_or_push os o no_offer k n ∙ sym (made_last made o k (sym p.count ∙ n))
  ];
  gone = λ k l c. let e = p.before k c in get_or_append_left os (o ∷ []) no_offer k e ∙ p.gone k e c ∙ ap withdrawn (sym (made_before made o k (omega (arith, p.count))));
  limits = λ k l f. elim (cases_lt k (length os)) [
    | inl e ↦ subst (λ x. 0 < x.limit) (sym (get_or_append_left os (o ∷ []) no_offer k e)) (p.limits k e f)
    | inr e ↦ subst (λ x. 0 < x.limit) (sym (get_or_push os o no_offer k (omega (arith, longer)))) some
  ];
  before = λ k c. omega (arith, longer, p.before k c);
}
  where
    longer : length (os ++ o ∷ []) ≡ length os + 1
    longer = length_push os o

-- whether a number is among others
among : (ks : List ℕ) (k : ℕ) → Contains ks k ⊎ (Contains ks k → ⊥)
among ks k = elim (cases_Bool (list_any (eqb k) ks)) [
  | inl e ↦ inl (Contains-from_any eqb-true k ks e)
  | inr e ↦ inr (λ c. both_ways (list_any (eqb k) ks) e (list_any-from_Contains nat_eq_equiv k ks c))
]

-- the offer is as it was made, but for its limit
limited : {made : List Offer} {back : List ℕ} {os : List Offer} → Offered made back os → (k : ℕ) → k < length os → withdrawn (get_or os k no_offer) ≡ withdrawn (get_or (reverse made) k no_offer)
limited {back = back} p k l = elim (among back k) [ inl c ↦ ap withdrawn (p.gone k l c) | inr f ↦ ap withdrawn (p.standing k l f) ]

pub one_back : (made : List Offer) (back : List ℕ) (os : List Offer) (k : ℕ) → k < length os → Offered made back os → Offered made (k ∷ back) (set os k (withdrawn (get_or os k no_offer)))
one_back made back os k l p = record {
  count = same ∙ p.count;
  standing = λ j m f. elim (cases_eq k j) [
    | inl e ↦ absurd (f (0, omega arith, e))
    | inr n ↦ get_or-set_other os k j _ no_offer (λ e. n (sym e)) ∙ p.standing j (omega (arith, same)) (λ c. f (suc c.0, omega (arith, c.1), c.2))
  ];
  gone = λ j m c. elim (cases_eq k j) [
    | inl e ↦ subst (λ i. get_or after i no_offer ≡ withdrawn (get_or (reverse made) i no_offer)) e (get_or-set_same os k _ no_offer l ∙ limited p k l)
    | inr n ↦ get_or-set_other os k j _ no_offer (λ e. n (sym e)) ∙ p.gone j (omega (arith, same)) (Contains-tail k back j n c)
  ];
  limits = λ j m f. elim (cases_eq k j) [
    | inl e ↦ absurd (f (0, omega arith, e))
    | inr n ↦ subst (λ x. 0 < x.limit) (sym (get_or-set_other os k j _ no_offer (λ e. n (sym e)))) (p.limits j (omega (arith, same)) (λ c. f (suc c.0, omega (arith, c.1), c.2)))
  ];
  before = λ j c. elim (cases_eq k j) [ inl e ↦ omega (arith, same) | inr n ↦ omega (arith, same, p.before j (Contains-tail k back j n c)) ];
}
  where
    after : List Offer
    after = set os k (withdrawn (get_or os k no_offer))

    same : length (set os k (withdrawn (get_or os k no_offer))) ≡ length os
    same = length-set os k (withdrawn (get_or os k no_offer))

-- the whole book

record Grown (calls : List Accepted) (b : Book) : Type 0 where
  items : b.items ≡ codes "cash" ∷ reverse (filter_map item_named calls)
  members : b.members ≡ reverse (filter_map member_named calls)
  pairs : map pair b.holdings ≡ reverse (unique_keys same_pair (map pair (filter_map held calls)))
  units : (m i : ℕ) → held_by b.holdings m i ≡ latest (filter_map held calls) m i
  offers : Offered (filter_map offered calls) (filter_map number_withdrawn calls) b.offers

grown_fresh : Grown [] fresh
grown_fresh = record {
  items = refl;
  members = refl;
  pairs = refl;
  units = λ m i. refl;
  offers = record { count = refl; standing = λ k l f. absurd (omega arith); gone = λ k l c. absurd (omega arith); limits = λ k l f. absurd (omega arith); before = λ k c. omega (arith, c.1) };
}

grown_item : (calls : List Accepted) (b : Book) (s : List ℕ) → Grown calls b → Grown (an_item s ∷ calls) (with_items b (b.items ++ s ∷ []))
grown_item calls b s g = record {
  items = ap (λ xs. xs ++ s ∷ []) g.items ∙ ap (λ xs. codes "cash" ∷ xs) (sym (reverse_onto (filter_map item_named calls) s []));
  members = g.members;
  pairs = g.pairs;
  units = g.units;
  offers = g.offers;
}

grown_member : (calls : List Accepted) (b : Book) (s : List ℕ) → Grown calls b → Grown (a_member s ∷ calls) (with_members b (b.members ++ s ∷ []))
grown_member calls b s g = record {
  items = g.items;
  members = ap (λ xs. xs ++ s ∷ []) g.members ∙ sym (reverse_onto (filter_map member_named calls) s []);
  pairs = g.pairs;
  units = g.units;
  offers = g.offers;
}

grown_hold : (calls : List Accepted) (b : Book) (h : Holding) → Grown calls b → Grown (a_holding h ∷ calls) (with_holdings b (placed b.holdings h))
grown_hold calls b h g = record {
  items = g.items;
  members = g.members;
  pairs = put_pairs b.holdings h (filter_map held calls) (spot_of b.holdings h.member h.item) refl (g.units h.member h.item) g.pairs;
  units = held_latest b.holdings h (filter_map held calls) g.units;
  offers = g.offers;
}

grown_offer : (calls : List Accepted) (b : Book) (o : Offer) → 0 < o.limit → Grown calls b → Grown (an_offer o ∷ calls) (with_offers b (b.offers ++ o ∷ []))
grown_offer calls b o some g = record {
  items = g.items;
  members = g.members;
  pairs = g.pairs;
  units = g.units;
  offers = one_more (filter_map offered calls) (filter_map number_withdrawn calls) b.offers o some g.offers;
}

grown_withdraw : (calls : List Accepted) (b : Book) (k : ℕ) → k < length b.offers → Grown calls b → Grown (a_withdrawal k ∷ calls) (with_offers b (set b.offers k (withdrawn (get_or b.offers k no_offer))))
grown_withdraw calls b k l g = record {
  items = g.items;
  members = g.members;
  pairs = g.pairs;
  units = g.units;
  offers = one_back (filter_map offered calls) (filter_map number_withdrawn calls) b.offers k l g.offers;
}

grown : {calls : List Accepted} {b : Book} → Opened calls b → Grown calls b
grown (begun b e) = subst (Grown []) (sym e) grown_fresh
grown (item {calls} {b} b' s (Ok k) u t) = subst (Grown (an_item s ∷ calls)) (sym t.outcome.1) (grown_item calls b s (grown u))
grown (item {calls} {b} b' s (Err e) u t) = subst (Grown calls) (sym t.outcome) (grown u)
grown (member {calls} {b} b' s (Ok k) u t) = subst (Grown (a_member s ∷ calls)) (sym t.outcome.1) (grown_member calls b s (grown u))
grown (member {calls} {b} b' s (Err e) u t) = subst (Grown calls) (sym t.outcome) (grown u)
grown (hold {calls} {b} b' h (Ok x) u t) = subst (Grown (a_holding h ∷ calls)) (sym t.outcome) (grown_hold calls b h (grown u))
grown (hold {calls} {b} b' h (Err e) u t) = subst (Grown calls) (sym t.outcome) (grown u)
grown (offer {calls} {b} b' o (Ok k) u t) = subst (Grown (an_offer o ∷ calls)) (sym t.outcome.1) (grown_offer calls b o (below 0 o.limit (λ l. not_first (not_rest (not_rest t.refused)) (inl (inl (omega arith))))) (grown u))
grown (offer {calls} {b} b' o (Err e) u t) = subst (Grown calls) (sym t.outcome) (grown u)
grown (withdraw {calls} {b} b' k (Ok x) u t) = subst (Grown (a_withdrawal k ∷ calls)) (sym t.outcome) (grown_withdraw calls b k (below k (length b.offers) (not_first t.refused)) (grown u))
grown (withdraw {calls} {b} b' k (Err e) u t) = subst (Grown calls) (sym t.outcome) (grown u)

left : {calls : List Accepted} {b : Book} → Grown calls b → Left calls b
left g = record { items = g.items; members = g.members; pairs = g.pairs; units = g.units; count = g.offers.count; standing = g.offers.standing; gone = g.offers.gone }

-- an offer has limit 0 exactly where it was withdrawn
limit_none : {made : List Offer} {back : List ℕ} {os : List Offer} → Offered made back os → (k : ℕ) → k < length os → ((get_or os k no_offer).limit ≡ 0) ↔ Contains back k
limit_none {back = back} {os = os} p k l = (λ e. elim (among back k) [ inl c ↦ c | inr f ↦ absurd (omega (arith, p.limits k l f, e)) ], λ c. ap (λ o. o.limit) (p.gone k l c))

-- offers of the same calls are the same
same_offers : (calls : List Accepted) (b c : Book) → Left calls b → Left calls c → c.offers ≡ b.offers
same_offers calls b c p q = ext_get_or no_offer c.offers b.offers same at
  where
    same : length c.offers ≡ length b.offers
    same = q.count ∙ sym p.count

    at : (k : ℕ) → k < length c.offers → get_or c.offers k no_offer ≡ get_or b.offers k no_offer
    at k l = elim (among (filter_map number_withdrawn calls) k) [
      | inl c ↦ q.gone k l c ∙ sym (p.gone k (omega (arith, same)) c)
      | inr f ↦ q.standing k l f ∙ sym (p.standing k (omega (arith, same)) f)
    ]

-- calls leave one sound book
same_book : (calls : List Accepted) (b c : Book) → Sound b → Left calls b → Left calls c → c ≡ b
same_book calls b c s p q = λ j. record { items = items j; members = members j; holdings = holdings j; offers = offers j }
  where
    items : c.items ≡ b.items
    items = q.items ∙ sym p.items

    members : c.members ≡ b.members
    members = q.members ∙ sym p.members

    pairs : map pair c.holdings ≡ map pair b.holdings
    pairs = q.pairs ∙ sym p.pairs

    holdings : c.holdings ≡ b.holdings
    holdings = same_holdings c.holdings b.holdings (distinct_is_apart c.holdings (subst Distinct (sym pairs) s.holdings_apart)) (distinct_is_apart b.holdings s.holdings_apart) pairs (λ m i. q.units m i ∙ sym (p.units m i))

    offers : c.offers ≡ b.offers
    offers = same_offers calls b c p q

pub just_left : {calls : List Accepted} {b : Book} → Opened calls b → Sound b → JustLeft calls b
just_left {calls} {b} u s =
    let g = grown u in
    let p = left g in
    record { left = p; alone = λ c q. same_book calls b c s p q; limits = limit_none g.offers }
