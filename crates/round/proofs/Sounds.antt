-- Each call on an open round leaves its book sound.
use Rattle.std.proofs.Common.{◌≡◌, ℕ, zero, suc, ◌+◌, ◌<◌, ◌≤◌, List, [], ◌∷◌, ◌++◌, map, length, get_or, set, Some, None, Ok, Err, Option, Result, sym, refl, ap, ◌∙◌, subst, inl, inr, arith}
use native.Mathlib.Bridge.{le_prop}
use mathlib.Core.Logic.{∥∥₁_elim}
use Rattle.std.specs.List.{AllByRecursion}
use Rattle.std.proofs.lemmas.List.{length-map, map_push, length-set, get_or_append_left, length_push, get_or_default}
use Rattle.std.proofs.ByRecursion.{All-get_or, All-from_get_or, All-weaker, All-push, All-set}
use Rattle.std.proofs.lemmas.Bool.{cases_Bool, both_ways}
use Rattle.tables.specs.Refusals.{First}
use Rattle.tables.specs.declared.refusal.Refusal.{Refusal}
use Rattle.tables.proofs.Firsts.{not_first, not_rest}
use Rattle.book.specs.Spelling.{name_bytes, Spelt}
use Rattle.book.specs.Books.{Book, Offer, no_offer, pair, spot_of, Distinct, Twice, Any, item_of, line_count, FairHolding, Fair, Side, FairOffer, Sound}
use Rattle.book.specs.declared.line.Line.{Line}
use Rattle.book.specs.declared.holding.Holding.{Holding}
use Rattle.book.proofs.Apart.{distinct_push}
use Rattle.round.specs.Rounds.{fresh, with_offers}
use Rattle.round.specs.Naming.{TakesItem, TakesMember}
use Rattle.round.specs.Holdings.{put_at, Holds}
use Rattle.terms.specs.Lines.{Out}
use Rattle.round.specs.Offering.{offering, TakesOffer, withdrawn, Withdraws}
use Rattle.terms.proofs.Spots.{spot_some, spot_none}
use Rattle.round.specs.Kept.{offer_of}
use Rattle.round.specs.declared.open_round.OpenRound.{OpenRound}
use Rattle.round.proofs.Rows.{count_rows}

pub sound_fresh : Sound fresh
sound_fresh = record {
  cash = (omega arith, refl);
  items_spelt = ((omega arith, omega arith, refl), tt);
  items_apart = λ i j d lt lj e. omega arith;
  items_few = omega arith;
  members_spelt = tt;
  members_apart = λ i j d lt lj e. omega arith;
  members_few = omega arith;
  holdings_fair = tt;
  holdings_apart = λ i j d lt lj e. omega arith;
  holdings_few = omega arith;
  offers_fair = tt;
  offers_few = omega arith;
  lines_few = omega arith;
}

pub below : (a b : ℕ) → (b ≤ a → ⊥) → a < b
below a b f = omega arith

at_most : (a b : ℕ) → (b < a → ⊥) → a ≤ b
at_most a b f = omega arith

-- a name that is not ill spelt is spelt
spelt : (s : List ℕ) → ((Spelt s → ⊥) → ⊥) → Spelt s
spelt s f = (
  at_most 1 (length s) (λ l. f (λ p. omega (arith, p.0))),
  at_most (length s) 12 (λ l. f (λ p. omega (arith, p.1))),
  elim (cases_Bool (name_bytes s)) [ inl e ↦ e | inr e ↦ absurd (f (λ p. both_ways (name_bytes s) e p.2)) ],
)

fair_more : (n n' : ℕ) → n ≤ n' → (l : Line) → Fair n l → Fair n' l
fair_more n n' le l p = record { known = omega arith; least = p.least; most = p.most; price = p.price }

side_more : (n n' : ℕ) (ls : List Line) → n ≤ n' → Side n ls → Side n' ls
side_more n n' ls le p = record { some = p.some; fair = All-weaker (Fair n) (Fair n') (fair_more n n' le) ls p.fair; apart = p.apart }

-- more items and more members leave an offer fair
offer_more : (n n' m m' : ℕ) → n ≤ n' → m ≤ m' → (o : Offer) → FairOffer n m o → FairOffer n' m' o
offer_more n n' m m' ln lm o p = record { known = omega arith; most = p.most; gives = side_more n n' o.give ln p.gives; gets = side_more n n' o.get ln p.gets; no_loop = p.no_loop }

holding_more : (n n' m m' : ℕ) → n ≤ n' → m ≤ m' → (h : Holding) → FairHolding n m h → FairHolding n' m' h
holding_more n n' m m' ln lm h p = (omega (arith, p.0), omega (arith, p.1), p.2)

pub sound_item : (b b' : Book) (s : List ℕ) (r : Result ℕ Refusal) → TakesItem b b' s r → Sound b → Sound b'
sound_item b b' s (Err e) t k = subst Sound (sym t.outcome) k
sound_item b b' s (Ok n) t k =
    let xs = b.items in
    let longer = length_push xs s in
    let f = t.refused in
    let room = below (length xs) 16 (not_first f) in
    let grows : length xs ≤ length (xs ++ s ∷ []) = omega arith in
    subst Sound (sym t.outcome.1) (record {
      cash = (omega (arith, k.cash.0), get_or_append_left xs (s ∷ []) [] 0 k.cash.0 ∙ k.cash.1);
      items_spelt = All-push Spelt xs s k.items_spelt (spelt s (not_first (not_rest f)));
      items_apart = distinct_push xs s k.items_apart (not_first (not_rest (not_rest f)));
      items_few = omega arith;
      members_spelt = k.members_spelt;
      members_apart = k.members_apart;
      members_few = k.members_few;
      holdings_fair = All-weaker _ _ (holding_more (length xs) (length (xs ++ s ∷ [])) (length b.members) (length b.members) grows (omega arith)) b.holdings k.holdings_fair;
      holdings_apart = k.holdings_apart;
      holdings_few = k.holdings_few;
      offers_fair = All-weaker _ _ (offer_more (length xs) (length (xs ++ s ∷ [])) (length b.members) (length b.members) grows (omega arith)) b.offers k.offers_fair;
      offers_few = k.offers_few;
      lines_few = k.lines_few;
    })

pub sound_member : (b b' : Book) (s : List ℕ) (r : Result ℕ Refusal) → TakesMember b b' s r → Sound b → Sound b'
sound_member b b' s (Err e) t k = subst Sound (sym t.outcome) k
sound_member b b' s (Ok n) t k =
    let xs = b.members in
    let longer = length_push xs s in
    let f = t.refused in
    let room = below (length xs) 32 (not_first f) in
    let grows : length xs ≤ length (xs ++ s ∷ []) = omega arith in
    subst Sound (sym t.outcome.1) (record {
      cash = k.cash;
      items_spelt = k.items_spelt;
      items_apart = k.items_apart;
      items_few = k.items_few;
      members_spelt = All-push Spelt xs s k.members_spelt (spelt s (not_first (not_rest f)));
      members_apart = distinct_push xs s k.members_apart (not_first (not_rest (not_rest f)));
      members_few = omega arith;
      holdings_fair = All-weaker _ _ (holding_more (length b.items) (length b.items) (length xs) (length (xs ++ s ∷ [])) (omega arith) grows) b.holdings k.holdings_fair;
      holdings_apart = k.holdings_apart;
      holdings_few = k.holdings_few;
      offers_fair = All-weaker _ _ (offer_more (length b.items) (length b.items) (length xs) (length (xs ++ s ∷ [])) (omega arith) grows) b.offers k.offers_fair;
      offers_few = k.offers_few;
      lines_few = k.lines_few;
    })

-- a holding in the place of the one with the same pair leaves the pairs as they are
pub pairs_set : (hs : List Holding) (k : ℕ) (h : Holding) → k < length hs → ((d : Holding) → pair (get_or hs k d) ≡ pair h) → map pair (set hs k h) ≡ map pair hs
pairs_set (x ∷ hs) zero h l e = ap (λ p. p ∷ map pair hs) (sym (e x))
pairs_set (x ∷ hs) (suc k) h l e = ap (λ ps. pair x ∷ ps) (pairs_set hs k h (omega arith) e)
pairs_set [] k h l e = absurd (omega arith)

put_apart : (hs : List Holding) (h : Holding) (spot : Option ℕ) → spot ≡ spot_of hs h.member h.item → Distinct (map pair hs) → Distinct (map pair (put_at spot hs h))
put_apart hs h (Some k) e d = let s = spot_some hs h.member h.item k e in subst Distinct (sym (pairs_set hs k h s.0 s.1)) d
put_apart hs h None e d = subst Distinct (sym (map_push pair hs h)) (distinct_push (map pair hs) (pair h) d (spot_none hs h.member h.item e))

put_fair : (P : Holding → Type 0) (hs : List Holding) (h : Holding) (spot : Option ℕ) → AllByRecursion P hs → P h → AllByRecursion P (put_at spot hs h)
put_fair P hs h (Some k) a p = All-set P hs k h p a
put_fair P hs h None a p = All-push P hs h a p

put_few : (hs : List Holding) (h : Holding) (spot : Option ℕ) → ((128 ≤ length hs) × (spot ≡ None) → ⊥) → length hs ≤ 128 → length (put_at spot hs h) ≤ 128
put_few hs h (Some k) f l = omega (arith, length-set hs k h)
put_few hs h None f l = let r = below (length hs) 128 (λ g. f (g, refl)) in omega (arith, length_push hs h)

pub sound_hold : (b b' : Book) (h : Holding) (r : Result (Unit {0}) Refusal) → Holds b b' h r → Sound b → Sound b'
sound_hold b b' h (Err e) t k = subst Sound (sym t.outcome) k
sound_hold b b' h (Ok u) t k =
    let f = t.refused in
    let known = not_first f in
    let fair : FairHolding (length b.items) (length b.members) h =
    (below h.member (length b.members) (λ l. known (inl l)), below h.item (length b.items) (λ l. known (inr l)), at_most h.units 1000 (not_first (not_rest (not_rest f)))) in
    let spot = spot_of b.holdings h.member h.item in
    subst Sound (sym t.outcome) (record {
      cash = k.cash;
      items_spelt = k.items_spelt;
      items_apart = k.items_apart;
      items_few = k.items_few;
      members_spelt = k.members_spelt;
      members_apart = k.members_apart;
      members_few = k.members_few;
      holdings_fair = put_fair (FairHolding (length b.items) (length b.members)) b.holdings h spot k.holdings_fair fair;
      holdings_apart = put_apart b.holdings h spot refl k.holdings_apart;
      holdings_few = put_few b.holdings h spot (not_first (not_rest f)) k.holdings_few;
      offers_fair = k.offers_fair;
      offers_few = k.offers_few;
      lines_few = k.lines_few;
    })

not_any : {X : Type 0} (P : X → Type 0) (xs : List X) → (Any P xs → ⊥) → (i : ℕ) (z : X) → i < length xs → P (get_or xs i z) → ⊥
not_any P xs f i z l p = f (i, l, λ d. subst P (get_or_default xs i z d l) p)

apart : {X : Type 0} (xs : List X) → (Twice xs → ⊥) → Distinct xs
apart xs f i j d lt lj e = f (j, lj, i, lt, λ d'. get_or_default xs i d' d (omega arith) ∙ e ∙ get_or_default xs j d d' lj)

no_line : Line
no_line = record { item = 0; limit = 0; price = 0 }

side : (n : ℕ) (ls : List Line) → (Any (λ l. n ≤ l.item) ls → ⊥) → (Any (λ l. Out l.limit) ls → ⊥) → (Any (λ l. 1000000 < l.price) ls → ⊥) → (Twice (map item_of ls) → ⊥) → (length ls ≡ 0 → ⊥) → Side n ls
side n ls fi fl fp ft fe = record {
  some = at_most 1 (length ls) (λ l. fe (omega arith));
  fair = All-from_get_or (Fair n) ls no_line fair;
  apart = apart (map item_of ls) ft;
}
  where
    fair : (i : ℕ) → i < length ls → Fair n (get_or ls i no_line)
    fair i l = record {
      known = below (get_or ls i no_line).item n (not_any (λ l. n ≤ l.item) ls fi i no_line l);
      least = at_most 1 (get_or ls i no_line).limit (λ h. not_any (λ l. Out l.limit) ls fl i no_line l (inl h));
      most = at_most (get_or ls i no_line).limit 1000 (λ h. not_any (λ l. Out l.limit) ls fl i no_line l (inr h));
      price = at_most (get_or ls i no_line).price 1000000 (not_any (λ l. 1000000 < l.price) ls fp i no_line l);
    }

-- an offer that nothing speaks against is fair
fair_offer : (b : Book) (o : Offer) → First (offering b o) None → FairOffer (length b.items) (length b.members) o
fair_offer b o f1 =
    let f3 = not_rest (not_rest f1) in
    let f4 = not_rest f3 in
    let f6 = not_rest f4 in
    let f7 = not_rest f6 in
    let n1 = not_first f1 in
    let n3 = not_first f3 in
    let n4 = not_first f4 in
    let n6 = not_first f6 in
    let n7 = not_first f7 in
    record {
      known = below o.member (length b.members) (λ h. n1 (inl h));
      most = at_most o.limit 1000 (λ h. n3 (inl (inr h)));
      gives = side (length b.items) o.give (λ h. n1 (inr (inl h))) (λ h. n3 (inr (inl h))) (λ h. n4 (inl h)) (λ h. n6 (inl h)) (λ h. n7 (inl h));
      gets = side (length b.items) o.get (λ h. n1 (inr (inr h))) (λ h. n3 (inr (inr h))) (λ h. n4 (inr h)) (λ h. n6 (inr h)) (λ h. n7 (inr h));
      no_loop = not_first (not_rest f7);
    }

-- there is room for an offer that nothing speaks against
pub room : (b : Book) (o : Offer) → First (offering b o) None → (length b.offers < 64) × (line_count b.offers + (length o.give + length o.get) ≤ 256)
room b o f =
    let n2 = not_first (not_rest f) in
    (below (length b.offers) 64 (λ h. n2 (inl h)), at_most (line_count b.offers + (length o.give + length o.get)) 256 (λ h. n2 (inr h)))

count_push : (os : List Offer) (o : Offer) → line_count (os ++ o ∷ []) ≡ line_count os + (length o.give + length o.get)
count_push [] o = omega arith
count_push (x ∷ os) o = omega (arith, count_push os o)

-- other offers, if they are fair and few, leave a book sound
offers_sound : (b : Book) (os : List Offer) → Sound b → AllByRecursion (FairOffer (length b.items) (length b.members)) os → length os ≤ 64 → line_count os ≤ 256 → Sound (with_offers b os)
offers_sound b os k fair few lines = record {
  cash = k.cash;
  items_spelt = k.items_spelt;
  items_apart = k.items_apart;
  items_few = k.items_few;
  members_spelt = k.members_spelt;
  members_apart = k.members_apart;
  members_few = k.members_few;
  holdings_fair = k.holdings_fair;
  holdings_apart = k.holdings_apart;
  holdings_few = k.holdings_few;
  offers_fair = fair;
  offers_few = few;
  lines_few = lines;
}

pub sound_offer : (b b' : Book) (o : Offer) (r : Result ℕ Refusal) → TakesOffer b b' o r → Sound b → Sound b'
sound_offer b b' o (Err e) t k = subst Sound (sym t.outcome) k
sound_offer b b' o (Ok n) t k =
    let rm = room b o t.refused in
    subst Sound (sym t.outcome.1)
    (offers_sound b (b.offers ++ o ∷ []) k (All-push (FairOffer (length b.items) (length b.members)) b.offers o k.offers_fair (fair_offer b o t.refused)) (omega (arith, rm.0, length_push b.offers o)) (omega (arith, rm.1, count_push b.offers o)))

count_set : (os : List Offer) (k : ℕ) → line_count (set os k (withdrawn (get_or os k no_offer))) ≡ line_count os
count_set [] zero = refl
count_set [] (suc k) = refl
count_set (x ∷ os) zero = refl
count_set (x ∷ os) (suc k) = ap (λ n. (length x.give + length x.get) + n) (count_set os k)

pub sound_withdraw : (b b' : Book) (n : ℕ) (r : Result (Unit {0}) Refusal) → Withdraws b b' n r → Sound b → Sound b'
sound_withdraw b b' n (Err e) t k = subst Sound (sym t.outcome) k
sound_withdraw b b' n (Ok u) t k =
    let P = FairOffer (length b.items) (length b.members) in
    let o = get_or b.offers n no_offer in
    let g = All-get_or P b.offers n no_offer (below n (length b.offers) (not_first t.refused)) k.offers_fair in
    let fair : P (withdrawn o) = record { known = g.known; most = omega arith; gives = g.gives; gets = g.gets; no_loop = g.no_loop } in
    subst Sound (sym t.outcome)
    (offers_sound b (set b.offers n (withdrawn o)) k (All-set P b.offers n (withdrawn o) fair k.offers_fair) (omega (arith, k.offers_few, length-set b.offers n (withdrawn o))) (omega (arith, k.lines_few, count_set b.offers n)))

-- the tables of a round have the sizes of its book
pub few_holdings : (r : OpenRound) → length r.holdings ≤ 128
few_holdings r = ∥∥₁_elim r.sound le_prop (λ s. s.holdings_few)

pub few_offers : (r : OpenRound) → length r.offers ≤ 64
few_offers r = omega (arith, ∥∥₁_elim r.sound le_prop (λ s. s.offers_few), length-map r.offers (offer_of r.lines))

pub few_lines : (r : OpenRound) → length r.lines ≤ 256
few_lines r = omega (arith, ∥∥₁_elim r.sound le_prop (λ s. s.lines_few), count_rows 0 r.offers r.lines r.rows)
