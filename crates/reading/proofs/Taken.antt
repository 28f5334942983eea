-- Offers that keep the rules, and the round that takes them.
use Rattle.std.proofs.Common.{◌≡◌, ℕ, ◌+◌, ◌<◌, ◌≤◌, ◌⊎◌, List, [], ◌∷◌, ◌++◌, map, length, get_or, set, None, Ok, Option, Result, is_ok, IsOk, refl, ap, ◌∙◌, subst, inl, inr, arith}
use mathlib.Core.Logic.{∥∥₁_elim}
use native.Mathlib.Bridge.{le_prop}
use Rattle.std.proofs.ByRecursion.{All-get_or}
use Rattle.std.proofs.lemmas.List.{length_push, get_or_push, set_at}
use Rattle.tables.specs.Refusals.{First, refusal}
use Rattle.tables.specs.declared.refusal.Refusal.{Refusal}
use Rattle.tables.proofs.Firsts.{accepted}
use Rattle.book.specs.Books.{Book, Offer, no_line, no_offer, Distinct, Twice, Fair, FairOffer, item_of, line_count}
use Rattle.book.specs.declared.line.Line.{Line}
use Rattle.terms.specs.Lines.{EitherSide, Out}
use Rattle.round.specs.Offering.{made, offering, TakesOffer, withdrawn, Withdraws}
use Rattle.round.specs.Rounds.{book, with_offers}
use Rattle.round.specs.declared.open_round.OpenRound.{OpenRound}
use Rattle.reading.specs.Offers.{Takable, OfferAdded}

pub few_items : (r : OpenRound) → length (book r).items ≤ 16
few_items r = ∥∥₁_elim r.sound le_prop (λ s. s.items_few)

pub few_members : (r : OpenRound) → length (book r).members ≤ 32
few_members r = ∥∥₁_elim r.sound le_prop (λ s. s.members_few)

-- what no fair line has, no line of either side has
neither_side : {n m : ℕ} (o : Offer) (P : Line → Type 0) → ((l : Line) → Fair n l → P l → ⊥) → FairOffer n m o → EitherSide P o.give o.get → ⊥
neither_side {n} o P f fair (inl (k, lt, at)) = f (get_or o.give k no_line) (All-get_or (Fair n) o.give k no_line lt fair.gives.fair) (at no_line)
neither_side {n} o P f fair (inr (k, lt, at)) = f (get_or o.get k no_line) (All-get_or (Fair n) o.get k no_line lt fair.gets.fair) (at no_line)

once : (xs : List ℕ) → Distinct xs → Twice xs → ⊥
once xs d (j, lj, i, lt, e) = d i j 0 lt lj (e 0)

module _ (b : Book) (o : Offer) (t : Takable b o) (least : 1 ≤ o.limit) where
  abbrev fair : FairOffer (length b.items) (length b.members) o
  fair = t.fair

  -- nothing speaks against the offer
  none_against : (r : Option ℕ) → First (offering b o) r → r ≡ None
  none_against r h = ((((((h.1 known).1 full).1 bounds).1 price).1 twice).1 bare).1 fair.no_loop
    where
      known : (length b.members ≤ o.member) ⊎ EitherSide (λ l. length b.items ≤ l.item) o.give o.get → ⊥
      known (inl l) = omega (arith, fair.known)
      known (inr e) = neither_side o (λ l. length b.items ≤ l.item) (λ l f h. omega (arith, f.known)) fair e

      full : (64 ≤ length b.offers) ⊎ (256 < line_count b.offers + (length o.give + length o.get)) → ⊥
      full (inl l) = omega (arith, t.few)
      full (inr l) = omega (arith, t.room)

      within : (n : ℕ) → 1 ≤ n → n ≤ 1000 → Out n → ⊥
      within n l m (inl h) = omega arith
      within n l m (inr h) = omega arith

      bounds : Out o.limit ⊎ EitherSide (λ l. Out l.limit) o.give o.get → ⊥
      bounds (inl h) = within o.limit least fair.most h
      bounds (inr e) = neither_side o (λ l. Out l.limit) (λ l f h. within l.limit f.least f.most h) fair e

      price : EitherSide (λ l. 1000000 < l.price) o.give o.get → ⊥
      price e = neither_side o (λ l. 1000000 < l.price) (λ l f h. omega (arith, f.price)) fair e

      twice : Twice (map item_of o.give) ⊎ Twice (map item_of o.get) → ⊥
      twice (inl t) = once (map item_of o.give) fair.gives.apart t
      twice (inr t) = once (map item_of o.get) fair.gets.apart t

      bare : (length o.give ≡ 0) ⊎ (length o.get ≡ 0) → ⊥
      bare (inl e) = omega (arith, fair.gives.some)
      bare (inr e) = omega (arith, fair.gets.some)

  -- so the round takes it
  pub taken : (after : Book) (r : Result ℕ Refusal) → TakesOffer b after o r → IsOk r
  taken after r h = ap is_ok (accepted _ _ r (none_against (refusal r) h.refused) h.outcome).1

-- one whose limit is 0
module _ (b : Book) (member limit : ℕ) (give get : List Line) (none : limit ≤ 0) where
  abbrev at_first : Offer
  at_first = made member 1 give get

  pub takable_first : Takable b (made member limit give get) → Takable b at_first
  takable_first t = record { fair = record { known = t.fair.known; most = omega arith; gives = t.fair.gives; gets = t.fair.gets; no_loop = t.fair.no_loop }; few = t.few; room = t.room }

  -- it is withdrawn after it was added
  pub last_withdrawn : (middle after : Book) (k : ℕ) (q : Result ℕ Refusal) (r : Result (Unit {0}) Refusal) → TakesOffer b middle at_first q → q ≡ Ok k → Withdraws middle after k r → OfferAdded b after (made member limit give get)
  last_withdrawn middle after k q r h e v =
      let os = b.offers in
      let all = os ++ at_first ∷ [] in
      let t = subst (λ q. TakesOffer b middle at_first q) e h in
      let w : Withdraws (with_offers b all) after (length os) r = subst (λ i. Withdraws (with_offers b all) after i r) t.outcome.0 (subst (λ c. Withdraws c after k r) t.outcome.1 v) in
      let at : get_or all (length os) no_offer ≡ at_first = get_or_push os at_first no_offer (length os) refl in
      let here : refusal r ≡ None = (w.refused.1 (λ h. omega (arith, length_push os at_first))).1 (λ h. omega (arith, ap (λ o. o.limit) at)) in
      let zero : 0 ≡ limit = omega arith in
      (accepted _ _ r here w.outcome).2
      ∙ ap (λ o. with_offers b (set all (length os) (withdrawn o))) at
      ∙ ap (with_offers b) (set_at os at_first [] (withdrawn at_first) (length os) refl)
      ∙ ap (λ n. with_offers b (os ++ made member n give get ∷ [])) zero
