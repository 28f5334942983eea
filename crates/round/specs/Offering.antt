-- What offer and withdraw do.
use Rattle.std.specs.Prelude.{◌≡◌, ℕ, ◌+◌, ◌<◌, ◌≤◌, ◌⊎◌, List, [], ◌∷◌, ◌++◌, map, length, get_or, Result, MatchResult, slice_index_or, slice_set}
use Rattle.tables.specs.Refusals.{Row, when, First, refusal}
use Rattle.tables.specs.declared.refusal.Refusal.{Refusal}
use Rattle.book.specs.Books.{Book, Offer, Twice, Loop, item_of, line_count, no_offer}
use Rattle.book.specs.declared.line.Line.{Line}
use Rattle.terms.specs.Lines.{EitherSide, Out}
use Rattle.round.specs.Rounds.{with_offers}

-- an offer as it is made
abbrev pub made : ℕ → ℕ → List Line → List Line → Offer
made member limit give get = record { member = member; limit = limit; give = give; get = get }

-- no such member, or some line has no such item
abbrev pub NamesUnknown : Book → Offer → Type 0
NamesUnknown b o = (length b.members ≤ o.member) ⊎ EitherSide (λ l. length b.items ≤ l.item) o.give o.get

-- there would be more than 64 offers, or more than 256 lines
abbrev pub Overfull : List Offer → List Line → List Line → Type 0
Overfull os give get = (64 ≤ length os) ⊎ (256 < line_count os + (length give + length get))

-- when an offer is refused
abbrev pub offering : Book → Offer → List Row
offering b o =
    when 1 (NamesUnknown b o)
    ∷ when 2 (Overfull b.offers o.give o.get)
    ∷ when 3 (Out o.limit ⊎ EitherSide (λ l. Out l.limit) o.give o.get)
    ∷ when 4 (EitherSide (λ l. 1000000 < l.price) o.give o.get)
    ∷ when 6 (Twice (map item_of o.give) ⊎ Twice (map item_of o.get))
    ∷ when 7 ((length o.give ≡ 0) ⊎ (length o.get ≡ 0))
    ∷ when 8 (Loop o.give o.get)
    ∷ []

-- the offer comes to the end, and its number is answered; or nothing changes
pub record TakesOffer (before after : Book) (o : Offer) (r : Result ℕ Refusal) : Type 0 where
  pub refused : First (offering before o) (refusal r)
  pub outcome : MatchResult r (λ k. (k ≡ length before.offers) × (after ≡ with_offers before (before.offers ++ o ∷ []))) (λ _. after ≡ before)

-- an offer with its limit set to 0
abbrev pub withdrawn : Offer → Offer
withdrawn o = record { member = o.member; limit = 0; give = o.give; get = o.get }

-- offer k withdrawn and no other touched; or nothing changes
pub record Withdraws (before after : Book) (k : ℕ) (r : Result (Unit {0}) Refusal) : Type 0 where
  pub refused : First (when 1 (length before.offers ≤ k) ∷ when 9 ((get_or before.offers k no_offer).limit ≡ 0) ∷ []) (refusal r)
  pub outcome : MatchResult r (λ _. after ≡ with_offers before (slice_set before.offers k (withdrawn (slice_index_or before.offers k no_offer)))) (λ _. after ≡ before)
