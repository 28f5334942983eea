-- What a round shows of itself.
use Rattle.std.specs.Prelude.{◌≡◌, ℕ, ◌<◌, ◌≤◌, length, Option, MatchOption, slice_index_or}
use Rattle.book.specs.Books.{Book, Offer, no_offer}
use Rattle.round.specs.declared.offer_view.OfferView.{OfferView}

-- the offer that is seen
abbrev pub seen : OfferView → Offer
seen v = record { member = v.member; limit = v.limit; give = v.give.now; get = v.get.now }

-- offer k of a book, or nothing where there is none
abbrev pub ShowsOffer : Book → ℕ → Option OfferView → Type 0
ShowsOffer b k r = MatchOption r (length b.offers ≤ k) (λ v. (k < length b.offers) × (seen v ≡ slice_index_or b.offers k no_offer))
