-- What a record holds that was read, with the units of its lines in one row.
use Rattle.std.specs.Prelude.{ℕ, ◌+◌, List, [], ◌∷◌, ◌++◌, map, length, drop, slice_index}
use Rattle.book.specs.Books.{Book, Offer}
use Rattle.layout.specs.Records.{OfferWithUnits, Contents, units_of, fill_offer}
use Rattle.reading.specs.Kinds.{kind as kind_as}
use Rattle.reading.specs.Levels.{numbers}
use Rattle.reading.specs.declared.kind.Kind.{Kind}
use Rattle.reading.specs.declared.level.Level.{Level}

-- the units on the lines of offers, one after the other
abbrev pub units_in : List OfferWithUnits → List ℕ
units_in [] = []
units_in (o ∷ os) = map units_of o.give ++ (map units_of o.get ++ units_in os)

-- an offer with the first of these units on its lines
abbrev pub filled_offer : Offer → List ℕ → OfferWithUnits
filled_offer o us = fill_offer o (record { give = λ t. slice_index us t; get = λ t. slice_index us (length o.give + t) })

-- offers with these units on their lines, one after the other
abbrev pub filled_offers : List Offer → List ℕ → List OfferWithUnits
filled_offers [] us = []
filled_offers (o ∷ os) us = filled_offer o us ∷ filled_offers os (drop (length o.give + length o.get) us)

-- the contents with this kind, this book, these units and these levels
abbrev pub held : Kind → Book → List ℕ → List Level → Contents
held k b us ls = record { kind = kind_as k; items = b.items; members = b.members; holdings = b.holdings; offers = filled_offers b.offers us; levels = map (numbers (kind_as k)) ls }
