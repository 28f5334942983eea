-- The offers of a record as they are gone through, with the units on their lines.
use Rattle.std.specs.Prelude.{ℕ, List, map, drop, ◌==◌, slice_index}
use Rattle.flow.specs.Graphs.{when}
use Rattle.book.specs.Allotments.{of_item}
use Rattle.book.specs.declared.holding.Holding.{Holding}
use Rattle.layout.specs.Records.{OfferWithUnits, line_of, units_on, fill_offer}
use Rattle.reading.specs.Contents.{contents}
use Rattle.round.specs.Views.{seen}
use Rattle.record.specs.declared.record_network.filled.FilledOffer.{FilledOffer}
use Rattle.record.specs.declared.record_network.filled.FilledOffers.{FilledOffers}

-- the offer that is shown, with its units
abbrev pub filled : FilledOffer → OfferWithUnits
filled v = fill_offer (seen v.offer) (record { give = λ t. slice_index v.given.now t; get = λ t. slice_index v.got.now t })

-- the offers that are still to come
abbrev pub left : FilledOffers → List OfferWithUnits
left s = drop s.next (contents s.read.now).offers

-- the units that an offer gives from a holding
abbrev pub given_in : Holding → OfferWithUnits → ℕ
given_in h o = when (o.member == h.member) (of_item h.item (map line_of o.give) (units_on o.give))
