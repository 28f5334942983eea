-- The book of a round, and books that differ in one list.
use Rattle.std.specs.Prelude.{ℕ, List, [], ◌∷◌, codes}
use Rattle.book.specs.Books.{Book, Offer}
use Rattle.book.specs.declared.holding.Holding.{Holding}
use Rattle.round.specs.Kept.{book_of}
use Rattle.round.specs.declared.open_round.OpenRound.{OpenRound}

-- what an open round holds
abbrev pub book : OpenRound → Book
book r = book_of r.items r.members r.holdings r.offers r.lines

-- nothing but cash
abbrev pub fresh : Book
fresh = record { items = codes "cash" ∷ []; members = []; holdings = []; offers = [] }

-- the same book with these items
abbrev pub with_items : Book → List (List ℕ) → Book
with_items b xs = record { items = xs; members = b.members; holdings = b.holdings; offers = b.offers }

abbrev pub with_members : Book → List (List ℕ) → Book
with_members b xs = record { items = b.items; members = xs; holdings = b.holdings; offers = b.offers }

abbrev pub with_holdings : Book → List Holding → Book
with_holdings b hs = record { items = b.items; members = b.members; holdings = hs; offers = b.offers }

abbrev pub with_offers : Book → List Offer → Book
with_offers b os = record { items = b.items; members = b.members; holdings = b.holdings; offers = os }
