-- How the tables of a round stand for its book.
use Rattle.std.specs.Prelude.{◌≡◌, ℕ, ◌+◌, ◌<◌, ◌≤◌, Bool, ◌&&◌, List, [], ◌∷◌, map, length, take, drop, ◌==◌, slice_index_or}
use Rattle.tables.specs.declared.table.Table.{Table}
use Rattle.book.specs.Books.{Book, Offer, no_offer}
use Rattle.book.specs.Arcs.{arcs_of, give_at}
use Rattle.book.specs.declared.line.Line.{Line}
use Rattle.book.specs.declared.holding.Holding.{Holding}
use Rattle.terms.specs.declared.name.Name.{Name}
use Rattle.round.specs.declared.entry.Entry.{Entry}

-- the offer that an entry stands for, over the lines
abbrev pub offer_of : List Line → Entry → Offer
offer_of ls e = record { member = e.member; limit = e.limit; give = take e.gives (drop e.first ls); get = take e.gets (drop (e.first + e.gives) ls) }

-- the book that the five tables stand for
abbrev pub book_of : Table Name 16 → Table Name 32 → Table Holding 128 → Table Entry 64 → Table Line 256 → Book
book_of items members holdings offers lines = record { items = items; members = members; holdings = holdings; offers = map (offer_of lines) offers }

-- the lines of the entries stand one behind the other from n on, and end at m
abbrev pub in_rows : ℕ → List Entry → ℕ → Bool
in_rows n [] m = n == m
in_rows n (e ∷ es) m = e.first == n && in_rows (n + (e.gives + e.gets)) es m

-- e is the entry of offer k of a book with these lines, its lines are among them, and its arcs come after those of the holdings and of the
-- entries before it
pub record Entered (b : Book) (ls : List Line) (k : ℕ) (e : Entry) : Type 0 where
  pub known : k < length b.offers
  pub is : slice_index_or b.offers k no_offer ≡ offer_of ls e
  pub within : e.first + (e.gives + e.gets) ≤ length ls
  pub starts : give_at b k 0 ≡ length b.holdings + (e.first + k)
  pub ends : length b.holdings + (e.first + k) + (e.gives + e.gets) < length (arcs_of b)
