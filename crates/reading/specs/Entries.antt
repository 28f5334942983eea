-- The entries that a record lists, sort by sort.
use Rattle.std.specs.Prelude.{◌≡◌, ℕ, ◌≤◌, ◌⊎◌, [], length, IfOk, Some, None, Result, MatchResult}
use Rattle.tables.specs.Refusals.{number, First}
use Rattle.tables.specs.declared.refusal.Refusal.{Refusal}
use Rattle.tables.specs.declared.refusal.Refusal.TheVariants.{Layout}
use Rattle.text.specs.declared.section.Section.{Section}
use Rattle.text.specs.declared.section.Section.TheVariants.{Items, Members, Holdings, Offers, Levels}
use Rattle.book.specs.Arcs.{nodes as node_count}
use Rattle.layout.specs.Layout.{Slot, head, item, member, holding, offer, level, Counts, rules, with_offers}
use Rattle.layout.specs.Records.{Contents, book_of}
use Rattle.reading.specs.Levels.{with_levels}
use Rattle.reading.specs.declared.entry.Entry.{Entry}
use Rattle.reading.specs.declared.entry.Entry.TheVariants.{Item, Member, Holding, Offer, Level}

-- the section that lists them
abbrev pub section_of : Entry → Section
section_of Item = Items
section_of Member = Members
section_of Holding = Holdings
section_of Offer = Offers
section_of Level = Levels

-- the line that each is, or begins with
abbrev pub slot_of : Entry → Slot
slot_of Item = item
slot_of Member = member
slot_of Holding = holding
slot_of Offer = offer
slot_of Level = level

-- how many a record may hold: of levels as many as there may be nodes
abbrev pub most_of : Entry → ℕ
most_of Item = 16
most_of Member = 32
most_of Holding = 128
most_of Offer = 64
most_of Level = 272

-- how many these contents have
abbrev pub many : Entry → Contents → ℕ
many Item x = length x.items
many Member x = length x.members
many Holding x = length x.holdings
many Offer x = length x.offers
many Level x = length x.levels

-- the contents without them
abbrev pub without : Entry → Contents → Contents
without Item x = record { kind = x.kind; items = []; members = x.members; holdings = x.holdings; offers = x.offers; levels = x.levels }
without Member x = record { kind = x.kind; items = x.items; members = []; holdings = x.holdings; offers = x.offers; levels = x.levels }
without Holding x = record { kind = x.kind; items = x.items; members = x.members; holdings = []; offers = x.offers; levels = x.levels }
without Offer x = with_offers x []
without Level x = with_levels x []

-- a count that the head of the section may have in a record of so many nodes, and that is not too large
pub record FairCount (e : Entry) (nodes n : ℕ) : Type 0 where
  pub allowed : (x : Contents) → node_count (book_of x) ≡ nodes → Counts (section_of e) x n
  pub few : n ≤ most_of e

-- the count itself where it is fair; or the layout does not allow it, or it is too large
pub record CountTested (e : Entry) (nodes n : ℕ) (r : Result ℕ Refusal) : Type 0 where
  pub few : IfOk r (λ m. m ≤ most_of e)
  pub outcome : (x : Contents) → node_count (book_of x) ≡ nodes → MatchResult r (λ m. (m ≡ n) × Counts (section_of e) x n × First (rules (head (section_of e)) x n) None) (λ d. ((d ≡ Layout) × (Counts (section_of e) x n → ⊥)) ⊎ (Counts (section_of e) x n × First (rules (head (section_of e)) x n) (Some (number d))))
