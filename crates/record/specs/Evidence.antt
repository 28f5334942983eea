-- Records that carry their own evidence: levels that show the allotment to be best.
use Rattle.std.specs.Prelude.{◌≡◌, ℕ, ◌≤◌, ◌⊎◌, List, map, ℤ, pos, ◌≤ℤ◌, ◌<ℤ◌, slice_index_or}
use Rattle.worth.specs.Money.{money, of_cents}
use Rattle.worth.specs.Weeks.{weeks, of_count}
use Rattle.worth.specs.Lexicographic.{pile}
use Rattle.worth.specs.declared.money.Money.{Money}
use Rattle.worth.specs.declared.weeks.Weeks.{Weeks}
use Rattle.worth.specs.declared.lexicographic.Lexicographic.{Lexicographic}
use Rattle.network.specs.Networks.{Net}
use Rattle.network.specs.Potentials.{Fitted}
use Rattle.book.specs.Allotments.{Allotment, Allowed, payoffs, weeks_got}
use Rattle.book.specs.Arcs.{filled}
use Rattle.book.specs.Books.{Book, Sound}
use Rattle.layout.specs.Records.{Kind, by_money, by_money_then_weeks, Contents, book_of, allotted, contents_of}
use Rattle.layout.specs.Render.{render}
use Rattle.layout.specs.Runs.{Reads}

-- the worth that a level's numbers stand for
abbrev pub amount : List ℤ → Money
amount zs = of_cents (slice_index_or zs 0 (pos 0))

abbrev pub amount_and_weeks : List ℤ → Lexicographic Money Weeks
amount_and_weeks zs = record { first = of_cents (slice_index_or zs 0 (pos 0)); second = of_count (slice_index_or zs 1 (pos 0)) }

-- by the kind the levels, one for each node, fit the network
abbrev pub LevelsFit : Kind → Net → List (List ℤ) → Type 0
LevelsFit by_money n zs = Fitted money n (map amount zs)
LevelsFit by_money_then_weeks n zs = Fitted (pile money weeks) n (map amount_and_weeks zs)

-- by the kind an allotment c of the round is worth at most as much as a: the payoffs of its offers sum to at most as much; by money then
-- weeks they sum to less, or to the same and no more weeks are got
abbrev pub AtMost : Kind → Book → Allotment → Allotment → Type 0
AtMost by_money b c a = payoffs b.offers c ≤ℤ payoffs b.offers a
AtMost by_money_then_weeks b c a = (payoffs b.offers c <ℤ payoffs b.offers a) ⊎ ((payoffs b.offers c ≡ payoffs b.offers a) × (weeks_got b.offers c ≤ weeks_got b.offers a))

-- by the kind every allowed allotment is worth at most as much
abbrev pub BestBy : Kind → Book → Allotment → Type 0
BestBy k b a = (c : Allotment) → Allowed b c → AtMost k b c a

-- the network of the record's round, with the flows that its units fill in
abbrev pub network_of : Contents → Net
network_of x = filled (book_of x) (allotted x)

-- the text passes: it reads as these contents, whose allotment is allowed and whose levels fit
pub record Passes (text : List ℕ) (x : Contents) : Type 0 where
  pub reads : Reads text x
  pub allowed : Allowed (book_of x) (allotted x)
  pub fits : LevelsFit x.kind (network_of x) x.levels

-- a text that passes, whoever filled it, holds an allowed allotment, and by its kind every allowed one of its round is worth at most as much
abbrev pub SoundEvidence : Type 0
SoundEvidence = (text : List ℕ) (x : Contents) → Passes text x → Allowed (book_of x) (allotted x) × BestBy x.kind (book_of x) (allotted x)

-- each allowed allotment of any round that is best by the kind has levels with which its record passes
abbrev pub EvidenceExists : Type 0
EvidenceExists = (k : Kind) (b : Book) (a : Allotment) → Sound b → Allowed b a → BestBy k b a → (zs : List (List ℤ)) × Passes (render (contents_of k b a zs)) (contents_of k b a zs)

-- the law of evidence
abbrev pub Evidence : Type 0
Evidence = SoundEvidence × EvidenceExists
