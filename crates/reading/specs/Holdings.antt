-- What a first holding of a member and an item does to a round.
use Rattle.std.specs.Prelude.{◌≡◌, ◌<◌, List, [], ◌∷◌, ◌++◌, map, Result, MatchResult}
use Rattle.std.specs.List.{ContainsAt as Has}
use Rattle.tables.specs.Refusals.{Row, when, First, refusal}
use Rattle.tables.specs.declared.refusal.Refusal.{Refusal}
use Rattle.book.specs.Books.{Book, pair}
use Rattle.book.specs.declared.holding.Holding.{Holding}
use Rattle.round.specs.Holdings.{Strange}
use Rattle.round.specs.Rounds.{with_holdings}

-- the rules that a first holding may break
abbrev pub holding_rules : Book → Holding → List Row
holding_rules b h = when 1 (Strange b h.member h.item) ∷ when 3 (1000 < h.units) ∷ when 6 (Has (map pair b.holdings) (pair h)) ∷ []

-- the holding comes to the end of those of the book, where it is the first for its member and item; or it is refused, and then nothing changes
pub record HoldsFirst (before after : Book) (h : Holding) (r : Result (Unit {0}) Refusal) : Type 0 where
  pub refused : First (holding_rules before h) (refusal r)
  pub outcome : MatchResult r (λ _. after ≡ with_holdings before (before.holdings ++ h ∷ [])) (λ _. after ≡ before)
