-- The numbers that a level is written with.
use Rattle.std.specs.Prelude.{◌≡◌, ◌<◌, ◌≤◌, List, [], ◌∷◌, ℤ, pos, Result, MatchResult}
use Rattle.tables.specs.declared.refusal.Refusal.{Refusal}
use Rattle.tables.specs.declared.refusal.Refusal.TheVariants.{Bounds}
use Rattle.layout.specs.Records.{Kind, by_money, by_money_then_weeks, Contents, level_size}
use Rattle.reading.specs.declared.level.Level.{Level}

-- one for each part of the kind
abbrev pub numbers : Kind → Level → List ℤ
numbers by_money l = l.cents ∷ []
numbers by_money_then_weeks l = l.cents ∷ l.weeks ∷ []

-- a level of a kind without weeks has none
abbrev pub Flat : Kind → Level → Type 0
Flat k l = k ≡ by_money → l.weeks ≡ pos 0

-- the contents with these levels
abbrev pub with_levels : Contents → List (List ℤ) → Contents
with_levels x zs = record { kind = x.kind; items = x.items; members = x.members; holdings = x.holdings; offers = x.offers; levels = zs }

-- the level itself where its size is at most 1,000,000, and out of bounds where it is larger
abbrev pub LevelTested : Kind → Level → Result Level Refusal → Type 0
LevelTested k l r = MatchResult r (λ m. (m ≡ l) × (level_size (numbers k l) ≤ 1000000)) (λ e. (e ≡ Bounds) × (1000000 < level_size (numbers k l)))
