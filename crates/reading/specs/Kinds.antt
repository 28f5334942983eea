-- The kind of a record, read by the number of its parts.
use Rattle.std.specs.Prelude.{◌≡◌, ℕ, ◌≢◌, Result, MatchResult}
use Rattle.tables.specs.declared.refusal.Refusal.{Refusal}
use Rattle.tables.specs.declared.refusal.Refusal.TheVariants.{Layout}
use Rattle.layout.specs.Records.{Kind, by_money, by_money_then_weeks, Contents, parts}
use Rattle.reading.specs.declared.kind.Kind.{Kind as Told}
use Rattle.reading.specs.declared.kind.Kind.TheVariants.{Money, MoneyThenWeeks}

-- the kind as the layout has it
abbrev pub kind : Told → Kind
kind Money = by_money
kind MoneyThenWeeks = by_money_then_weeks

-- the kind with so many parts; or no kind has so many, and the text departs from the layout
abbrev pub WithParts : ℕ → Result Told Refusal → Type 0
WithParts n r = MatchResult r (λ k. parts (kind k) ≡ n) (λ e. (e ≡ Layout) × ((k : Told) → parts (kind k) ≢ n))

-- the contents with this kind
abbrev pub of_kind : Told → Contents → Contents
of_kind k x = record { kind = kind k; items = x.items; members = x.members; holdings = x.holdings; offers = x.offers; levels = x.levels }
