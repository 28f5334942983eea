-- What units and payoff answer.
use Rattle.std.specs.Prelude.{◌≡◌, ℕ, ◌<◌, ◌≤◌, ◌⊎◌, List, [], ◌∷◌, length, get_or, ℤ, IfOk, Result}
use Rattle.tables.specs.Refusals.{when, First, refusal}
use Rattle.tables.specs.declared.refusal.Refusal.{Refusal}
use Rattle.flow.specs.declared.arc.Arc.{Arc}
use Rattle.flow.specs.Arcs.{flow_of}
use Rattle.book.specs.Books.{Book, Offer, offer_at}
use Rattle.book.specs.Allotments.{Units, Allotment, payoff, weeks_of}
use Rattle.book.specs.declared.line.Line.{Line}
use Rattle.book.specs.declared.side.Side.{Side}
use Rattle.book.specs.declared.side.Side.TheVariants.{Give, Get}

-- the lines of a side
abbrev pub lines_on : Side → Offer → List Line
lines_on Give o = o.give
lines_on Get o = o.get

-- the units on its lines
abbrev pub units_on : Side → Units → ℕ → ℕ
units_on Give u = u.give
units_on Get u = u.get

-- the units on line t of a side of offer k
pub record AnswersUnits (b : Book) (a : Allotment) (k : ℕ) (s : Side) (t : ℕ) (r : Result ℕ Refusal) : Type 0 where
  pub refused : First (when 1 ((length b.offers ≤ k) ⊎ (length (lines_on s (offer_at b k)) ≤ t)) ∷ []) (refusal r)
  pub answer : IfOk r (λ units. units ≡ units_on s (a k) t)

-- what offer k pays, and the weeks that it gets
pub record AnswersPayoff (b : Book) (a : Allotment) (k : ℕ) (r : Result (ℤ × ℕ) Refusal) : Type 0 where
  pub refused : First (when 1 (length b.offers ≤ k) ∷ []) (refusal r)
  pub answer : IfOk r (λ p. (p.0 ≡ payoff (offer_at b k) (a k)) × (p.1 ≡ weeks_of (offer_at b k) (a k)))

-- lines and their arcs, few and small enough to be summed
pub record Moderate (ls : List Line) (arcs : List Arc) : Type 0 where
  pub long : length arcs ≡ length ls
  pub few : length ls ≤ 256
  pub small : (t : ℕ) (d : Line) → t < length ls → ((get_or ls t d).price ≤ 1000000) × (flow_of arcs t ≤ 1000)

-- the lines of a side of offer k, and arcs that carry the units on them
pub record Sided (b : Book) (a : Allotment) (k : ℕ) (s : Side) (ls : List Line) (arcs : List Arc) : Type 0 where
  pub known : k < length b.offers
  pub lines : ls ≡ lines_on s (offer_at b k)
  pub units : (t : ℕ) → t < length ls → flow_of arcs t ≡ units_on s (a k) t
  pub moderate : Moderate ls arcs
