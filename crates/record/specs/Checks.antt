-- What check answers.
use Rattle.std.specs.Prelude.{◌≡◌, ℕ, ◌⊎◌, List, [], ◌∷◌, pos, IfOk, Some, Result, MatchResult}
use Rattle.tables.specs.Refusals.{Row, when, First, number, refusal}
use Rattle.tables.specs.declared.refusal.Refusal.{Refusal}
use Rattle.text.specs.declared.fault.Fault.{Fault}
use Rattle.worth.specs.Kinds.{Ops}
use Rattle.worth.specs.Money.{of_cents}
use Rattle.worth.specs.Weeks.{of_count}
use Rattle.worth.specs.Lexicographic.{pair}
use Rattle.network.specs.Networks.{value}
use Rattle.book.specs.Allotments.{Units, Allotment, Allowed, payoff, payoffs, weeks_of, weeks_got}
use Rattle.book.specs.Books.{Book, Offer}
use Rattle.book.specs.Rows.{map_with}
use Rattle.layout.specs.Records.{Kind, by_money, by_money_then_weeks, Contents, book_of, allotted}
use Rattle.layout.specs.Runs.{Reads, Refused}
use Rattle.record.specs.Evidence.{network_of, LevelsFit, Passes}
use Rattle.record.specs.declared.passed.Passed.{Passed}
use Rattle.record.specs.declared.passed.OfferResult.{OfferResult}
use Rattle.record.specs.declared.passed.Total.{Total}
use Rattle.record.specs.declared.passed.Total.TheVariants.{Money, MoneyThenWeeks}

-- the worth of an allotment by the kind: the sum of the payoffs of its offers, and by money then weeks the weeks got besides
abbrev pub total_by : Kind → Book → Allotment → Total
total_by by_money b a = Money (of_cents (payoffs b.offers a))
total_by by_money_then_weeks b a = MoneyThenWeeks (pair (of_cents (payoffs b.offers a)) (of_count (pos (weeks_got b.offers a))))

-- an offer's payoff and its weeks got
abbrev pub result_of : Offer → Units → OfferResult
result_of o u = record { payoff = payoff o u; weeks = weeks_of o u }

-- of a record that passes: its worth, and each offer's payoff and weeks got
pub record Answered (x : Contents) (p : Passed) : Type 0 where
  pub worth : p.worth ≡ total_by x.kind (book_of x) (allotted x)
  pub offers : p.offers ≡ map_with result_of (book_of x).offers (allotted x)

-- when contents fail that were read: their allotment breaks a rule (15), or else their levels do not fit (11)
abbrev pub failing : Contents → List Row
failing x = when 15 (Allowed (book_of x) (allotted x) → ⊥) ∷ when 11 (LevelsFit x.kind (network_of x) x.levels → ⊥) ∷ []

-- contents whose allotment is allowed and whose levels fit, with the worth by a kind, as a total, and what each offer comes to
pub record Shown {W : Type 0} (o : Ops W) (converts : W → Total → Type 0) (x : Contents) (p : Passed) : Type 0 where
  pub allowed : Allowed (book_of x) (allotted x)
  pub fits : LevelsFit x.kind (network_of x) x.levels
  pub worth_is : converts (value o (network_of x)) p.worth
  pub results_are : p.offers ≡ map_with result_of (book_of x).offers (allotted x)

-- the contents tested by a kind: that, or why they fail
pub record Tested {W : Type 0} (o : Ops W) (converts : W → Total → Type 0) (x : Contents) (r : Result Passed Refusal) : Type 0 where
  pub refused : First (failing x) (refusal r)
  pub outcome : IfOk r (λ p. Shown o converts x p)

-- the text reads, but fails; no line is to blame
pub record Fails (text : List ℕ) (f : Fault) : Type 0 where
  pub contents : Contents
  pub reads : Reads text contents
  pub first : First (failing contents) (Some (number f.refusal))
  pub line : f.line ≡ 0

-- the text passes, or it is refused in reading, or it fails
abbrev pub Checks : List ℕ → Result Passed Fault → Type 0
Checks text r = MatchResult r (λ p. (x : Contents) × Passes text x × Answered x p) (λ f. Refused text (number f.refusal) f.line ⊎ Fails text f)
