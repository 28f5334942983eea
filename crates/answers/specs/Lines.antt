-- The lines that the programs print.
use Rattle.std.specs.Prelude.{ℕ, ◌+◌, List, [], ◌∷◌, ◌++◌, Ok, Err, codes, decimal, Result}
use Rattle.std.specs.Fmt.{signed_decimal}
use Rattle.tables.specs.Refusals.{number}
use Rattle.text.specs.declared.fault.Fault.{Fault}
use Rattle.record.specs.declared.passed.OfferResult.{OfferResult}
use Rattle.record.specs.declared.passed.Passed.{Passed}
use Rattle.record.specs.declared.passed.Total.{Total}
use Rattle.record.specs.declared.passed.Total.TheVariants as totals
use Rattle.answers.specs.declared.line.Line.{Line}
use Rattle.answers.specs.declared.line.Line.TheVariants.{Passed as Passes, Money, Weeks, Offer, Refused}

-- the text of a line, without the byte 10 that ends it
abbrev pub spelled : Line → List ℕ
spelled Passes = codes "passed"
spelled (Money cents) = codes "money " ++ signed_decimal cents
spelled (Weeks count) = codes "weeks " ++ signed_decimal count
spelled (Offer k payoff count) = codes "offer " ++ (decimal k ++ (codes " " ++ (signed_decimal payoff ++ (codes " " ++ decimal count))))
spelled (Refused f) = codes "refused " ++ (decimal (number f.refusal) ++ (codes " " ++ decimal f.line))

-- the text of lines
abbrev pub printed : List Line → List ℕ
printed [] = []
printed (l ∷ ls) = spelled l ++ (10 ∷ printed ls)

-- a line for each part of a worth
abbrev pub worth_lines : Total → List Line
worth_lines (totals.Money w) = Money w.cents ∷ []
worth_lines (totals.MoneyThenWeeks w) = Money w.first.cents ∷ Weeks w.second.count ∷ []

-- a line for each offer, the first of which has number k
abbrev pub offer_lines : ℕ → List OfferResult → List Line
offer_lines k [] = []
offer_lines k (o ∷ os) = Offer k o.payoff o.weeks ∷ offer_lines (k + 1) os

-- the lines of what check answers
abbrev pub lines_of : Result Passed Fault → List Line
lines_of (Ok p) = Passes ∷ (worth_lines p.worth ++ offer_lines 0 p.offers)
lines_of (Err f) = Refused f ∷ []
