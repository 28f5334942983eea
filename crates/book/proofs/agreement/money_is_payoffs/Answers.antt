use Rattle.book.proofs.Worths.{money_is_payoffs_lem, money_then_weeks}
use Rattle.book.proofs.agreement.money_is_payoffs.Goals as goal

pub returns : goal.returns
returns c = record { money_is_payoffs = money_is_payoffs_lem; weeks = money_then_weeks }
