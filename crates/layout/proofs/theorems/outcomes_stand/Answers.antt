use Rattle.layout.proofs.Earliest.{cut_before_fault, earliest_decides}
use Rattle.layout.proofs.Once.{one_outcome}
use Rattle.layout.proofs.Outcomes.{some_outcome}
use Rattle.layout.proofs.theorems.outcomes_stand.Goals as goal

pub returns : goal.returns
returns c = record { some = some_outcome; one = one_outcome; earliest = earliest_decides; cut = cut_before_fault }
