use Rattle.round.proofs.Built.{each_built, rounds_built}
use Rattle.round.proofs.theorems.rounds_stand.Goals as goal

pub returns : goal.returns
returns c = record { books = each_built; rounds = rounds_built }
