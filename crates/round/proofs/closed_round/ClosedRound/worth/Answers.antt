use Rattle.round.proofs.Standing.{law_holds}
use Rattle.round.proofs.closed_round.ClosedRound.worth.Goals as goal

pub returns-clause-law : goal.returns-clause-law
returns-clause-law g c = law_holds g.met.W.Worth.lawful
