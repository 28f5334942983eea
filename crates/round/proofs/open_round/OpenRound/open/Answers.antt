use Rattle.round.proofs.Standing.{round_law}
use Rattle.round.proofs.open_round.OpenRound.open.Goals as goal

pub returns-clause-law : goal.returns-clause-law
returns-clause-law c = round_law
