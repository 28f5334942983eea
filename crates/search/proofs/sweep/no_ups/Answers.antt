use lib.ListN.{get_or-replicate}
use Rattle.search.proofs.sweep.no_ups.Goals as goal

pub returns-clause-none : goal.returns-clause-none
returns-clause-none c v l = get_or-replicate 272 v 272 0 l
