use Rattle.search.proofs.Working.{none_yet}
use Rattle.search.proofs.sweep.no_links.Goals as goal

pub returns-clause-unlinked : goal.returns-clause-unlinked
returns-clause-unlinked c = none_yet 272
