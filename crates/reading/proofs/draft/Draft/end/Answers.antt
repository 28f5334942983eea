use Rattle.reading.specs.Drafts.{so_far}
use Rattle.reading.proofs.Gains.{at_end}
use Rattle.reading.proofs.draft.Draft.end.Goals as goal

pub returns : goal.returns
returns c = at_end c.args.self.now.reader c.end.result c.end.ensures (so_far c.args.self.now)
