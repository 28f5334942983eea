use Rattle.flow.specs.Groups.{kind}
use Rattle.book.proofs.Best.{network_stands_for_lem}
use Rattle.book.proofs.agreement.network_stands_for.Goals as goal

pub returns : goal.returns
returns g c = network_stands_for_lem (kind g.W.Worth.ops g.met.W.Worth.lawful)
