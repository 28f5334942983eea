use Rattle.flow.specs.Groups.{kind}
use Rattle.flow.proofs.Enough.{sufficient_holds}
use Rattle.flow.proofs.optimality.potentials_suffice.Goals as goal

pub returns : goal.returns
returns g c = sufficient_holds (kind g.W.Worth.ops g.met.W.Worth.lawful)
