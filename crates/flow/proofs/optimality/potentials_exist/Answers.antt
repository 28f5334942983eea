use Rattle.flow.specs.Groups.{kind}
use Rattle.flow.proofs.Optimum.{necessary_holds}
use Rattle.flow.proofs.optimality.potentials_exist.Goals as goal

pub returns : goal.returns
returns g c = necessary_holds (kind g.W.Worth.ops g.met.W.Worth.lawful)
