use Rattle.flow.specs.Groups.{kind}
use Rattle.flow.proofs.Shift.{shifting_holds}
use Rattle.flow.proofs.optimality.shift_is_sound.Goals as goal

pub returns : goal.returns
returns g c = shifting_holds (kind g.W.Worth.ops g.met.W.Worth.lawful)
