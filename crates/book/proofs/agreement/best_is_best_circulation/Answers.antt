use Rattle.flow.specs.Groups.{kind}
use Rattle.book.proofs.Best.{best_is_best_circulation_lem, best_has_potentials}
use Rattle.book.proofs.agreement.best_is_best_circulation.Goals as goal

pub returns : goal.returns
returns g c =
    let k = kind g.W.Worth.ops g.met.W.Worth.lawful in
    record { best_is_best_circulation = best_is_best_circulation_lem k; potentials = best_has_potentials k }
