use Rattle.std.proofs.Common.{rules, ◌∙◌, ap}
use Rattle.flow.specs.Groups.{kind}
use Rattle.search.proofs.Idle.{best}
use Rattle.search.proofs.improve.improve_within.Goals as goal

pub returns-in_err-closing-clause-outcome : goal.returns-in_err-closing-clause-outcome
returns-in_err-closing-clause-outcome g c =
    let net = c.in_err-closing.ensures.same.net ∙ c.new-search.ensures.net in
    best (kind g.N.W.Worth.ops g.met.N.W.Worth.lawful) c.find_cycle.new.self c.in_err-closing.ensures.found (ap (λ r. r.nodes) net ∙ c.requires) (ap (λ r. r.arcs.now) net ∙ c.as_slice.ensures ∙ c.read_arcs.ensures) c.args.work.now c.requires _ (search rules) (search rules) c.from_residual.ensures
