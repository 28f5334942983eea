use Rattle.std.proofs.Common.{◌<◌, length, refl, ◌∙◌, ap, arith}
use Rattle.std.proofs.lemmas.List.{length-set, take_more_set}
use Rattle.flow.specs.Groups.{kind}
use Rattle.search.specs.Ascents.{steps_left}
use Rattle.search.proofs.Measuring.{measuring_first, measuring_fits, measuring_room, measuring_next, measuring_put, measuring_all}
use Rattle.search.proofs.cycle.Cycle.measure.Goals as goal

pub loop-step-init : goal.loop-step-init
loop-step-init g c = (measuring_first (kind g.W.Worth.ops g.met.W.Worth.lawful) c.args.self c.requires.closes (ap steps_left c.into_iter-step-iterator.ensures.into_iter_gives ∙ c.steps-step-items.ensures) c.none-gain.ensures, omega arith)

pub bounds-steps-count : goal.bounds-steps-count
bounds-steps-count g c = measuring_room (kind g.W.Worth.ops g.met.W.Worth.lawful) c.args.self c.in-Some.ensures.steps c.loop-step.invariant.0 c.loop-step.count c.loop-step.steps refl c.loop-step.invariant.1 (let e = c.loop-step.auto.steps in let h = c.requires.long in omega arith)

pub plus-gain-requires : goal.plus-gain-requires
plus-gain-requires g c = measuring_fits (kind g.W.Worth.ops g.met.W.Worth.lawful) c.args.self c.in-Some.ensures.steps c.loop-step.invariant.0 c.gain.ensures

pub loop-step-preserved : goal.loop-step-preserved
loop-step-preserved g c =
    let room : c.loop-step.count < length c.loop-step.steps = measuring_room (kind g.W.Worth.ops g.met.W.Worth.lawful) c.args.self c.in-Some.ensures.steps c.loop-step.invariant.0 c.loop-step.count c.loop-step.steps refl c.loop-step.invariant.1 (let e = c.loop-step.auto.steps in let h = c.requires.long in omega arith) in (
      measuring_next (kind g.W.Worth.ops g.met.W.Worth.lawful) c.args.self c.in-Some.ensures.steps c.loop-step.invariant.0 (take_more_set c.loop-step.steps c.loop-step.count c.in-Some.step room) c.gain.ensures c.room.ensures c.min-amount.ensures c.plus-gain.ensures,
      (let e = length-set c.loop-step.steps c.loop-step.count c.in-Some.step in omega arith),
    )

pub returns-clause-steps : goal.returns-clause-steps
returns-clause-steps g c = measuring_put (kind g.W.Worth.ops g.met.W.Worth.lawful) c.args.self c.requires.closes c.in-None.ensures.steps.0 c.loop-step.invariant.0

pub returns-clause-measured : goal.returns-clause-measured
returns-clause-measured g c = measuring_all (kind g.W.Worth.ops g.met.W.Worth.lawful) c.args.self c.requires.closes c.in-None.ensures.steps.0 c.loop-step.invariant.0
