use Rattle.std.proofs.Common.{refl}
use Rattle.flow.specs.Groups.{kind}
use Rattle.flow.specs.declared.step.Step.TheVariants.{Forward}
use Rattle.search.proofs.Pushing.{rise_fits, pushing_first, next_takes, next_known, arc_again, pushing_next, pushing_full, pushing_all}
use Rattle.search.proofs.shift.shift.Goals as goal

pub loop-step-init : goal.loop-step-init
loop-step-init g c = (
  pushing_first (kind g.N.W.Worth.ops g.met.N.W.Worth.lawful) (g.N.Network.net c.args.net.now) (g.met.N.Network.sound c.args.net.now) c.args.steps.now c.requires.measured,
  c.requires.read,
  g.met.N.Improvable.itself c.args.net.now,
)

pub push_step-requires : goal.push_step-requires
push_step-requires g c = next_takes (kind g.N.W.Worth.ops g.met.N.W.Worth.lawful) (g.N.Network.net c.args.net.now) (g.met.N.Network.sound c.args.net.now) c.args.steps.now c.requires.measured c.loop-step-test.true (Forward 0) c.loop-step.invariant.0

pub read_arc-requires-clause-known : goal.read_arc-requires-clause-known
read_arc-requires-clause-known g c = next_known (kind g.N.W.Worth.ops g.met.N.W.Worth.lawful) (g.N.Network.net c.args.net.now) (g.met.N.Network.sound c.args.net.now) c.args.steps.now c.requires.measured c.loop-step-test.true (Forward 0) c.loop-step.invariant.0 c.arc_of.ensures c.loop-step.invariant.1

pub loop-step-preserved : goal.loop-step-preserved
loop-step-preserved g c = (
  pushing_next (kind g.N.W.Worth.ops g.met.N.W.Worth.lawful) (g.N.Network.net c.args.net.now) (g.met.N.Network.sound c.args.net.now) c.args.steps.now c.requires.measured c.loop-step-test.true (Forward 0) c.loop-step.invariant.0 c.push_step.ensures.pushed refl,
  arc_again (g.N.Network.net c.loop-step.net) _ _ (next_takes (kind g.N.W.Worth.ops g.met.N.W.Worth.lawful) (g.N.Network.net c.args.net.now) (g.met.N.Network.sound c.args.net.now) c.args.steps.now c.requires.measured c.loop-step-test.true (Forward 0) c.loop-step.invariant.0) c.push_step.ensures.pushed c.loop-step.invariant.1 c.arc_of.ensures c.read_arc.ensures,
  g.met.N.Improvable.onward _ _ _ c.loop-step.invariant.2 c.push_step.ensures.kept,
)

pub times-requires : goal.times-requires
times-requires g c = rise_fits (kind g.N.W.Worth.ops g.met.N.W.Worth.lawful) (g.N.Network.net c.args.net.now) (g.met.N.Network.sound c.args.net.now) c.args.steps.now c.requires.measured

pub returns-clause-rises : goal.returns-clause-rises
returns-clause-rises g c = pushing_all (kind g.N.W.Worth.ops g.met.N.W.Worth.lawful) (g.N.Network.net c.args.net.now) (g.met.N.Network.sound c.args.net.now) c.args.steps.now c.requires.measured c.loop-step-test.false c.loop-step.invariant.0 c.times.ensures

pub returns-clause-full : goal.returns-clause-full
returns-clause-full g c = pushing_full (kind g.N.W.Worth.ops g.met.N.W.Worth.lawful) (g.N.Network.net c.args.net.now) (g.met.N.Network.sound c.args.net.now) c.args.steps.now c.requires.measured c.loop-step-test.false c.loop-step.invariant.0
