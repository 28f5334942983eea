use Rattle.std.proofs.Common.{◌∙◌}
use Rattle.network.proofs.Reading.{came, onward, sound_arc}
use Rattle.network.proofs.Worths.{can_add, added}
use Rattle.network.proofs.valuation.worth.Goals as goal

pub arc_worth-requires : goal.arc_worth-requires
arc_worth-requires g c =
    (_, sound_arc (g.met.N.Network.sound c.args.net.now) (came c.loop-arc.invariant.walk c.in-Some.ensures.steps))

pub plus-sum-requires : goal.plus-sum-requires
plus-sum-requires g c =
    can_add g.met.W.Worth.lawful (g.met.N.Network.sound c.args.net.now) (came c.loop-arc.invariant.walk c.in-Some.ensures.steps) c.loop-arc.invariant.so_far c.arc_worth.ensures

pub loop-arc-preserved : goal.loop-arc-preserved
loop-arc-preserved g c = record {
  walk = onward c.loop-arc.invariant.walk c.in-Some.ensures.steps;
  so_far = c.plus-sum.ensures ∙ added g.met.W.Worth.lawful (g.met.N.Network.sound c.args.net.now) (came c.loop-arc.invariant.walk c.in-Some.ensures.steps) c.loop-arc.invariant.so_far c.arc_worth.ensures;
}
