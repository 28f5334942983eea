use Rattle.std.proofs.Common.{arith, ◌∙◌}
use Rattle.network.proofs.Reading.{came, onward}
use Rattle.network.proofs.Circulations.{none_counted, all_counted, can_arrive, can_depart, one_more}
use Rattle.network.proofs.circulation.throughputs.Goals as goal

pub overflow_add-rows : goal.overflow_add-rows
overflow_add-rows g c =
    omega (arith, can_arrive (g.met.N.Network.sound c.args.net.now) (came c.loop-arc.invariant.walk c.in-Some.ensures.steps) c.loop-arc.invariant.counted)

pub overflow_add-rows-in-loop-arc : goal.overflow_add-rows-in-loop-arc
overflow_add-rows-in-loop-arc g c =
    omega (arith, can_depart (g.met.N.Network.sound c.args.net.now) (came c.loop-arc.invariant.walk c.in-Some.ensures.steps) c.loop-arc.invariant.counted)

pub loop-arc-init : goal.loop-arc-init
loop-arc-init g c = record {
  walk = record { all = c.into_iter-arc-iterator.ensures.into_iter_gives ∙ c.arcs-arc-items.ensures };
  counted = none_counted c.default-rows.result c.default-rows.ensures;
}

pub loop-arc-preserved : goal.loop-arc-preserved
loop-arc-preserved g c = record {
  walk = onward c.loop-arc.invariant.walk c.in-Some.ensures.steps;
  counted = one_more (g.met.N.Network.sound c.args.net.now) (came c.loop-arc.invariant.walk c.in-Some.ensures.steps) c.loop-arc.invariant.counted;
}

pub returns : goal.returns
returns g c = all_counted c.loop-arc.invariant.walk c.in-None.ensures.steps.0 c.loop-arc.invariant.counted
