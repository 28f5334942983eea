use Rattle.std.proofs.Common.{length, sym, ap, ◌∙◌, arith}
use Rattle.flow.specs.declared.step.Step.TheVariants.{Forward}
use Rattle.search.specs.Links.{residual_of}
use Rattle.search.proofs.Ways.{none_some, same_some, paired_cut}
use Rattle.search.proofs.Quickly.{cut_first, cut_stays, cut_takes, cut_done}
use Rattle.search.proofs.quick.cut.Goals as goal
use Rattle.search.proofs.quick.cut.Goals.{in-Some+then-room-eq0, in-Some+else-room-eq0, in_default}

pub loop-step-init : goal.loop-step-init
loop-step-init c = (cut_first c.requires.links, c.requires.paired)

pub loop-step-preserved : goal.loop-step-preserved
loop-step-preserved c =
    elim c.match-links-node.branch [
      | in-Some+then-room-eq0 w ↦ rw (w.links-is, w.ups-is) (
        cut_takes c.loop-step.invariant.0 c.loop-step-test.true (Forward 0) c.head-node.ensures w.in-Some.link w.in-Some.is (sym w.room.ensures ∙ w.if-room-eq0.true),
        paired_cut c.args.net.arcs.now c.loop-step.links c.loop-step.ups c.head-node.result (length c.loop-step.ups) c.loop-step.invariant.1 (let p = c.loop-step.invariant.1.long in omega arith),
      )
      | in-Some+else-room-eq0 w ↦ rw (w.links-is, w.ups-is) (
        cut_stays c.loop-step.invariant.0 c.loop-step-test.true (Forward 0) c.head-node.ensures (λ s is z. w.if-room-eq0.false (w.room.ensures ∙ ap (residual_of c.args.net.arcs.now) (same_some _ w.in-Some.link s w.in-Some.is is) ∙ z)),
        c.loop-step.invariant.1,
      )
      | in_default w ↦ rw (w.links-is, w.ups-is) (
        cut_stays c.loop-step.invariant.0 c.loop-step-test.true (Forward 0) c.head-node.ensures (λ s is z. none_some _ s w.in_default.is is),
        c.loop-step.invariant.1,
      )
    ]

pub returns-clause-cut : goal.returns-clause-cut
returns-clause-cut c = cut_done c.loop-step.invariant.0 c.loop-step-test.false
