use Rattle.std.proofs.Common.{arith, sym, ◌∙◌, subst, subst₂}
use Rattle.std.specs.declared.ops.ControlFlow.TheVariants.{Continue, Break}
use Rattle.flow.specs.Groups.{kind}
use Rattle.search.specs.Links.{OpenLinks, Paired}
use Rattle.search.specs.Sweeps.{Forest}
use Rattle.search.specs.Passes.{Passed}
use Rattle.search.proofs.Quickly.{run_first, run_best, run_moved, run_taken, run_renewed, run_add}
use Rattle.search.proofs.quick.climb_quickly.Goals as goal
use Rattle.search.proofs.quick.climb_quickly.Goals.{in-Break, in-Continue+else-not-moved}

pub loop-init : goal.loop-init
loop-init g c = (
  run_first (kind g.N.W.Worth.ops g.met.N.W.Worth.lawful) (g.N.Network.net c.args.net.now) (g.met.N.Network.sound c.args.net.now) c.read_arcs.new.table c.read_arcs.ensures c.blank.new.work (c.blank.auto.work ∙ c.requires) c.blank.ensures c.no_links-links.result c.no_links-links.ensures.long c.no_links-links.ensures.unlinked c.no_ups-ups.result c.no_ups-ups.ensures.long c.no_ups-ups.ensures.none c.none-sum.result c.none-sum.ensures,
  g.met.N.Improvable.itself c.args.net.now,
)

pub plus-sum-requires : goal.plus-sum-requires
plus-sum-requires g c = run_add g.met.N.W.Worth.lawful c.loop.invariant.0.climb (g.met.N.Network.sound c.args.net.now) (g.met.N.Network.sound c.loop.net) (g.met.N.Network.sound c.take-rise.new.net) c.take-rise.ensures.rises

pub loop-preserved : goal.loop-preserved
loop-preserved g c =
    let r = c.loop.invariant.0 in
    let few = (g.met.N.Network.sound c.loop.net).few_arcs in
    let o = g.N.W.Worth.ops in
    let K = kind o g.met.N.W.Worth.lawful in
    elim c.match-pass.branch [
      | in-Break w ↦
          let p = subst₂ (λ n l. Passed o n l c.loop.first c.loop.potentials c.loop.links c.pass.new.potentials c.pass.new.links (Break w.in-Break.closing)) r.forest.potentials_long (c.as_slice.ensures ∙ r.read) w.in-Break.ensures.passed in
          rw (w.net-is, w.table-is, w.potentials-is, w.links-is, w.ups-is, w.sum-is, w.first-is) (
            run_taken K r few p.0 (g.N.Network.net w.take-rise.new.net) (g.met.N.Network.sound w.take-rise.new.net) w.in-Break.closing p.1 w.take-rise.ensures.rises w.take-rise.ensures.read w.take-rise.ensures.cut w.take-rise.ensures.paired w.plus-sum.ensures w.arc_of-first.ensures (omega arith),
            g.met.N.Improvable.onward _ _ _ c.loop.invariant.1 w.take-rise.ensures.kept,
          )
      | in-Continue+else-not-moved w ↦
          let p = subst₂ (λ n l. Passed o n l c.loop.first c.loop.potentials c.loop.links c.pass.new.potentials c.pass.new.links (Continue w.in-Continue.moved)) r.forest.potentials_long (c.as_slice.ensures ∙ r.read) w.in-Continue.ensures.passed in
          let moved = run_moved K r few p.went (subst (λ l. Paired l c.pass.new.links c.pass.new.ups) c.as_slice.ensures w.in-Continue.ensures.paired) (omega arith) in
          rw (w.net-is, w.table-is, w.potentials-is, w.links-is, w.ups-is, w.sum-is, w.first-is) (
            run_renewed moved (subst (λ l. Paired l w.renew.new.links w.renew.new.ups) c.as_slice.ensures w.renew.ensures.paired) (subst₂ (λ n l. Forest o n l w.renew.new.potentials w.renew.new.links) r.forest.potentials_long (c.as_slice.ensures ∙ r.read) w.renew.ensures.forest) w.renew.ensures.small,
            c.loop.invariant.1,
          )
    ]

pub pass-requires-clause-paired : goal.pass-requires-clause-paired
pass-requires-clause-paired g c = subst (λ l. Paired l c.loop.links c.loop.ups) (sym c.as_slice.ensures) c.loop.invariant.0.paired

pub take-rise-requires-clause-links : goal.take-rise-requires-clause-links
take-rise-requires-clause-links g c = subst (λ l. OpenLinks l c.pass.new.links) c.as_slice.ensures (λ v s is. let j = c.in-Break.ensures.passed.0.forest.joined v s is in (j.ends, j.goes.1))

pub returns-then-first-eq0-clause-outcome : goal.returns-then-first-eq0-clause-outcome
returns-then-first-eq0-clause-outcome g c =
    let r = c.loop.invariant.0 in
    let o = g.N.W.Worth.ops in
    let p = subst₂ (λ n l. Passed o n l c.loop.first c.loop.potentials c.loop.links c.pass.new.potentials c.pass.new.links (Continue c.in-Continue.moved)) r.forest.potentials_long (c.as_slice.ensures ∙ r.read) c.in-Continue.ensures.passed in
    (r.climb, run_best (kind o g.met.N.W.Worth.lawful) r (g.met.N.Network.sound c.loop.net).few_arcs c.loop-test.true c.if-not-moved.true c.if-first-eq0.true p)
