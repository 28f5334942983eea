use Rattle.std.proofs.Common.{◌∙◌, arith}
use Rattle.std.proofs.lemmas.List.{length-take-le}
use Rattle.search.proofs.Working.{beyond}
use Rattle.search.proofs.Standing.{law_holds}
use Rattle.search.proofs.Clearing.{best_at_once, not_short, ended, goes_on, can_add, fewer_left}
use Rattle.search.proofs.clear.clear.Goals as goal

pub returns-then-work-n-clause-law : goal.returns-then-work-n-clause-law
returns-then-work-n-clause-law g c = law_holds g.met.N.W.Worth.lawful

pub loop-rise-init : goal.loop-rise-init
loop-rise-init g c = (
  record {
    climb = c.in-Left.ensures.outcome;
    beyond = beyond g.N.W.Worth.ops (g.N.Network.net c.args.net.now) (g.met.N.Network.sound c.args.net.now) c.args.work.now c.climb_quickly.new.potentials c.counts-nodes.result.0 c.counts-nodes.ensures.0 (let e = c.counts-nodes.ensures.0 in let z = c.if-work-n.false in omega arith) (c.climb_quickly.auto.potentials ∙ length-take-le c.counts-nodes.result.0 c.args.work.now c.if-work-n.false);
  },
  c.climb_quickly.ensures.kept,
)

pub returns-in_err-rise-clause-outcome : goal.returns-in_err-rise-clause-outcome
returns-in_err-rise-clause-outcome g c = absurd (not_short g.met.N.W.Worth.lawful c.loop-rise.invariant.0 (g.N.Network.net c.improve.new.net) c.improve.new.work c.improve.result c.in_err-rise.field-0.0 c.in_err-rise.was c.improve.ensures.outcome)

pub plus-sum-requires : goal.plus-sum-requires
plus-sum-requires g c = can_add g.met.N.W.Worth.lawful c.loop-rise.invariant.0 (g.N.Network.net c.improve.new.net) c.improve.new.work c.in_ok-rise.field-0 c.in-Some.rise c.in-Some.is c.in_ok-rise.ensures.outcome (g.met.N.Network.sound c.args.net.now) (g.met.N.Network.sound c.loop-rise.net) (g.met.N.Network.sound c.improve.new.net)

pub loop-rise-smaller : goal.loop-rise-smaller
loop-rise-smaller g c = fewer_left g.met.N.W.Worth.lawful c.loop-rise.invariant.0 (g.N.Network.net c.improve.new.net) c.improve.new.work c.in_ok-rise.field-0 c.in-Some.rise c.in-Some.is c.in_ok-rise.ensures.outcome (g.met.N.Network.sound c.improve.new.net)

pub loop-rise-preserved : goal.loop-rise-preserved
loop-rise-preserved g c = (
  goes_on g.met.N.W.Worth.lawful c.loop-rise.invariant.0 (g.N.Network.net c.improve.new.net) c.improve.new.work c.in_ok-rise.field-0 c.in-Some.rise c.in-Some.is c.in_ok-rise.ensures.outcome c.plus-sum.result c.plus-sum.ensures,
  g.met.N.Improvable.onward _ _ _ c.loop-rise.invariant.1 c.improve.ensures.kept,
)

pub returns-clause-outcome : goal.returns-clause-outcome
returns-clause-outcome g c = ended g.met.N.W.Worth.lawful c.loop-rise.invariant.0 (g.N.Network.net c.improve.new.net) c.improve.new.work c.in_ok-rise.field-0 c.in_default.is c.in_ok-rise.ensures.outcome

pub returns-in-Best-clause-outcome : goal.returns-in-Best-clause-outcome
returns-in-Best-clause-outcome g c = best_at_once g.met.N.W.Worth.lawful (g.N.Network.net c.args.net.now) (g.N.Network.net c.climb_quickly.new.net) (g.met.N.Network.sound c.args.net.now) (g.met.N.Network.sound c.climb_quickly.new.net) c.args.work.now c.climb_quickly.new.potentials c.counts-nodes.result.0 c.counts-nodes.ensures.0 c.if-work-n.false (c.climb_quickly.auto.potentials ∙ length-take-le c.counts-nodes.result.0 c.args.work.now c.if-work-n.false) c.in-Best.ensures.outcome

pub returns-in-Best-clause-law : goal.returns-in-Best-clause-law
returns-in-Best-clause-law g c = law_holds g.met.N.W.Worth.lawful
