use Rattle.std.proofs.Common.{◌∙◌, arith}
use Rattle.std.proofs.lemmas.List.{length-take-le}
use Rattle.search.proofs.Standing.{law_holds}
use Rattle.search.proofs.Working.{widened}
use Rattle.search.proofs.improve.improve.Goals as goal

pub returns-then-work-n-clause-law : goal.returns-then-work-n-clause-law
returns-then-work-n-clause-law g c = law_holds g.met.N.W.Worth.lawful

pub returns-clause-outcome : goal.returns-clause-outcome
returns-clause-outcome g c =
    let n = c.counts-nodes.result.0 in
    let e = c.counts-nodes.ensures.0 in
    let z = c.if-work-n.false in
    widened g.N.W.Worth.ops (g.N.Network.net c.args.net.now) (g.met.N.Network.sound c.args.net.now) c.args.work.now c.improve_within.new.work n e (omega arith) (c.improve_within.auto.work ∙ length-take-le n c.args.work.now z) (g.N.Network.net c.improve_within.new.net) _ c.improve_within.result c.improve_within.ensures.outcome

pub returns-clause-law : goal.returns-clause-law
returns-clause-law g c = law_holds g.met.N.W.Worth.lawful
