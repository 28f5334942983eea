use Rattle.std.proofs.Common.{rules, arith}
use Rattle.search.proofs.Ways.{told_next, climb_first, climb_met, climb_end, climb_on, less_left}
use Rattle.search.proofs.sweep.Search.passes.Goals as goal

pub loop-node-init : goal.loop-node-init
loop-node-init g c = climb_first c.args.self.now.net.arcs.now c.args.self.now.links.now c.args.goal c.args.from c.requires.rooted

pub returns-in_default : goal.returns-in_default
returns-in_default g c = climb_end c.args.self.now.net.arcs.now c.args.self.now.links.now c.loop-node.invariant c.loop-node-test.true (let h = c.in_default.ensures.lookup.3 in let p = c.args.self.now.paired.long in omega arith)

pub loop-node-smaller : goal.loop-node-smaller
loop-node-smaller g c = less_left c.args.self.now.net.arcs.now c.args.self.now.links.now c.args.self.now.paired (let h = c.in-Some.ensures.lookup in let p = c.args.self.now.paired.long in omega arith) (search rules) c.loop-node.invariant

pub loop-node-preserved : goal.loop-node-preserved
loop-node-preserved g c = climb_on c.args.self.now.net.arcs.now c.args.self.now.links.now c.args.self.now.paired (let h = c.in-Some.ensures.lookup in let p = c.args.self.now.paired.long in omega arith) (search rules) c.loop-node.invariant c.loop-node-test.true

pub returns : goal.returns
returns g c = climb_met c.args.self.now.net.arcs.now c.args.self.now.links.now c.loop-node.invariant c.loop-node-test.false c.requires.inside

pub returns-then-self-goal : goal.returns-then-self-goal
returns-then-self-goal g c = told_next c.args.self.now.net.arcs.now c.args.self.now.links.now c.args.self.now.ups.now c.args.self.now.paired c.args.from c.args.goal c.requires.inside c.if-self-goal.true
