use Rattle.std.proofs.Common.{rules, refl, ◌<◌, length, arith}
use Rattle.flow.specs.Groups.{kind}
use Rattle.search.proofs.Raising.{rooted, to_node, closed, raised}
use Rattle.search.proofs.sweep.Search.raise.Goals as goal

pub passes-requires-clause-rooted : goal.passes-requires-clause-rooted
passes-requires-clause-rooted g c = rw c.tail-from.ensures (rooted (kind g.W.Worth.ops g.met.W.Worth.lawful) c.requires.growing c.args.step c.requires.offers.0)

pub returns-then-passes-clause-raised : goal.returns-then-passes-clause-raised
returns-then-passes-clause-raised g c = (refl, closed (kind g.W.Worth.ops g.met.W.Worth.lawful) c.requires.growing c.args.step c.requires.offers c.tail-from.ensures c.head-to.ensures c.passes.ensures c.if-passes.true, refl, refl)

pub returns-clause-raised : goal.returns-clause-raised
returns-clause-raised g c = rw c.set_link.ensures.links (raised (kind g.W.Worth.ops g.met.W.Worth.lawful) c.requires.growing c.args.step c.requires.offers c.tail-from.ensures c.head-to.ensures c.passes.ensures c.if-passes.false)

pub bounds-self-to : goal.bounds-self-to
bounds-self-to g c = omega (arith, to_node (kind g.W.Worth.ops g.met.W.Worth.lawful) c.requires.growing c.args.step c.requires.offers.0, c.head-to.ensures, c.requires.growing.forest.potentials_long)

pub offset_bounds-self-to : goal.offset_bounds-self-to
offset_bounds-self-to g c =
    let h : c.head-to.result < length c.args.self.now.potentials.now = omega (arith, to_node (kind g.W.Worth.ops g.met.W.Worth.lawful) c.requires.growing c.args.step c.requires.offers.0, c.head-to.ensures, c.requires.growing.forest.potentials_long) in
    search rules

pub passes-requires-clause-inside : goal.passes-requires-clause-inside
passes-requires-clause-inside g c = omega (arith, to_node (kind g.W.Worth.ops g.met.W.Worth.lawful) c.requires.growing c.args.step c.requires.offers.0, c.head-to.ensures, c.requires.growing.forest.links_long)

pub set_link-requires-clause-link : goal.set_link-requires-clause-link
set_link-requires-clause-link g c = omega (arith, to_node (kind g.W.Worth.ops g.met.W.Worth.lawful) c.requires.growing c.args.step c.requires.offers.0, c.head-to.ensures, c.requires.growing.forest.links_long)

pub set_link-requires-clause-up : goal.set_link-requires-clause-up
set_link-requires-clause-up g c = omega (arith, to_node (kind g.W.Worth.ops g.met.W.Worth.lawful) c.requires.growing c.args.step c.requires.offers.0, c.head-to.ensures, c.requires.growing.forest.links_long, c.args.self.now.paired.long)
