use Rattle.flow.specs.Groups.{kind}
use Rattle.search.proofs.Raising.{searched_on, search_ends}
use Rattle.search.proofs.sweep.Search.find_cycle.Goals as goal

pub loop-preserved : goal.loop-preserved
loop-preserved g c = searched_on (kind g.W.Worth.ops g.met.W.Worth.lawful) c.loop.invariant c.pass.ensures.same c.in-Continue-true.field-0-test c.in-Continue-true.ensures.passed

pub returns-in-Continue-false-clause-found : goal.returns-in-Continue-false-clause-found
returns-in-Continue-false-clause-found g c = search_ends (kind g.W.Worth.ops g.met.W.Worth.lawful) c.loop.invariant c.pass.ensures.same c.in-Continue-false.field-0-test c.loop-test.true c.in-Continue-false.ensures.passed
