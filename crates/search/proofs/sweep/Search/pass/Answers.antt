use Rattle.std.proofs.Common.{refl, arith}
use Rattle.flow.specs.Groups.{kind}
use Rattle.search.proofs.Raising.{may_go, arc_waits, arc_goes, arc_closes, pass_done}
use Rattle.search.proofs.sweep.Search.pass.Goals as goal
use Rattle.search.proofs.sweep.Search.pass.Goals.{in-Some+in_ok-raise, in_default}

pub rising-requires-clause-growing : goal.rising-requires-clause-growing
rising-requires-clause-growing g c = may_go (kind g.W.Worth.ops g.met.W.Worth.lawful) c.loop-i.invariant c.requires.growing

pub raise-requires-clause-growing : goal.raise-requires-clause-growing
raise-requires-clause-growing g c = may_go (kind g.W.Worth.ops g.met.W.Worth.lawful) c.loop-i.invariant c.requires.growing

pub returns-in_err-raise-clause-passed : goal.returns-in_err-raise-clause-passed
returns-in_err-raise-clause-passed g c = rw c.from_residual.ensures (arc_closes (kind g.W.Worth.ops g.met.W.Worth.lawful) c.loop-i.invariant c.raise.ensures.same c.in-Some.step c.in_err-raise.field-0.0 c.in_err-raise.ensures.raised)

pub loop-i-preserved : goal.loop-i-preserved
loop-i-preserved g c = elim c.match-rising.branch [
  | in-Some+in_ok-raise w ↦ rw (w.self-is, w.moved-is) (arc_goes (kind g.W.Worth.ops g.met.W.Worth.lawful) c.loop-i.invariant w.raise.ensures.same w.in-Some.step w.in-Some.ensures.0 c.loop-i-test.true w.in_ok-raise.ensures.raised refl)
  | in_default w ↦ rw (w.self-is, w.moved-is) (arc_waits (kind g.W.Worth.ops g.met.W.Worth.lawful) c.loop-i.invariant c.loop-i-test.true w.in_default.ensures refl)
]

pub returns-clause-passed : goal.returns-clause-passed
returns-clause-passed g c = pass_done (kind g.W.Worth.ops g.met.W.Worth.lawful) c.loop-i.invariant (let t = c.loop-i-test.false in let e = c.loop-i.auto.i-end in let h = c.requires.start in omega arith)
