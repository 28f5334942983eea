use Rattle.std.proofs.Common.{◌≤◌, length, take}
use Rattle.search.specs.Ascents.{steps_left}
use Rattle.search.proofs.Measuring.{Measuring}
use Rattle.search.proofs.cycle.Cycle.measure.Given as goal

abbrev pub invariant-loop-step : goal.invariant-loop-step
invariant-loop-step g l = Measuring g.W.Worth.ops l.fn.self (take l.count l.steps) (steps_left l.step-iterator) l.amount l.gain × (l.count ≤ length l.steps)
