use Rattle.std.proofs.Common.{arith, rules}
use Rattle.haul_table.proofs.Pushing.{push_sound, push_same}
use Rattle.haul_table.proofs.table.as_network.HaulTableImprovable.push.Goals as goal

pub invariant_of-self : goal.invariant_of-self
invariant_of-self g c =
    let p = c.push.ensures 64 in
    record { few = omega (arith, (push_same p).long, c.args.self.now.few); sound = push_sound p c.args.self.now.sound }

pub returns-clause-outcome : goal.returns-clause-outcome
returns-clause-outcome g c = search (rules, c.push.ensures 64)

pub returns-clause-kept : goal.returns-clause-kept
returns-clause-kept g c = record { arcs = push_same (c.push.ensures 64) }
