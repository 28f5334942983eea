use Rattle.std.proofs.Common.{sym, ap}
use Rattle.tables.specs.Refusals.{named}
use Rattle.tables.proofs.refusal.Refusal.name.Goals as goal

pub returns-in-Bounds : goal.returns-in-Bounds
returns-in-Bounds c = sym (ap named c.in-Bounds.is)

pub returns-in-Withdrawn : goal.returns-in-Withdrawn
returns-in-Withdrawn c = sym (ap named c.in-Withdrawn.is)

pub returns-in-Long : goal.returns-in-Long
returns-in-Long c = sym (ap named c.in-Long.is)
