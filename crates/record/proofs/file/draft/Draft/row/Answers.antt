use Rattle.record.proofs.Adding.{few_of, adds_line}
use Rattle.record.proofs.file.draft.Draft.row.Goals as goal

pub returns : goal.returns
returns g c = adds_line c.row.new.self c.row.ensures c.end_line.ensures

pub invariant_of-self : goal.invariant_of-self
invariant_of-self g c = record { few = few_of _ _ c.end_line.ensures.outcome }
