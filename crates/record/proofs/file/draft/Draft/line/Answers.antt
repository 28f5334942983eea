use Rattle.record.proofs.Adding.{few_of, adds_line}
use Rattle.record.proofs.file.draft.Draft.line.Goals as goal

pub returns : goal.returns
returns c = adds_line c.put.new.self c.put.ensures c.end_line.ensures

pub invariant_of-self : goal.invariant_of-self
invariant_of-self c = record { few = few_of _ _ c.end_line.ensures.outcome }
