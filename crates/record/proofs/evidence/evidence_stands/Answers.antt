use Rattle.record.proofs.Passing.{evidence}
use Rattle.record.proofs.evidence.evidence_stands.Goals as goal

pub returns : goal.returns
returns c = evidence
