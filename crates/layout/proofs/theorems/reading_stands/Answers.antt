use Rattle.layout.proofs.Renders.{reads_records, one_text}
use Rattle.layout.proofs.theorems.reading_stands.Goals as goal

pub returns : goal.returns
returns c = record { spelling = reads_records; apart = one_text }
