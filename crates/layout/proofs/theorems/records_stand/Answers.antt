use Rattle.layout.proofs.Lengths.{short_record}
use Rattle.layout.proofs.Recorded.{all_recorded}
use Rattle.layout.proofs.theorems.records_stand.Goals as goal

pub returns : goal.returns
returns c = record { recorded = all_recorded; short = short_record }
