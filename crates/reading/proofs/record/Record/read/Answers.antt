use Rattle.std.proofs.Common.{rules}
use Rattle.layout.specs.Runs.{Reads}
use Rattle.layout.proofs.Renders.{reads_records}
use Rattle.reading.specs.Drafts.{so_far}
use Rattle.reading.proofs.record.Record.read.Goals as goal

pub invariant_of-result : goal.invariant_of-result
invariant_of-result c =
    let text = c.args.text.now in
    let d = c.read_section-4.new.self in
    let reads : Reads text (so_far d) = search rules in
    record { valid = ∣ ((reads_records text (so_far d)).0 reads).1 ∣₁; counted = d.counted; flat = d.flat }
