use Rattle.std.proofs.lemmas.Result.{err_from_is_err_and}
use Rattle.reading.specs.Offers.{head_said, FairHead}
use Rattle.reading.proofs.Tested.{head_row, held_at, no_row, tested}
use Rattle.reading.proofs.offer_head.next_offer_head.Goals as goal

pub returns-in_err-row : goal.returns-in_err-row
returns-in_err-row c =
    let p = err_from_is_err_and c.from_residual.result c.from_residual.ensures.1 in
    rw (p.1, p.2) (record { fair = tt; read = λ x m l. no_row head_row x c.in_err-row.ensures })

pub returns : goal.returns
returns c =
    let n = c.in_ok-row.ensures in
    let r = c.test_head.result in
    let t = c.test_head.ensures in
    record {
      fair = held_at (FairHead c.args.members c.args.lines) _ r t.fair _ c.at_line.ensures;
      read = λ x m l. tested head_row x head_said _ n.1 _ n.0 r (t.refused x m l) t.same _ c.at_line.ensures;
    }
