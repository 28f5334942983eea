use Rattle.std.proofs.lemmas.Result.{err_from_is_err_and}
use Rattle.reading.specs.Offers.{FairBelow}
use Rattle.reading.proofs.Sides.{no_line, one_line}
use Rattle.reading.proofs.Tested.{held_at}
use Rattle.reading.proofs.side.Side.next_line.Goals as goal

pub returns-in_err-row : goal.returns-in_err-row
returns-in_err-row c =
    let p = err_from_is_err_and c.from_residual.result c.from_residual.ensures.1 in
    rw (p.1, p.2) (record { fair = tt; read = λ p x h ls w e. no_line p x h ls c.in_err-row.ensures })

pub returns : goal.returns
returns c =
    let items = c.args.self.items in
    let gs = c.args.self.other.now in
    let above = c.args.above.now in
    let n = c.in_ok-row.ensures in
    let r = c.test_line.result in
    let t = c.test_line.ensures in
    record {
      fair = held_at (λ l. FairBelow items gs above l.line) _ r t.fair _ c.at_line.ensures;
      read = one_line items gs above _ r n.1 _ n.0 t.refused t.same _ c.at_line.ensures;
    }
