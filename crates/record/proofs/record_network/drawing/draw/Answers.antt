use Rattle.std.proofs.Common.{◌∙◌}
use Rattle.std.proofs.lemmas.Result.{err_from_is_err_and}
use Rattle.round.specs.Rounds.{book}
use Rattle.reading.specs.Contents.{contents}
use Rattle.record.proofs.Drawing.{still, long, drawn_not, drawn}
use Rattle.record.proofs.record_network.drawing.draw.Goals as goal

pub fill-requires : goal.fill-requires
fill-requires g c =
    let x = contents c.args.record in
    let b = book c.into_round.result in
    let closes = c.close-round.ensures.outcome in
    record {
      empty = still x b c.into_round.ensures.outcome c.close-round.result closes;
      long = long x b c.into_round.ensures.outcome c.close-round.result closes c.as_slice.result.now (c.as_slice.ensures ∙ c.flows_of-flows.ensures);
    }

pub returns-in_err-fill : goal.returns-in_err-fill
returns-in_err-fill g c =
    let p = err_from_is_err_and c.from_residual.result c.from_residual.ensures.1 in
    rw (p.1, p.2) (drawn_not (contents c.args.record) (book c.into_round.result) c.into_round.ensures.outcome c.close-round.result c.close-round.ensures.outcome c.as_slice.result.now (c.as_slice.ensures ∙ c.flows_of-flows.ensures) c.in_err-fill.field-0.0 c.in_err-fill.ensures.refused)

pub returns : goal.returns
returns g c =
    let filled = c.in_ok-fill.ensures in
    drawn (contents c.args.record) (book c.into_round.result) c.into_round.ensures.outcome c.close-round.result c.close-round.ensures.outcome c.as_slice.result.now (c.as_slice.ensures ∙ c.flows_of-flows.ensures) c.fill.new.round filled.refused filled.outcome filled.kept
