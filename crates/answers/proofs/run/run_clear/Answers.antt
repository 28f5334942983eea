use Rattle.std.proofs.Common.{rules}
use Rattle.record.proofs.Passing.{evidence}
use Rattle.answers.proofs.Whole.{clear_prints, lent, refusal_prints, when_ok}
use Rattle.answers.proofs.run.run_clear.Goals as goal

pub returns-in_err-text-clause-law : goal.returns-in_err-text-clause-law
returns-in_err-text-clause-law g c = evidence

pub returns-in-Ok : goal.returns-in-Ok
returns-in-Ok g c =
    let known = g.R.Read.remaining c.args.input in
    let read = lent known c.deref.result.now c.in_ok-text.text.items c.deref.ensures.value c.in_ok-text.ensures in
    record { outcome = when_ok c.write_all.result (clear_prints known (g.W.Write.contents c.args.output.now) (g.W.Write.contents c.write_all.new.self) c.deref.result.now _ c.clear_sheet.new.page c.in-Ok.length read c.in-Ok.ensures.outcome) c.write_all.ensures.bytes; law = evidence }

pub returns : goal.returns
returns g c =
    let known = g.R.Read.remaining c.args.input in
    let read = lent known c.deref.result.now c.in_ok-text.text.items c.deref.ensures.value c.in_ok-text.ensures in
    record { outcome = when_ok c.writeln.result (refusal_prints known (g.W.Write.contents c.args.output.now) (g.W.Write.contents c.writeln.new.self) c.deref.result.now _ c.in-Err.fault (search rules) read c.in-Err.ensures.outcome.1) c.writeln.ensures.bytes; law = evidence }
