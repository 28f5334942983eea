use Rattle.record.proofs.Passing.{evidence}
use Rattle.answers.proofs.Whole.{check_prints, lent, when_ok}
use Rattle.answers.proofs.run.run_check.Goals as goal

pub returns-in_err-text-clause-law : goal.returns-in_err-text-clause-law
returns-in_err-text-clause-law g c = evidence

pub returns : goal.returns
returns g c =
    let known = g.R.Read.remaining c.args.input in
    let read = lent known c.deref.result.now c.in_ok-text.text.items c.deref.ensures.value c.in_ok-text.ensures in
    record { outcome = when_ok c.write.result (check_prints known (g.W.Write.contents c.args.output.now) (g.W.Write.contents c.write.new.self) c.deref.result.now c.check.result read c.check.ensures.outcome) c.write.ensures.bytes; law = evidence }
