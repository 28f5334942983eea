use Rattle.std.proofs.Common.{Ok, Err}
use Rattle.std.proofs.lemmas.Result.{err_from_is_err_and}
use Rattle.text.proofs.Puts.{put_few, put_none, put_more, put_from, put_rest}
use Rattle.text.proofs.buffer.Buffer.put.Goals as goal

pub loop-b-init : goal.loop-b-init
loop-b-init c = put_none _ c.self.invariant

pub invariant_of-self : goal.invariant_of-self
invariant_of-self c = put_few c.loop-b.invariant

pub invariant_of-self-in_err-push : goal.invariant_of-self-in_err-push
invariant_of-self-in_err-push c = put_few (put_more c.args.bytes.now c.loop-b.b-index c.loop-b-test.true _ c.loop-b.invariant c.push.ensures)

pub returns-in_err-push : goal.returns-in_err-push
returns-in_err-push c =
    let p = err_from_is_err_and c.from_residual.result c.from_residual.ensures.1 in
    let bytes = c.args.bytes.now in
    let i = c.loop-b.b-index in
    rw (p.1, p.2) (put_from c.self.view_is (put_rest bytes i (put_more bytes i c.loop-b-test.true (Err _) c.loop-b.invariant c.in_err-push.ensures)))

pub loop-b-preserved : goal.loop-b-preserved
loop-b-preserved c = put_more c.args.bytes.now c.loop-b.b-index c.loop-b-test.true (Ok _) c.loop-b.invariant c.in_ok-push.ensures
