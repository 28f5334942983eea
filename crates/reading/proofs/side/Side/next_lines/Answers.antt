use Rattle.std.proofs.lemmas.Result.{err_from_is_err_and}
use Rattle.reading.proofs.Sides.{begin, again, stopped}
use Rattle.reading.proofs.side.Side.next_lines.Goals as goal

pub loop-init : goal.loop-init
loop-init c = begin c.args.self.items c.args.self.other.now c.default-lines.result c.args.units.now c.args.reader.now c.default-lines.ensures

pub returns-in_err-filled : goal.returns-in_err-filled
returns-in_err-filled c =
    let p = err_from_is_err_and c.from_residual.result c.from_residual.ensures.1 in
    rw (p.1, p.2) (stopped c.args.self.items c.args.self.other.now c.loop.invariant c.loop-test.true c.as_slice.ensures _ c.in_err-filled.ensures.read)

pub loop-preserved : goal.loop-preserved
loop-preserved c =
    let h = c.in_ok-filled.ensures in
    again c.args.self.items c.args.self.other.now c.loop.invariant c.loop-test.true c.as_slice.ensures c.in_ok-filled.filled c.requires h.fair h.read c.push.result c.push-in-loop.result c.push.ensures c.push-in-loop.ensures
