use Rattle.std.proofs.Common.{◌≤◌, length, Err, sym, ap, subst}
use Rattle.std.proofs.lemmas.List.{take_all, nil_from_length}
use Rattle.std.proofs.lemmas.Result.{err_from_is_err_and}
use Rattle.text.specs.Rows.{spaced, row_spelt}
use Rattle.text.proofs.Puts.{put_few, put_none, put_same, put_spaced, put_gap, put_cut, put_row, put_no_row}
use Rattle.text.proofs.buffer.Buffer.row.Goals as goal

pub returns-in_default : goal.returns-in_default
returns-in_default g c = put_same (sym (ap (row_spelt g.T.Numeral.notation) (nil_from_length c.args.numbers.now c.in_default.ensures.cases))) (put_none _ (subst (λ l. length l ≤ 32768) c.self.view_is c.self.invariant))

pub returns-in_err-write : goal.returns-in_err-write
returns-in_err-write g c =
    let p = err_from_is_err_and c.from_residual.result c.from_residual.ensures.1 in
    rw (p.1, p.2) (put_no_row g.T.Numeral.notation _ _ c.in-Some.ensures.cases.0 c.in_err-write.ensures)

pub loop-x-init : goal.loop-x-init
loop-x-init g c = put_none _ (put_few c.in_ok-write.ensures)

pub returns-in_err-put : goal.returns-in_err-put
returns-in_err-put g c =
    let p = err_from_is_err_and c.from_residual-in_err-put.result c.from_residual-in_err-put.ensures.1 in
    let n = g.T.Numeral.notation in
    let gap = put_gap n c.in-Some.others.now c.loop-x.x-index c.loop-x-test.true c.x-item.result c.x-item.is c.loop-x.invariant c.in_err-put.ensures in
    rw (p.1, p.2) (put_row n _ _ c.in-Some.ensures.cases.0 c.in_ok-write.ensures gap)

pub returns-in_err-write-2 : goal.returns-in_err-write-2
returns-in_err-write-2 g c =
    let p = err_from_is_err_and c.from_residual-in_err-write-2.result c.from_residual-in_err-write-2.ensures.1 in
    let n = g.T.Numeral.notation in
    let xs = c.in-Some.others.now in
    let i = c.loop-x.x-index in
    let lt = c.loop-x-test.true in
    let x = c.x-item.result in
    let cut = put_cut n xs i lt x c.x-item.is (put_spaced n xs i lt x c.x-item.is {r = Err c.in_err-write-2.field-0.0} c.loop-x.invariant c.in_ok-put.ensures c.in_err-write-2.ensures) in
    rw (p.1, p.2) (put_row n _ _ c.in-Some.ensures.cases.0 c.in_ok-write.ensures cut)

pub loop-x-preserved : goal.loop-x-preserved
loop-x-preserved g c = put_spaced g.T.Numeral.notation c.in-Some.others.now c.loop-x.x-index c.loop-x-test.true c.x-item.result c.x-item.is c.loop-x.invariant c.in_ok-put.ensures c.in_ok-write-2.ensures

pub returns : goal.returns
returns g c =
    let n = g.T.Numeral.notation in
    let all = put_same (ap (spaced n) (take_all c.loop-x.x-index c.in-Some.others.now c.loop-x-test.false)) c.loop-x.invariant in
    put_row n _ _ c.in-Some.ensures.cases.0 c.in_ok-write.ensures all
