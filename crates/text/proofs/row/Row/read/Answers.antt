use Rattle.std.proofs.Common.{arith, rules}
use Rattle.std.proofs.lemmas.List.{length-replicate}
use Rattle.std.proofs.lemmas.List.Sorted.{answers_always}
use Rattle.std.proofs.lemmas.Result.{err_from_is_err_and}
use Rattle.text.proofs.Rows.{begin, next_part, no_part, read_part, none_read, ended_early, whole_row, known}
use Rattle.text.proofs.row.Row.read.Goals as goal

pub loop-number-init : goal.loop-number-init
loop-number-init g c = begin _ _ _ _ (length-replicate _ _) c.split-parts.ensures.done c.split-parts.ensures.rest

pub returns-in_err-ok_or : goal.returns-in_err-ok_or
returns-in_err-ok_or g c =
    let p = err_from_is_err_and c.from_residual.result c.from_residual.ensures.1 in
    let ended = no_part _ _ _ c.next.result c.next.ensures.steps (grind arith) in
    rw (p.1, p.2) (search rules, ended_early (known ended c.loop-number.invariant) c.loop-number-test.true)

pub returns-in_err-number : goal.returns-in_err-number
returns-in_err-number g c =
    let p = err_from_is_err_and c.from_residual-in_err-number.result c.from_residual-in_err-number.ensures.1 in
    let part = next_part _ _ _ c.next.result c.in_ok-ok_or.field-0 c.next.ensures.steps (grind arith) (answers_always _ _ _ (λ f a r f' k. search rules)) in
    let none = c.in_err-number.ensures in
    rw (p.1, p.2) (none.0, none_read g.met.T.Numeral.legible (known part.0 c.loop-number.invariant) c.loop-number-test.true _ _ _ part.1 none.1)

pub loop-number-preserved : goal.loop-number-preserved
loop-number-preserved g c =
    let part = next_part _ _ _ c.next.result c.in_ok-ok_or.field-0 c.next.ensures.steps (grind arith) (answers_always _ _ _ (λ f a r f' k. search rules)) in
    read_part g.met.T.Numeral.legible (known part.0 c.loop-number.invariant) c.loop-number-test.true _ _ _ part.1 _ c.in_ok-number.ensures

pub returns : goal.returns
returns g c = whole_row (known (no_part _ _ _ c.next-2.result c.next-2.ensures.steps (grind arith)) c.loop-number.invariant) c.loop-number-test.false
