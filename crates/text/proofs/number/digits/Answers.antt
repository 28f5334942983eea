use Rattle.std.proofs.Common.{◌≡◌, get_or, rules, refl, arith}
use Rattle.std.proofs.lemmas.Result.{err_from_is_err_and}
use Rattle.text.specs.NumbersLemmas.{plain_from_spells}
use Rattle.text.proofs.Parsing.{one_more, no_more, all_read}
use Rattle.text.proofs.number.digits.Goals as goal
use Rattle.text.proofs.number.digits.Goals.{then-len-via-then-len, then-len-via-else-len+then-len-gt1}

pub returns-in_err-first : goal.returns-in_err-first
returns-in_err-first g c =
    let p = err_from_is_err_and c.from_residual.result c.from_residual.ensures.1 in
    rw (p.1, p.2) (search rules, λ n s. let q = plain_from_spells _ _ n s.0 in search rules)

pub returns-then-len : goal.returns-then-len
returns-then-len g c = (
  refl,
  λ n s.
      let q = plain_from_spells _ _ n s.0 in
      let first : c.in_ok-first.field-0.now ≡ get_or c.args.bytes.now 0 0 = search rules in
      elim c.then-len.branch [
        | then-len-via-then-len w ↦ omega (arith, w.if-len.true, q.short)
        | then-len-via-else-len+then-len-gt1 w ↦ omega (arith, q.lead (omega (arith, w.if-len-gt1.true.0)), w.if-len-gt1.true.1)
      ],
)

pub returns-in_err-value : goal.returns-in_err-value
returns-in_err-value g c =
    let p = err_from_is_err_and c.from_residual-in_err-value.result c.from_residual-in_err-value.ensures.1 in
    rw (p.1, p.2) (search rules, no_more c.args.bytes.now c.loop-byte.byte-index c.loop-byte.value c.loop-byte-test.true c.loop-byte.invariant _ (search rules))

pub loop-byte-preserved : goal.loop-byte-preserved
loop-byte-preserved g c = one_more c.args.bytes.now c.loop-byte.byte-index c.loop-byte.value c.loop-byte-test.true c.loop-byte.invariant c.in_ok-value.value (search rules)

pub returns : goal.returns
returns g c = all_read g.row.DIGITS c.args.bytes.now c.loop-byte.byte-index c.loop-byte.value (omega (arith, c.loop-byte-test.false)) c.loop-byte.invariant (search rules) c.if-len.false (λ e. search rules)
