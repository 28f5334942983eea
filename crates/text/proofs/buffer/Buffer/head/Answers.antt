use Rattle.std.proofs.Common.{◌∷◌, ap}
use Rattle.std.proofs.lemmas.Result.{err_from_is_err_and}
use Rattle.text.specs.Numbers.{spelt}
use Rattle.text.proofs.Puts.{put_then, put_stop, put_same}
use Rattle.text.proofs.buffer.Buffer.head.Goals as goal

pub returns-in_err-put : goal.returns-in_err-put
returns-in_err-put c =
    let p = err_from_is_err_and c.from_residual.result c.from_residual.ensures.1 in
    let count = c.args.count in
    rw (p.1, p.2) (put_same (ap (λ x. x ∷ 32 ∷ spelt count) c.letter.ensures) (put_stop (spelt count) c.in_err-put.ensures))

pub returns : goal.returns
returns c = put_same (ap (λ x. x ∷ 32 ∷ spelt c.args.count) c.letter.ensures) (put_then c.in_ok-put.ensures c.number.ensures.put)
