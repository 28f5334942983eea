use Rattle.std.proofs.Common.{Some, None, arith}
use Rattle.std.proofs.lemmas.Str.Pattern.{split_parts}
use Rattle.haul.proofs.Words.{none_begins, begins_word}
use Rattle.haul.proofs.reading.first_number.Goals as goal

pub returns-in_err-word : goal.returns-in_err-word
returns-in_err-word c = rw c.from_residual.ensures (λ z rest b. none_begins c.args.text.now rest z (split_parts 32 c.args.text.now None c.in_err-word.ensures.cases (omega arith)) b)

pub returns-in_err-number : goal.returns-in_err-number
returns-in_err-number c =
    let word = c.in_ok-word.word in
    let after = c.in_ok-word.rest in
    let p = split_parts 32 c.args.text.now (Some (word, after)) c.in_ok-word.ensures.cases (omega arith) in
    rw c.from_residual-in_err-number.ensures (λ z rest b. c.in_err-number.ensures z (begins_word c.args.text.now word.now after.now rest z p.0 p.1 b).0)
