use Rattle.std.proofs.Common.{arith}
use Rattle.std.proofs.lemmas.Result.{MatchResult-weaker}
use Rattle.text.specs.NumbersLemmas.{below_digits}
use Rattle.text.proofs.number.number.Goals as goal

pub returns : goal.returns
returns c = MatchResult-weaker c.digits.result c.digits.ensures (λ n s. s.0) (λ e q. (q.0, λ n s. q.1 n (s, omega (arith, below_digits 13 n s.1))))
