use Rattle.book.proofs.Best.{allowed_is_circulation_lem}
use Rattle.book.proofs.agreement.allowed_is_circulation.Goals as goal

pub returns : goal.returns
returns g c = allowed_is_circulation_lem g.W.Worth.ops
