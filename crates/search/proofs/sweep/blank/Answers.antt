use Rattle.std.proofs.Common.{rules}
use Rattle.search.proofs.Working.{filled}
use Rattle.search.proofs.sweep.blank.Goals as goal

pub returns : goal.returns
returns g c = filled _ g.W.Worth.ops.none (λ f x f' r. search rules) c.fill_with.new.self _ _ c.fill_with.ensures.ran.1
