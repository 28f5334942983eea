use Rattle.std.proofs.Common.{◌<◌, rules}
use Rattle.std.proofs.lemmas.Iterator.{YieldsList-from_slice, cases_from_any}
use Rattle.std.proofs.lemmas.Iterator.Consumers.{YieldsList-from_chain}
use Rattle.terms.proofs.Tests.{any_decides, either_decides}
use Rattle.terms.proofs.lines.is_overpriced.Goals as goal

pub returns : goal.returns
returns c =
    let give = c.args.give.now in
    let get = c.args.get.now in
    either_decides (λ l. 1000000 < l.price) _ give get
    (any_decides (λ l. 1000000 < l.price) _ _ (cases_from_any _ _ _ (λ l. 1000000 < l.price) (λ l. 1000000 < l.price → ⊥) c.any.ensures.ran (YieldsList-from_chain (YieldsList-from_slice give (cc)) (YieldsList-from_slice get (cc)) (cc) (cc)) (λ x q k. search rules) (λ x q k. search rules)))
