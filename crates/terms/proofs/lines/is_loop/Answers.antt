use Rattle.std.proofs.Common.{◌≡◌, ◌<◌, rules}
use Rattle.std.proofs.lemmas.Iterator.{YieldsList-from_slice, cases_from_any}
use Rattle.book.specs.Books.{Any}
use Rattle.terms.proofs.Tests.{any_decides}
use Rattle.terms.proofs.lines.is_loop.Goals as goal

pub returns : goal.returns
returns c =
    let lines = YieldsList-from_slice c.args.give.now c.iter.ensures.rest in
    any_decides (λ g. (g.item ≡ 0) × Any (λ w. (w.item ≡ 0) × (g.price < w.price)) c.args.get.now) _ _ (cases_from_any _ _ _ (λ g. (g.item ≡ 0) × Any (λ w. (w.item ≡ 0) × (g.price < w.price)) c.args.get.now) (λ g. (g.item ≡ 0) × Any (λ w. (w.item ≡ 0) × (g.price < w.price)) c.args.get.now → ⊥) c.any.ensures.ran lines (λ x q k. search rules) (λ x q k. search rules))
