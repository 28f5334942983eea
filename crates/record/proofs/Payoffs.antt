-- By each kind the network of an allotment is worth what the allotment is: the sum of the payoffs, and the weeks got.
use Rattle.std.proofs.Common.{◌≡◌, ℕ, ◌≤◌, ◌⊎◌, ◌↔◌, ℤ, pos, ◌≤ℤ◌, ◌<ℤ◌, sym, ap, subst₂, arith}
use borrow.Author.Differences.{ints}
use Rattle.worth.specs.Money.{money, of_cents}
use Rattle.worth.specs.Weeks.{weeks, of_count}
use Rattle.worth.specs.Lexicographic.{pair, pile}
use Rattle.flow.specs.Groups.{Le}
use Rattle.network.specs.Networks.{value}
use Rattle.book.specs.Agreement.{BestAllotment}
use Rattle.book.specs.Allotments.{Allotment, payoffs, weeks_got}
use Rattle.book.specs.Arcs.{filled}
use Rattle.book.specs.Books.{Book}
use Rattle.book.proofs.Worths.{money_is_payoffs_lem, money_then_weeks}
use Rattle.layout.specs.Records.{by_money, by_money_then_weeks}
use Rattle.record.specs.Evidence.{BestBy}

pub money_worth : (b : Book) (a : Allotment) → value money (filled b a) ≡ of_cents (payoffs b.offers a)
money_worth b a = ap of_cents (money_is_payoffs_lem b a)

pub pair_worth : (b : Book) (a : Allotment) → value (pile money weeks) (filled b a) ≡ pair (of_cents (payoffs b.offers a)) (of_count (pos (weeks_got b.offers a)))
pair_worth b a = let e = money_then_weeks b a in (λ i. pair (of_cents (e.0 i)) (of_count (e.1 i)))

-- the order of each kind, in integers
money_order : (x y : ℤ) → Le money (of_cents x) (of_cents y) ↔ (x ≤ℤ y)
money_order x y = ((λ h. grind (arith, ints)), (λ h. grind (arith, ints)))

pair_order : (x y : ℤ) (m n : ℕ) → Le (pile money weeks) (pair (of_cents x) (of_count (pos m))) (pair (of_cents y) (of_count (pos n))) ↔ ((x <ℤ y) ⊎ ((x ≡ y) × (m ≤ n)))
pair_order x y m n = ((λ h. grind (arith, ints)), (λ h. grind (arith, ints)))

-- an allotment is best by the worth of its network exactly when it is by the payoffs, and the weeks
pub best_by_money : (b : Book) (a : Allotment) → BestAllotment money b a ↔ BestBy by_money b a
best_by_money b a = (
  λ h c w. (money_order (payoffs b.offers c) (payoffs b.offers a)).0 (subst₂ (Le money) (money_worth b c) (money_worth b a) (h c w)),
  λ h c w. subst₂ (Le money) (sym (money_worth b c)) (sym (money_worth b a)) ((money_order (payoffs b.offers c) (payoffs b.offers a)).1 (h c w)),
)

pub best_by_pair : (b : Book) (a : Allotment) → BestAllotment (pile money weeks) b a ↔ BestBy by_money_then_weeks b a
best_by_pair b a = (
  λ h c w. (pair_order (payoffs b.offers c) (payoffs b.offers a) (weeks_got b.offers c) (weeks_got b.offers a)).0 (subst₂ (Le (pile money weeks)) (pair_worth b c) (pair_worth b a) (h c w)),
  λ h c w. subst₂ (Le (pile money weeks)) (sym (pair_worth b c)) (sym (pair_worth b a)) ((pair_order (payoffs b.offers c) (payoffs b.offers a) (weeks_got b.offers c) (weeks_got b.offers a)).1 (h c w)),
)
