-- The laws of money and of weeks.
use Rattle.std.specs.Prelude.{◌≡◌, ℕ, zero, suc, ◌+◌, ◌≤◌, List, [], ◌∷◌, length, ℤ, pos, ◌+ℤ◌, ◌*ℤ◌, ◌≤ℤ◌, int_lt, unsigned_abs, refl}
use Rattle.std.proofs.Common.{ap, ◌∙◌, arith}
use Rattle.std.proofs.Math.IntN.{+ℤ_assoc, +ℤ_comm, +ℤ_idl, +ℤ_invr}
use borrow.Author.Differences.{ints}
use Rattle.std.specs.List.{AllByRecursion}
use Rattle.worth.specs.Kinds.{Laws, repeated, Rises, RisesFrom}
use Rattle.worth.specs.Money.{of_cents, money}
use Rattle.worth.specs.Weeks.{of_count, weeks}
use Rattle.worth.specs.declared.money.Money.{Money}
use Rattle.worth.specs.declared.weeks.Weeks.{Weeks}

z_times : (n : ℕ) (x : ℤ) → x *ℤ pos (suc n) ≡ x +ℤ x *ℤ pos n
z_times n x = omega (arith, ints)

-- a row that rises within n on both sides
row : {M : Type 0} {P : M → Type 0} (key : M → ℤ) (n : ℕ) → ((x : M) → P x → unsigned_abs (key x) ≤ n) → (x : M) (xs : List M) → AllByRecursion P (x ∷ xs) → RisesFrom (λ a b. int_lt (key a) (key b)) x xs → (key x +ℤ pos (length xs)) ≤ℤ pos n
row key n small x [] a r = omega (arith, ints, small x a.0)
row key n small x (y ∷ ys) a r = omega (arith, ints, r.0, row key n small y ys a.1 r.1)

-- a rising row of values whose keys lie within n on both sides of 0 has at most 2n + 1 of them
integers_rising : {M : Type 0} {P : M → Type 0} (key : M → ℤ) (n : ℕ) → ((x : M) → P x → unsigned_abs (key x) ≤ n) → (xs : List M) → AllByRecursion P xs → Rises (λ a b. int_lt (key a) (key b)) xs → length xs ≤ n + n + 1
integers_rising key n small [] a r = omega arith
integers_rising key n small (x ∷ xs) a r = omega (arith, ints, small x a.0, row key n small x xs a r)

money_times : (n : ℕ) (x : Money) → money.times n x ≡ repeated money.none money.plus n x
money_times zero x = ap of_cents (omega (arith, ints))
money_times (suc n) x = ap of_cents (z_times n x.cents) ∙ ap (money.plus x) (money_times n x)

-- cents form an ordered group, with a size that the operations keep small
pub money_laws : Laws money
money_laws = record {
  assoc = λ x y z. ap of_cents (+ℤ_assoc x.cents y.cents z.cents);
  comm = λ x y. ap of_cents (+ℤ_comm x.cents y.cents);
  neutral = λ x. ap of_cents (+ℤ_idl x.cents);
  inverse = λ x. ap of_cents (+ℤ_invr x.cents);
  irreflexive = λ x. grind (arith, ints);
  transitive = λ x y z p q. grind (arith, ints);
  connected = λ x y p q. ap of_cents (omega (arith, ints));
  shifted = λ x y z. grind (arith, ints);
  times_is = money_times;
  size_none = refl;
  size_unit = λ p w a b c. omega (arith, ints);
  size_neg = λ x. omega (arith, ints);
  size_plus = λ x y. omega (arith, ints);
  rising = integers_rising (λ x. x.cents) 448000000000 (λ x h. omega arith);
}

weeks_times : (n : ℕ) (x : Weeks) → weeks.times n x ≡ repeated weeks.none weeks.plus n x
weeks_times zero x = ap of_count (omega (arith, ints))
weeks_times (suc n) x = ap of_count (z_times n x.count) ∙ ap (weeks.plus x) (weeks_times n x)

-- and so do counts of weeks
pub weeks_laws : Laws weeks
weeks_laws = record {
  assoc = λ x y z. ap of_count (+ℤ_assoc x.count y.count z.count);
  comm = λ x y. ap of_count (+ℤ_comm x.count y.count);
  neutral = λ x. ap of_count (+ℤ_idl x.count);
  inverse = λ x. ap of_count (+ℤ_invr x.count);
  irreflexive = λ x. grind (arith, ints);
  transitive = λ x y z p q. grind (arith, ints);
  connected = λ x y p q. ap of_count (omega (arith, ints));
  shifted = λ x y z. grind (arith, ints);
  times_is = weeks_times;
  size_none = refl;
  size_unit = λ p w a b c. omega (arith, ints);
  size_neg = λ x. omega (arith, ints);
  size_plus = λ x y. omega (arith, ints);
  rising = integers_rising (λ x. x.count) 448000 (λ x h. h);
}
