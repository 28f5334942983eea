-- Money as a kind of worth.
use Rattle.std.specs.Prelude.{◌+◌, ◌/◌, ℤ, pos, ◌+ℤ◌, ◌*ℤ◌, neg_ℤ, int_lt, unsigned_abs}
use Rattle.worth.specs.Kinds.{Ops}
use Rattle.worth.specs.declared.money.Money.{Money}

-- so many cents
abbrev pub of_cents : ℤ → Money
of_cents z = record { cents = z }

-- a unit is its price in cents; the size counts begun millions of cents
abbrev pub money : Ops Money
money = record {
  none = of_cents (pos 0);
  plus = λ x y. of_cents (x.cents +ℤ y.cents);
  neg = λ x. of_cents (neg_ℤ x.cents);
  less = λ x y. int_lt x.cents y.cents;
  times = λ n x. of_cents (x.cents *ℤ pos n);
  size = λ x. (unsigned_abs x.cents + 999999) / 1000000;
  unit = λ p w. of_cents p;
  height = 896000000001;
}
