-- Weeks as a kind of worth.
use Rattle.std.specs.Prelude.{ℤ, pos, ◌+ℤ◌, ◌*ℤ◌, neg_ℤ, int_lt, unsigned_abs}
use Rattle.worth.specs.Kinds.{Ops}
use Rattle.worth.specs.declared.weeks.Weeks.{Weeks}

-- so many weeks
abbrev pub of_count : ℤ → Weeks
of_count z = record { count = z }

-- a unit is its count of weeks; the size is the count without sign
abbrev pub weeks : Ops Weeks
weeks = record {
  none = of_count (pos 0);
  plus = λ x y. of_count (x.count +ℤ y.count);
  neg = λ x. of_count (neg_ℤ x.count);
  less = λ x y. int_lt x.count y.count;
  times = λ n x. of_count (x.count *ℤ pos n);
  size = λ x. unsigned_abs x.count;
  unit = λ p w. of_count (pos w);
  height = 896001;
}
