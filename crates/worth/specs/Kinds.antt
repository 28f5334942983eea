-- What a kind of worth is: its operations and their laws.
use Rattle.std.specs.Prelude.{◌≡◌, ℕ, zero, suc, ◌+◌, ◌≤◌, Bool, true, false, cond, List, [], ◌∷◌, length, ℤ, pos, negsuc, ◌≤ℤ◌}
use Rattle.std.specs.declared.cmp.Ordering.TheVariants.{Less, Equal, Greater}
use Rattle.std.specs.declared.cmp.Ordering.{Ordering}
use Rattle.std.specs.List.{AllByRecursion}

-- the operations of a kind whose worths are the values of M; `unit` takes a price and weeks,
-- and no strictly rising row of worths of size at most 448,000 is longer than `height`
pub record Ops (M : Type 0) : Type 0 where
  pub none : M
  pub plus : M → M → M
  pub neg : M → M
  pub less : M → M → Bool
  pub times : ℕ → M → M
  pub size : M → ℕ
  pub unit : ℤ → ℕ → M
  pub height : ℕ

-- x added n times
abbrev pub repeated : {M : Type 0} → M → (M → M → M) → ℕ → M → M
repeated none plus zero x = none
repeated none plus (suc n) x = plus x (repeated none plus n x)

-- each element is less than the next, and x less than the first
abbrev pub RisesFrom : {M : Type 0} → (M → M → Bool) → M → List M → Type 0
RisesFrom less x [] = Unit {0}
RisesFrom less x (y ∷ ys) = (less x y ≡ true) × RisesFrom less y ys

-- each element of a row is less than the next
abbrev pub Rises : {M : Type 0} → (M → M → Bool) → List M → Type 0
Rises less [] = Unit {0}
Rises less (x ∷ xs) = RisesFrom less x xs

-- an abelian group with a total order that adding keeps, sizes, and rows that cannot rise for ever
pub record Laws {M : Type 0} (o : Ops M) : Type 0 where
  pub assoc : (x y z : M) → o.plus (o.plus x y) z ≡ o.plus x (o.plus y z)
  pub comm : (x y : M) → o.plus x y ≡ o.plus y x
  pub neutral : (x : M) → o.plus o.none x ≡ x
  pub inverse : (x : M) → o.plus x (o.neg x) ≡ o.none
  pub irreflexive : (x : M) → o.less x x ≡ false
  pub transitive : (x y z : M) → o.less x y ≡ true → o.less y z ≡ true → o.less x z ≡ true
  pub connected : (x y : M) → o.less x y ≡ false → o.less y x ≡ false → x ≡ y
  pub shifted : (x y z : M) → o.less (o.plus x z) (o.plus y z) ≡ o.less x y
  pub times_is : (n : ℕ) (x : M) → o.times n x ≡ repeated o.none o.plus n x
  pub size_none : o.size o.none ≡ 0
  pub size_unit : (p : ℤ) (w : ℕ) → negsuc 999999 ≤ℤ p → p ≤ℤ pos 1000000 → w ≤ 1 → o.size (o.unit p w) ≤ 1
  pub size_neg : (x : M) → o.size (o.neg x) ≡ o.size x
  pub size_plus : (x y : M) → o.size (o.plus x y) ≤ o.size x + o.size y
  pub rising : (xs : List M) → AllByRecursion (λ x. o.size x ≤ 448000) xs → Rises o.less xs → length xs ≤ o.height

-- how two worths compare, from the two tests
abbrev pub ordering : {M : Type 0} → Ops M → M → M → Ordering
ordering o x y = cond (o.less x y) Less (cond (o.less y x) Greater Equal)
