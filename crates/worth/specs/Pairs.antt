-- The laws of two kinds piled up.
use Rattle.std.specs.Prelude.{◌≡◌, ℕ, zero, suc, ◌+◌, ◌*◌, ◌≤◌, max, true, ◌⊎◌, List, [], ◌∷◌, length, refl}
use Rattle.std.proofs.Common.{sym, ap, ap₂, ◌∙◌, inl, inr, arith, mul-suc, mul-le-mul_left, mul_comm}
use Rattle.std.specs.List.{AllByRecursion}
use Rattle.std.specs.declared.cmp.Ordering.{Ordering}
use Rattle.std.specs.Ordering.{ordering_then}
use Rattle.worth.specs.Kinds.{Ops, Laws, repeated, Rises, RisesFrom, ordering}
use Rattle.worth.specs.Lexicographic.{before, pair, pile}
use Rattle.worth.specs.declared.lexicographic.Lexicographic.{Lexicographic}

-- two orders, each as its kind's operations say, in turn
pub pile_ordered : {F S : Type 0} (a : Ops F) (b : Ops S) {f : F → F → Ordering} {g : S → S → Ordering} → ((x y : F) → f x y ≡ ordering a x y) → ((x y : S) → g x y ≡ ordering b x y) → (x y : Lexicographic F S) → ordering_then (f x.first y.first) (g x.second y.second) ≡ ordering (pile a b) x y
pile_ordered a b p q x y = grind (arith, p, q)

module _ {F S : Type 0} {a : Ops F} {b : Ops S} (la : Laws a) (lb : Laws b) where
  -- the first is less, or equal and the second is less
  lex : (x y : Lexicographic F S) → before a b x y ≡ true → (a.less x.first y.first ≡ true) ⊎ ((x.first ≡ y.first) × (b.less x.second y.second ≡ true))
  lex x y h = grind (arith, la.connected)

  repeats : (n : ℕ) (x : Lexicographic F S) → repeated (pile a b).none (pile a b).plus n x ≡ pair (repeated a.none a.plus n x.first) (repeated b.none b.plus n x.second)
  repeats zero x = refl
  repeats (suc n) x = ap ((pile a b).plus x) (repeats n x)

  -- a row of pairs: the seconds of its first run, and the firsts that come after
  record Counted (x : Lexicographic F S) (xs : List (Lexicographic F S)) : Type 0 where
    seconds : List S
    firsts : List F
    seconds_rise : RisesFrom b.less x.second seconds
    seconds_small : AllByRecursion (λ s. b.size s ≤ 448000) seconds
    firsts_rise : RisesFrom a.less x.first firsts
    firsts_small : AllByRecursion (λ f. a.size f ≤ 448000) firsts
    few : suc (length xs) ≤ suc (length seconds) + b.height * length firsts

  counted : (x : Lexicographic F S) (xs : List (Lexicographic F S)) → AllByRecursion (λ y. (pile a b).size y ≤ 448000) (x ∷ xs) → RisesFrom (before a b) x xs → Counted x xs
  counted x [] w r = record { seconds = []; firsts = []; seconds_rise = tt; seconds_small = tt; firsts_rise = tt; firsts_small = tt; few = omega arith }
  counted x (y ∷ ys) w r = go (counted y ys w.1 r.1) (lex x y r.0)
    where
      small : max (a.size y.first) (b.size y.second) ≤ 448000
      small = w.1.0

      go : Counted y ys → (a.less x.first y.first ≡ true) ⊎ ((x.first ≡ y.first) × (b.less x.second y.second ≡ true)) → Counted x (y ∷ ys)
      go c (inl h) =
          let run : suc (length c.seconds) ≤ b.height = lb.rising (y.second ∷ c.seconds) (omega arith, c.seconds_small) c.seconds_rise in
          let k = mul-suc b.height (length c.firsts) in
          record { seconds = []; firsts = y.first ∷ c.firsts; seconds_rise = tt; seconds_small = tt; firsts_rise = (h, c.firsts_rise); firsts_small = (omega arith, c.firsts_small); few = omega (arith, c.few, k, run) }
      go c (inr h) = record {
        seconds = y.second ∷ c.seconds;
        firsts = c.firsts;
        seconds_rise = (h.1, c.seconds_rise);
        seconds_small = (omega arith, c.seconds_small);
        firsts_rise = rw h.0 c.firsts_rise;
        firsts_small = c.firsts_small;
        few = omega (arith, c.few);
      }

  rising : (xs : List (Lexicographic F S)) → AllByRecursion (λ y. (pile a b).size y ≤ 448000) xs → Rises (before a b) xs → length xs ≤ a.height * b.height
  rising [] w r = omega arith
  rising (x ∷ xs) w r =
      let small : max (a.size x.first) (b.size x.second) ≤ 448000 = w.0 in
      let c = counted x xs w r in
      let run : suc (length c.seconds) ≤ b.height = lb.rising (x.second ∷ c.seconds) (omega arith, c.seconds_small) c.seconds_rise in
      let runs : suc (length c.firsts) ≤ a.height = la.rising (x.first ∷ c.firsts) (omega arith, c.firsts_small) c.firsts_rise in
      let k = mul-suc b.height (length c.firsts) in
      let m = mul-le-mul_left b.height runs in
      omega (arith, c.few, k, m, run, mul_comm a.height b.height)

  pub pile_laws : Laws (pile a b)
  pile_laws = record {
    assoc = λ x y z. ap₂ pair (la.assoc x.first y.first z.first) (lb.assoc x.second y.second z.second);
    comm = λ x y. ap₂ pair (la.comm x.first y.first) (lb.comm x.second y.second);
    neutral = λ x. ap₂ pair (la.neutral x.first) (lb.neutral x.second);
    inverse = λ x. ap₂ pair (la.inverse x.first) (lb.inverse x.second);
    irreflexive = λ x. rw (la.irreflexive x.first, lb.irreflexive x.second);
    transitive = λ x y z h k. grind (arith, la.transitive, la.irreflexive, la.connected, lb.transitive);
    connected = λ x y h k. grind (arith, la.connected, lb.connected);
    shifted = λ x y z. rw (la.shifted x.first y.first z.first, la.shifted y.first x.first z.first, lb.shifted x.second y.second z.second);
    times_is = λ n x. ap₂ pair (la.times_is n x.first) (lb.times_is n x.second) ∙ sym (repeats n x);
    size_none = omega (arith, la.size_none, lb.size_none);
    size_unit = λ p w h k l. omega (arith, la.size_unit p w h k l, lb.size_unit p w h k l);
    size_neg = λ x. omega (arith, la.size_neg x.first, lb.size_neg x.second);
    size_plus = λ x y. omega (arith, la.size_plus x.first y.first, lb.size_plus x.second y.second);
    rising = rising;
  }
