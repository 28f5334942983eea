-- What the laws of a kind give.
use Rattle.std.proofs.Common.{◌≡◌, ℕ, zero, suc, ◌+◌, ◌⊎◌, sym, refl, ap, ◌∙◌, subst, ap₂, ⊎_elim, arith}
use Rattle.std.proofs.lemmas.Bool.{both_ways, cases_Bool}
use Rattle.flow.specs.Groups.{Kind, times, Lt, Le}

module _ {W : Type 0} (G : Kind W) where
  pub shift : (z x y : W) → G.ops.less (G.ops.plus z x) (G.ops.plus z y) ≡ G.ops.less x y
  shift z x y = ap₂ G.ops.less (G.laws.comm z x) (G.laws.comm z y) ∙ G.laws.shifted x y z

  pub left_comm : (x y z : W) → G.ops.plus x (G.ops.plus y z) ≡ G.ops.plus y (G.ops.plus x z)
  left_comm x y z = sym (G.laws.assoc x y z) ∙ ap (λ t. G.ops.plus t z) (G.laws.comm x y) ∙ G.laws.assoc y x z

  pub unit_right : (x : W) → G.ops.plus x G.ops.none ≡ x
  unit_right x = G.laws.comm x G.ops.none ∙ G.laws.neutral x

  pub four : (a b c d : W) → G.ops.plus (G.ops.plus a b) (G.ops.plus c d) ≡ G.ops.plus (G.ops.plus a c) (G.ops.plus b d)
  four a b c d = simp (G.laws.assoc, left_comm)

  pub cancel : (a b c : W) → G.ops.plus a c ≡ G.ops.plus b c → a ≡ b
  cancel a b c e = backward a ∙ ap (λ t. G.ops.plus t (G.ops.neg c)) e ∙ sym (backward b)
    where
      backward : (x : W) → x ≡ G.ops.plus (G.ops.plus x c) (G.ops.neg c)
      backward x = sym (G.laws.assoc x c (G.ops.neg c) ∙ ap (G.ops.plus x) (G.laws.inverse c) ∙ unit_right x)

  pub redo : (a b : W) → G.ops.plus (G.ops.plus a (G.ops.neg b)) b ≡ a
  redo a b = G.laws.assoc a (G.ops.neg b) b ∙ ap (G.ops.plus a) (G.laws.comm (G.ops.neg b) b ∙ G.laws.inverse b) ∙ unit_right a

  -- order
  pub le_refl : (x : W) → Le G.ops x x
  le_refl x = G.laws.irreflexive x

  pub lt_or_le : (x y : W) → Lt G.ops x y ⊎ Le G.ops y x
  lt_or_le x y = cases_Bool (G.ops.less x y)

  pub lt_le : (x y : W) → Lt G.ops x y → Le G.ops x y
  lt_le x y h = ⊎_elim (λ k. absurd (both_ways (G.ops.less x x) (G.laws.irreflexive x) (G.laws.transitive x y x h k))) (λ k. k) (cases_Bool (G.ops.less y x))

  pub le_lt_absurd : (x y : W) → Le G.ops x y → Lt G.ops y x → ⊥
  le_lt_absurd x y h k = both_ways (G.ops.less y x) h k

  pub le_trans : (x y z : W) → Le G.ops x y → Le G.ops y z → Le G.ops x z
  le_trans x y z h k = ⊎_elim first (λ n. n) (cases_Bool (G.ops.less z x))
    where
      second : Lt G.ops z x → Le G.ops y x → Le G.ops x z
      second l e = rw (G.laws.connected x y e h) k

      first : Lt G.ops z x → Le G.ops x z
      first l = ⊎_elim (λ m. absurd (both_ways (G.ops.less z y) k (G.laws.transitive z x y l m))) (second l) (cases_Bool (G.ops.less x y))

  pub le_eq : (x y : W) → x ≡ y → Le G.ops x y
  le_eq x y e = rw e (G.laws.irreflexive y)

  pub lt_le_trans : (x y z : W) → Lt G.ops x y → Le G.ops y z → Lt G.ops x z
  lt_le_trans x y z h k = ⊎_elim (λ n. n) (λ n. absurd (le_lt_absurd y x (le_trans y z x k n) h)) (lt_or_le x z)

  pub le_lt_trans : (x y z : W) → Le G.ops x y → Lt G.ops y z → Lt G.ops x z
  le_lt_trans x y z h k = ⊎_elim (λ n. n) (λ n. absurd (le_lt_absurd z y (le_trans z x y n h) k)) (lt_or_le x z)

  pub le_left : (z x y : W) → Le G.ops x y → Le G.ops (G.ops.plus z x) (G.ops.plus z y)
  le_left z x y h = shift z y x ∙ h

  pub le_right : (x y z : W) → Le G.ops x y → Le G.ops (G.ops.plus x z) (G.ops.plus y z)
  le_right x y z h = rw (G.laws.comm x z, G.laws.comm y z) (le_left z x y h)

  pub le_plus : (a b c d : W) → Le G.ops a b → Le G.ops c d → Le G.ops (G.ops.plus a c) (G.ops.plus b d)
  le_plus a b c d h k = le_trans (G.ops.plus a c) (G.ops.plus b c) (G.ops.plus b d) (le_right a b c h) (le_left b c d k)

  -- times
  pub times_add : (m n : ℕ) (w : W) → times G.ops (m + n) w ≡ G.ops.plus (times G.ops m w) (times G.ops n w)
  times_add zero n w = rw (G.laws.neutral (times G.ops n w)) (ap (λ k. times G.ops k w) (omega arith))
  times_add (suc m) n w =
      let e : suc m + n ≡ suc (m + n) = omega arith in
      ap (λ k. times G.ops k w) e ∙ ap (G.ops.plus w) (times_add m n w) ∙ sym (G.laws.assoc w (times G.ops m w) (times G.ops n w))

  pub times_plus : (n : ℕ) (a b : W) → times G.ops n (G.ops.plus a b) ≡ G.ops.plus (times G.ops n a) (times G.ops n b)
  times_plus zero a b = sym (G.laws.neutral G.ops.none)
  times_plus (suc n) a b = ap (G.ops.plus (G.ops.plus a b)) (times_plus n a b) ∙ four a b (times G.ops n a) (times G.ops n b)

  pub times_none : (n : ℕ) → times G.ops n G.ops.none ≡ G.ops.none
  times_none zero = refl
  times_none (suc n) = G.laws.neutral (times G.ops n G.ops.none) ∙ times_none n

  pub times_up : (n : ℕ) (w : W) → Le G.ops G.ops.none w → Le G.ops G.ops.none (times G.ops n w)
  times_up zero w h = G.laws.irreflexive G.ops.none
  times_up (suc n) w h = subst (λ t. Le G.ops t (G.ops.plus w (times G.ops n w))) (G.laws.neutral G.ops.none) (le_plus G.ops.none w G.ops.none (times G.ops n w) h (times_up n w h))

  pub times_down : (n : ℕ) (w : W) → Le G.ops w G.ops.none → Le G.ops (times G.ops n w) G.ops.none
  times_down zero w h = G.laws.irreflexive G.ops.none
  times_down (suc n) w h = subst (λ t. Le G.ops (G.ops.plus w (times G.ops n w)) t) (G.laws.neutral G.ops.none) (le_plus w G.ops.none (times G.ops n w) G.ops.none h (times_down n w h))
