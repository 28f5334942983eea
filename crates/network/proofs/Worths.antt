-- The worth of the first arcs of a network, and how large it can be.
use Rattle.std.proofs.Common.{◌≡◌, ℕ, zero, suc, ◌+◌, ◌*◌, ◌≤◌, List, [], ◌∷◌, ◌++◌, length, sym, ap, ◌∙◌, ap₂, subst₂, mul-le-mul, add-one, arith}
use Rattle.std.proofs.lemmas.List.{length_push}
use Rattle.worth.specs.Kinds.{Ops, Laws}
use Rattle.flow.specs.Groups.{times, total}
use Rattle.flow.specs.declared.arc.Arc.{Arc}
use Rattle.flow.specs.Arcs.{arc_at}
use Rattle.network.specs.Networks.{Net, Sound, SoundArc, value}
use Rattle.network.proofs.Reading.{Next, sound_arc}

-- a small product
pub product_small : (k x : ℕ) → k ≤ 1000 → x ≤ 1 → k * x ≤ 4194304
product_small k x h l = omega (arith, mul-le-mul h l)

-- the worth of what flows on one arc
abbrev pub arc_worth : {W : Type 0} → Ops W → Arc → W
arc_worth o a = times o a.flow (o.unit a.price a.weeks)

-- the worth of the first arcs
abbrev pub value_below : {W : Type 0} → Ops W → Net → ℕ → W
value_below o n i = total o i (λ k. arc_worth o (arc_at n.arcs k))

module _ {W : Type 0} {o : Ops W} (laws : Laws o) where
  size_times : (k : ℕ) (x : W) → o.size x ≤ 1 → o.size (times o k x) ≤ k
  size_times zero x h = omega (arith, laws.size_none)
  size_times (suc k) x h = omega (arith, laws.size_plus x (times o k x), size_times k x h)

  arc_small : {m : ℕ} (a : Arc) → SoundArc m a → o.size (arc_worth o a) ≤ 1000
  arc_small a s =
      let u = laws.size_unit a.price a.weeks s.low s.high s.light in
      omega (arith, size_times a.flow (o.unit a.price a.weeks) u, s.held, s.small)

  below_small : (n : Net) → Sound n → (i : ℕ) → i ≤ length n.arcs → o.size (value_below o n i) ≤ 1000 * i
  below_small n s zero h = omega (arith, laws.size_none)
  below_small n s (suc i) h =
      let a = arc_at n.arcs i in
      omega (arith, laws.size_plus (value_below o n i) (arc_worth o a), below_small n s i (omega arith), arc_small a (s.each i (omega arith)))

  pub value_small : (n : Net) → Sound n → o.size (value o n) ≤ 448000
  value_small n s = omega (arith, below_small n s (length n.arcs) (omega arith), s.few_arcs)

  -- the next arc, after those seen and their worth
  module _ {n : Net} {seen : List Arc} {a : Arc} (sound : Sound n) (next : Next n seen a) {sum x : W} (so_far : sum ≡ value_below o n (length seen)) (is : x ≡ o.times a.flow (o.unit a.price a.weeks)) where
    one : x ≡ arc_worth o a
    one = is ∙ laws.times_is a.flow (o.unit a.price a.weeks)

    -- its worth can be added
    pub can_add : o.size sum + o.size x ≤ 4194304
    can_add = subst₂ (λ y z. o.size y + o.size z ≤ 4194304) (sym so_far) (sym one) (omega (arith, below_small n sound (length seen) (omega (arith, next.here)), arc_small a (sound_arc sound next), sound.few_arcs, next.here))

    pub added : o.plus sum x ≡ value_below o n (length (seen ++ a ∷ []))
    added = ap₂ o.plus so_far (one ∙ ap (arc_worth o) next.is) ∙ ap (value_below o n) (sym (length_push seen a ∙ add-one (length seen)))
