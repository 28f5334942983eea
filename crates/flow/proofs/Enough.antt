-- Potentials that fit show that a circulation is best.
use Rattle.std.proofs.Common.{◌≡◌, ℕ, ◌+◌, ◌-◌, ◌<◌, ◌≤◌, sym, ap, ◌∙◌, subst, ap₂, subst₂, ⊎_elim, arith}
use Rattle.std.proofs.lemmas.Bool.{cases_lt}
use Rattle.flow.specs.Groups.{Kind, times, Le, total}
use Rattle.flow.specs.Graphs.{Graph, Sound, coming, going, Circulation, Within, worth, Fits}
use Rattle.flow.specs.Optimality.{Sufficient}
use Rattle.flow.proofs.Group.{left_comm, unit_right, times_add, times_plus, times_none, times_up, times_down, le_left, le_right, le_eq}
use Rattle.flow.proofs.Sums.{total_same, total_plus, total_none, total_le, by_node}

module _ {W : Type 0} (G : Kind W) where
  -- more of what is worth at least none, or less of what is worth at most none
  times_more : (a b : ℕ) (w : W) → a ≤ b → Le G.ops G.ops.none w → Le G.ops (times G.ops a w) (times G.ops b w)
  times_more a b w h up =
      let e : b ≡ a + (b - a) = omega arith in
      let s : times G.ops b w ≡ G.ops.plus (times G.ops a w) (times G.ops (b - a) w) = ap (λ k. times G.ops k w) e ∙ times_add G a (b - a) w in
      rw s (subst (λ t. Le G.ops t (G.ops.plus (times G.ops a w) (times G.ops (b - a) w))) (unit_right G (times G.ops a w)) (le_left G (times G.ops a w) G.ops.none (times G.ops (b - a) w) (times_up G (b - a) w up)))

  times_less : (a b : ℕ) (w : W) → a ≤ b → Le G.ops w G.ops.none → Le G.ops (times G.ops b w) (times G.ops a w)
  times_less a b w h down =
      let e : b ≡ a + (b - a) = omega arith in
      let s : times G.ops b w ≡ G.ops.plus (times G.ops a w) (times G.ops (b - a) w) = ap (λ k. times G.ops k w) e ∙ times_add G a (b - a) w in
      rw s (subst (λ t. Le G.ops (G.ops.plus (times G.ops a w) (times G.ops (b - a) w)) t) (unit_right G (times G.ops a w)) (le_left G (times G.ops a w) (times G.ops (b - a) w) G.ops.none (times_down G (b - a) w down)))

  -- an arc's reduced worth: its unit worth with the potentials at its ends
  reduced : Graph W → (ℕ → W) → ℕ → W
  reduced N L i = G.ops.plus (N.unit i) (G.ops.plus (L (N.frm i)) (G.ops.neg (L (N.to i))))

  ends_cancel : (N : Graph W) → Sound N → (L : ℕ → W) (y : ℕ → ℕ) → Circulation N y → G.ops.plus (total G.ops N.arcs (λ i. times G.ops (y i) (L (N.frm i)))) (total G.ops N.arcs (λ i. times G.ops (y i) (G.ops.neg (L (N.to i))))) ≡ G.ops.none
  unfolding coming going
  ends_cancel N z L y c =
      ap₂ G.ops.plus (sym (by_node G N.arcs N.nodes N.frm y L z.frm_in)) (sym (by_node G N.arcs N.nodes N.to y (λ v. G.ops.neg (L v)) z.to_in))
      ∙ sym (total_plus G N.nodes (λ v. times G.ops (going N y v) (L v)) (λ v. times G.ops (coming N y v) (G.ops.neg (L v))))
      ∙ total_none G N.nodes (λ v. G.ops.plus (times G.ops (going N y v) (L v)) (times G.ops (coming N y v) (G.ops.neg (L v)))) (λ v l. ap (λ k. G.ops.plus (times G.ops (going N y v) (L v)) (times G.ops k (G.ops.neg (L v)))) (c v l) ∙ sym (times_plus G (going N y v) (L v) (G.ops.neg (L v))) ∙ ap (times G.ops (going N y v)) (G.laws.inverse (L v)) ∙ times_none G (going N y v))

  worth_reduced : (N : Graph W) → Sound N → (L : ℕ → W) (y : ℕ → ℕ) → Circulation N y → total G.ops N.arcs (λ i. times G.ops (y i) (reduced N L i)) ≡ worth G.ops N y
  unfolding reduced
  worth_reduced N z L y c =
      let m = N.arcs in
      let own : ℕ → W = λ i. times G.ops (y i) (N.unit i) in
      let start : ℕ → W = λ i. times G.ops (y i) (L (N.frm i)) in
      let stop : ℕ → W = λ i. times G.ops (y i) (G.ops.neg (L (N.to i))) in
      total_same G m (λ i. times G.ops (y i) (reduced N L i)) (λ i. G.ops.plus (own i) (G.ops.plus (start i) (stop i))) (λ i l. times_plus G (y i) (N.unit i) (G.ops.plus (L (N.frm i)) (G.ops.neg (L (N.to i)))) ∙ ap (G.ops.plus (own i)) (times_plus G (y i) (L (N.frm i)) (G.ops.neg (L (N.to i)))))
      ∙ total_plus G m own (λ i. G.ops.plus (start i) (stop i))
      ∙ ap (G.ops.plus (total G.ops m own)) (total_plus G m start stop ∙ ends_cancel N z L y c)
      ∙ unit_right G (total G.ops m own)

  reduced_is : (N : Graph W) (L : ℕ → W) (i : ℕ) → G.ops.plus (G.ops.plus (L (N.frm i)) (N.unit i)) (G.ops.neg (L (N.to i))) ≡ reduced N L i
  unfolding reduced
  reduced_is N L i = G.laws.assoc (L (N.frm i)) (N.unit i) (G.ops.neg (L (N.to i))) ∙ left_comm G (L (N.frm i)) (N.unit i) (G.ops.neg (L (N.to i)))

  low : (N : Graph W) (L : ℕ → W) (i : ℕ) → Le G.ops (G.ops.plus (L (N.frm i)) (N.unit i)) (L (N.to i)) → Le G.ops (reduced N L i) G.ops.none
  low N L i h = subst₂ (Le G.ops) (reduced_is N L i) (G.laws.inverse (L (N.to i))) (le_right G (G.ops.plus (L (N.frm i)) (N.unit i)) (L (N.to i)) (G.ops.neg (L (N.to i))) h)

  high : (N : Graph W) (L : ℕ → W) (i : ℕ) → Le G.ops (L (N.to i)) (G.ops.plus (L (N.frm i)) (N.unit i)) → Le G.ops G.ops.none (reduced N L i)
  high N L i h = subst₂ (Le G.ops) (G.laws.inverse (L (N.to i))) (reduced_is N L i) (le_right G (L (N.to i)) (G.ops.plus (L (N.frm i)) (N.unit i)) (G.ops.neg (L (N.to i))) h)

  arc_best : (N : Graph W) (L : ℕ → W) (x y : ℕ → ℕ) → Fits G.ops N L x → Within N y → (i : ℕ) → i < N.arcs → Le G.ops (times G.ops (y i) (reduced N L i)) (times G.ops (x i) (reduced N L i))
  arc_best N L x y fits wy i l = ⊎_elim (λ lt. times_less (x i) (y i) (reduced N L i) (omega arith) (low N L i ((fits i l).0 (omega (arith, wy i l))))) (λ le. ⊎_elim (λ lt. times_more (y i) (x i) (reduced N L i) le (high N L i ((fits i l).1 (omega arith)))) (λ ge. le_eq G (times G.ops (y i) (reduced N L i)) (times G.ops (x i) (reduced N L i)) (ap (λ k. times G.ops k (reduced N L i)) (omega arith))) (cases_lt (y i) (x i))) (cases_lt (x i) (y i))

  pub sufficient_holds : Sufficient G.ops
  sufficient_holds N L x z cx fits y cy wy = subst₂ (Le G.ops) (worth_reduced N z L y cy) (worth_reduced N z L x cx) (total_le G N.arcs (λ i. times G.ops (y i) (reduced N L i)) (λ i. times G.ops (x i) (reduced N L i)) (arc_best N L x y fits wy))
