-- Tests that compute, of flows and potentials on a network.
use Rattle.std.proofs.Common.{◌≡◌, ℕ, zero, suc, ◌<◌, Bool, true, not, ◌&&◌, ◌||◌, eqb, ltb, leb, length, sym, subst, ⊎_elim, arith}
use Rattle.std.proofs.lemmas.Bool.{both_ways, and_parts, or_cases, not-true, leb-true, eqb-true, lt-ltb, cases_eq}
use Rattle.worth.specs.Kinds.{Ops}
use Rattle.flow.specs.Graphs.{Circulation, Within, Fits, sum_n, when, coming, going}
use Rattle.flow.specs.Arcs.{arc_at}
use Rattle.network.specs.Networks.{Net, graph}

-- the test holds of each number below n
abbrev pub all_below : ℕ → (ℕ → Bool) → Bool
all_below zero p = true
all_below (suc n) p = p n && all_below n p

pub below : (n : ℕ) (p : ℕ → Bool) → all_below n p ≡ true → (i : ℕ) → i < n → p i ≡ true
below zero p h i l = absurd (omega arith)
below (suc n) p h i l =
    let b = and_parts (p n) (all_below n p) h in
    ⊎_elim (λ e. subst (λ k. p k ≡ true) (sym e) b.0) (λ d. below n p b.1 i (omega arith)) (cases_eq i n)

pub implied : (a b : Bool) → (not a || b) ≡ true → a ≡ true → b ≡ true
implied a b h k = ⊎_elim (λ n. absurd (both_ways a (not-true a n) k)) (λ x. x) (or_cases (not a) b h)

module _ {W : Type 0} (o : Ops W) (n : Net) (y : ℕ → ℕ) where
  abbrev pub balanced : ℕ → Bool
  balanced v = eqb (sum_n (length n.arcs) (λ i. when (eqb (arc_at n.arcs i).to v) (y i))) (sum_n (length n.arcs) (λ i. when (eqb (arc_at n.arcs i).from v) (y i)))

  pub circulates : all_below n.nodes balanced ≡ true → Circulation (graph o n) y
  unfolding coming going
  circulates h v l = eqb-true _ _ (below n.nodes balanced h v l)

  abbrev pub inside : ℕ → Bool
  inside i = leb (y i) (arc_at n.arcs i).capacity

  pub within : all_below (length n.arcs) inside ≡ true → Within (graph o n) y
  within h i l = leb-true (y i) (arc_at n.arcs i).capacity (below (length n.arcs) inside h i l)

  module _ (at : ℕ → W) where
    abbrev raised : ℕ → W
    raised i = o.plus (at (arc_at n.arcs i).from) (o.unit (arc_at n.arcs i).price (arc_at n.arcs i).weeks)

    abbrev pub left_fits : ℕ → Bool
    left_fits i = not (ltb (y i) (arc_at n.arcs i).capacity) || not (o.less (at (arc_at n.arcs i).to) (raised i))

    abbrev pub flow_fits : ℕ → Bool
    flow_fits i = not (ltb 0 (y i)) || not (o.less (raised i) (at (arc_at n.arcs i).to))

    pub fits : all_below (length n.arcs) (λ i. left_fits i && flow_fits i) ≡ true → Fits o (graph o n) at y
    fits h i l =
        let p = and_parts (left_fits i) (flow_fits i) (below (length n.arcs) (λ i. left_fits i && flow_fits i) h i l) in
        (λ r. not-true _ (implied (ltb (y i) (arc_at n.arcs i).capacity) _ p.0 (lt-ltb (y i) (arc_at n.arcs i).capacity r)), λ r. not-true _ (implied (ltb 0 (y i)) _ p.1 (lt-ltb 0 (y i) r)))

-- all of it in one
abbrev pub finish_test : {W : Type 0} → Ops W → Net → (ℕ → ℕ) → (ℕ → W) → Bool
finish_test o n y at = all_below n.nodes (balanced o n y) && (all_below (length n.arcs) (inside o n y) && all_below (length n.arcs) (λ i. left_fits o n y at i && flow_fits o n y at i))
