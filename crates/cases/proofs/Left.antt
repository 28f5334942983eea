-- Flows that are the same on each arc, as on a network whose arcs all lie on one cycle.
use Rattle.std.proofs.Common.{◌≡◌, ℕ, zero, suc, ◌<◌, ◌≤◌, Bool, true, ◌||◌, eqb, List, [], ◌∷◌, map, length, sym, ap, ap₂, ◌∙◌, subst, ⊎_elim, arith}
use Rattle.std.proofs.lemmas.Bool.{both_ways, or_cases, eqb-true, cases_eq}
use Rattle.worth.specs.Kinds.{Ops, Laws}
use Rattle.flow.specs.Groups.{kind, times}
use Rattle.flow.specs.Graphs.{worth}
use Rattle.flow.specs.declared.arc.Arc.{Arc}
use Rattle.flow.specs.Arcs.{flow_of}
use Rattle.flow.proofs.Sums.{total_same}
use Rattle.network.specs.Networks.{Net, graph}
use Rattle.cases.proofs.Tests.{all_below, below}

-- P of each number below n
abbrev pub EachBelow : ℕ → (ℕ → Type 0) → Type 0
EachBelow zero P = Unit {0}
EachBelow (suc n) P = P n × EachBelow n P

pub each_below : (n : ℕ) (P : ℕ → Type 0) → EachBelow n P → (i : ℕ) → i < n → P i
each_below zero P h i l = absurd (omega arith)
each_below (suc n) P h i l = ⊎_elim (λ e. subst P (sym e) h.0) (λ d. each_below n P h.1 i (omega arith)) (cases_eq i n)

module _ {W : Type 0} {o : Ops W} (laws : Laws o) (n : Net) (w : W) where
  -- of the flows that are k on each arc, k at most m, those with c alone are worth w
  abbrev pub only_at : ℕ → ℕ → Bool
  only_at m c = all_below (suc m) (λ k. eqb k c || (o.less (worth o (graph o n) (λ i. k)) w || o.less w (worth o (graph o n) (λ i. k))))

  equal_not_less : (x : W) → x ≡ w → (o.less x w || o.less w x) ≡ true → ⊥
  equal_not_less x e h =
      ⊎_elim (λ l. both_ways (o.less w w) (laws.irreflexive w) (subst (λ y. o.less y w ≡ true) e l))
      (λ l. both_ways (o.less w w) (laws.irreflexive w) (subst (λ y. o.less w y ≡ true) e l))
      (or_cases (o.less x w) (o.less w x) h)

  pub flow_is : (m c : ℕ) → only_at m c ≡ true → (y : ℕ → ℕ) → EachBelow (length n.arcs) (λ i. y i ≡ y 0) → y 0 ≤ m → worth o (graph o n) y ≡ w → (i : ℕ) → i < length n.arcs → y i ≡ c
  flow_is m c test y flat small is i l =
      let N = graph o n in
      let same = each_below (length n.arcs) (λ i. y i ≡ y 0) flat in
      let worths : worth o N y ≡ worth o N (λ i. y 0) = total_same (kind o laws) (length n.arcs) (λ i. times o (y i) (N.unit i)) (λ i. times o (y 0) (N.unit i)) (λ i l. ap (λ k. times o k (N.unit i)) (same i l)) in
      let found = below (suc m) (λ k. eqb k c || (o.less (worth o N (λ i. k)) w || o.less w (worth o N (λ i. k)))) test (y 0) (omega arith) in
      same i l
      ∙ ⊎_elim (λ e. eqb-true (y 0) c e) (λ h. absurd (equal_not_less (worth o N (λ i. y 0)) (sym worths ∙ is) h)) (or_cases (eqb (y 0) c) (o.less (worth o N (λ i. y 0)) w || o.less w (worth o N (λ i. y 0))) found)

-- the flows on two arcs
pub two_flows : (ls : List Arc) (c : ℕ) → 2 ≡ length ls → flow_of ls 0 ≡ c → flow_of ls 1 ≡ c → map (λ a. a.flow) ls ≡ c ∷ c ∷ []
two_flows [] c l e f = absurd (omega arith)
two_flows (a ∷ []) c l e f = absurd (omega arith)
two_flows (a ∷ b ∷ []) c l e f = ap₂ (λ x y. x ∷ y ∷ []) e f
two_flows (a ∷ b ∷ d ∷ ls) c l e f = absurd (omega arith)
