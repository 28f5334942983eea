-- Clearing, rise by rise.
use Rattle.std.proofs.Common.{◌≡◌, ℕ, ◌++◌, length, drop, ◌+◌, ◌<◌, ◌≤◌, List, Ok, Err, Result, sym, refl, ap, ◌∙◌, subst, arith, None, Option, Some}
use Rattle.worth.specs.Kinds.{Ops, Laws}
use Rattle.tables.specs.declared.refusal.Refusal.{Refusal}
use Rattle.flow.specs.Groups.{kind}
use Rattle.flow.proofs.Group.{unit_right}
use Rattle.network.specs.Networks.{Net, Sound, flow_in, graph, value}
use Rattle.network.proofs.Worths.{value_small}
use Rattle.network.specs.Potentials.{potential, Fitted}
use Rattle.search.specs.Outcomes.{Climb, still, more, Idle, Beyond, Improving, Clearing}
use Rattle.search.proofs.Standing.{climb_value}
use Rattle.search.proofs.Beaten.{beats, measure_falls}
use Rattle.search.proofs.Working.{fitted, beyond}
use Rattle.search.proofs.Idle.{no_cycle}

-- how large rises can be
pub less_small : {W : Type 0} {o : Ops W} (laws : Laws o) (s t : Net) (x : W) → Sound s → Sound t → x ≡ o.plus (value o t) (o.neg (value o s)) → o.size x ≤ 896000
less_small {o = o} laws s t x p q e = omega (arith, value_small laws s p, value_small laws t q, ap o.size e, laws.size_plus (value o t) (o.neg (value o s)), laws.size_neg (value o s))

pub climb_nodes : {W : Type 0} {o : Ops W} {s t : Net} {sum : W} → Climb o s sum t → t.nodes ≡ s.nodes
climb_nodes still = refl
climb_nodes (more c i) = i.nodes ∙ climb_nodes c

-- and their sum
pub climb_small : {W : Type 0} {o : Ops W} (laws : Laws o) {s t : Net} {sum : W} → Climb o s sum t → Sound s → Sound t → o.size sum ≤ 896000
climb_small {o = o} laws {s} {t} {sum} c p q = less_small laws s t sum p q (sym (ap (λ y. o.plus y (o.neg (value o s))) (climb_value laws c ∙ laws.comm (value o s) sum) ∙ laws.assoc sum (value o s) (o.neg (value o s)) ∙ ap (o.plus sum) (laws.inverse (value o s)) ∙ unit_right (kind o laws) sum))

-- clearing under way: what has become of the network s and the work table, with the sum of the rises
pub record UnderWay {W : Type 0} (o : Ops W) (s t : Net) (work work' : List W) (sum : W) : Type 0 where
  pub climb : Climb o s sum t
  pub beyond : Beyond o s.nodes work work'

-- where quick cycles end best, clearing is done
pub best_at_once : {W : Type 0} {o : Ops W} (laws : Laws o) (s t : Net) → Sound s → Sound t → (work ys : List W) (k : ℕ) → k ≡ s.nodes → k ≤ length work → length ys ≡ k → {sum : W} → Climb o s sum t × Fitted o t ys → Clearing o s t work (ys ++ drop k work) (Ok sum)
best_at_once {o = o} laws s t p q work ys k is enough long c = (
  c.0,
  fitted o t q work ys k (let e = climb_nodes c.0 in omega arith) (let e = climb_nodes c.0 in omega arith) long c.1,
  beyond o s p work ys k is (omega arith) long,
  no_cycle (kind o laws) (graph o t) (potential o ys) (flow_in t) c.1.fits,
)

-- the next improve takes the network t and the work table work₁ to u and work₂
module _ {W : Type 0} {o : Ops W} (laws : Laws o) {s t : Net} {work work₁ : List W} {sum : W} (w : UnderWay o s t work work₁ sum) (u : Net) (work₂ : List W) where
  beyond_on : Beyond o t.nodes work₁ work₂ → Beyond o s.nodes work work₂
  beyond_on q = record { enough = w.beyond.enough; long = q.long ∙ w.beyond.long; rest = λ v h. q.rest v (let e = climb_nodes w.climb in omega arith) ∙ w.beyond.rest v h }

  pub not_short : (r : Result (Option W) Refusal) (e : Refusal) → r ≡ Err e → Improving o t u work₁ work₂ r → ⊥
  not_short r e is i =
      let short = (subst (Improving o t u work₁ work₂) is i).short in
      let n = climb_nodes w.climb in
      let b = w.beyond.enough in
      let l = w.beyond.long in
      omega arith

  pub ended : (r : Option W) → r ≡ None → Improving o t u work₁ work₂ (Ok r) → Clearing o s u work work₂ (Ok sum)
  ended r is i =
      let b : Improving o t u work₁ work₂ (Ok None) = subst (λ y. Improving o t u work₁ work₂ (Ok y)) is i in
      let e = sym b.0 in
      (subst (Climb o s sum) e w.climb, subst (λ m. Fitted o m work₂) e b.1, beyond_on b.2, subst (Idle o) e b.3)

  module _ (r : Option W) (rise : W) (is : r ≡ Some rise) (i : Improving o t u work₁ work₂ (Ok r)) where
    rose : Improving o t u work₁ work₂ (Ok (Some rise))
    rose = subst (λ y. Improving o t u work₁ work₂ (Ok y)) is i

    pub goes_on : (sum' : W) → sum' ≡ o.plus sum rise → UnderWay o s u work work₂ sum'
    goes_on sum' e = record { climb = subst (λ x. Climb o s x u) (sym e) (more w.climb rose.0); beyond = beyond_on rose.2 }

    pub can_add : Sound s → Sound t → Sound u → o.size sum + o.size rise ≤ 4194304
    can_add p q z = omega (arith, climb_small laws w.climb p q, less_small laws t u rise q z rose.0.rises)

    pub fewer_left : Sound u → beats o (graph o u) (value o u) < beats o (graph o t) (value o t)
    fewer_left z = measure_falls (kind o laws) t u rise z rose.0
