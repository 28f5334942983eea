-- What every outcome of improve and clear comes to, where flows are known that potentials fit.
use Rattle.std.proofs.Common.{◌≡◌, ℕ, ◌≤◌, false, List, length, Ok, Err, Result, Some, None, Option, MatchResult, sym, refl, ap, ◌∙◌, subst, arith}
use Rattle.std.proofs.lemmas.Bool.{both_ways}
use Rattle.worth.specs.Kinds.{Ops, Laws}
use Rattle.flow.specs.Groups.{Kind, kind, Le, Lt, times}
use Rattle.flow.specs.Graphs.{Circulation, Within, worth, Fits}
use Rattle.flow.specs.Steps.{gain}
use Rattle.flow.specs.Arcs.{SameArcs, net}
use Rattle.flow.specs.Optimality.{Best as BestFlows}
use Rattle.flow.proofs.Enough.{sufficient_holds}
use Rattle.flow.proofs.Rows.{same_refl, same_trans, net_same}
use Rattle.flow.proofs.Shift.{rise_holds}
use Rattle.flow.proofs.Group.{unit_right}
use Rattle.tables.specs.declared.refusal.Refusal.{Refusal}
use Rattle.network.specs.Networks.{Net, flow_in, graph, value}
use Rattle.search.specs.Outcomes.{Improves, Climb, still, more, Improving, Clearing, Short}
use Rattle.search.specs.Uses.{Use, improved, cleared, Unbeaten}
use Rattle.cases.specs.Clearing.{Improve, Best, RisesOnce, Clear, Clears, Leaves}
use Rattle.cases.proofs.Some.{standing, graph_sound, best_some, improve_some, clear_some}

module _ {W : Type 0} {o : Ops W} (laws : Laws o) where
  abbrev K : Kind W
  K = kind o laws

  graph_kept : {s t : Net} {x : W} → Improves o s t x → graph o s ≡ graph o t
  graph_kept {s} {t} i = net_same K s.nodes s.arcs t.arcs i.arcs ∙ ap (λ k. net o k t.arcs) (sym i.nodes)

  climb_same : {s t : Net} {sum : W} → Climb o s sum t → SameArcs s.arcs t.arcs
  climb_same (still {n = n}) = same_refl n.arcs
  climb_same (more {s = s} {t = t} {u = u} c i) = same_trans s.arcs t.arcs u.arcs (climb_same c) i.arcs

  climb_kept : {s t : Net} {sum : W} → Climb o s sum t → graph o s ≡ graph o t
  climb_kept still = refl
  climb_kept (more c i) = climb_kept c ∙ graph_kept i

  -- a network that a use has led to, with flows on its arcs that potentials fit, and their worth
  pub record Finish (n : Net) (sum w : W) : Type 0 where
    pub used : Use o n sum
    pub flows : ℕ → ℕ
    pub at : ℕ → W
    pub circulation : Circulation (graph o n) flows
    pub within : Within (graph o n) flows
    pub fits : Fits o (graph o n) at flows
    pub is : worth o (graph o n) flows ≡ w

  module _ {n : Net} {sum w : W} (f : Finish n sum w) where
    top : BestFlows o (graph o n) f.flows
    top = sufficient_holds K (graph o n) f.at f.flows (graph_sound laws n (standing laws f.used).sound) f.circulation f.fits

    -- with the same arcs unbeaten flows are worth as much
    unbeaten_is : (t : Net) (s : W) → graph o n ≡ graph o t → Use o t s → Unbeaten o t → value o t ≡ w
    unbeaten_is t s e u best =
        let st = standing laws u in
        let x : worth o (graph o n) (flow_in t) ≡ value o t = ap (λ N. worth o N (flow_in t)) e in
        let best' : BestFlows o (graph o n) (flow_in t) = subst (λ N. BestFlows o N (flow_in t)) (sym e) best in
        sym x
        ∙ laws.connected (worth o (graph o n) (flow_in t)) (worth o (graph o n) f.flows)
        (best' f.flows f.circulation f.within)
        (top (flow_in t) (subst (λ N. Circulation N (flow_in t)) (sym e) st.circulation) (subst (λ N. Within N (flow_in t)) (sym e) st.within))
        ∙ f.is

    -- and flows worth as much are unbeaten
    pub is_unbeaten : (t : Net) → graph o n ≡ graph o t → value o t ≡ w → Unbeaten o t
    is_unbeaten t e v = subst (λ N. BestFlows o N (flow_in t)) e (λ y c h. subst (Le o (worth o (graph o n) y)) (f.is ∙ sym v ∙ sym (ap (λ N. worth o N (flow_in t)) e)) (top y c h))

  not_short : {X : Type 0} {n t : Net} {work work' : List W} {e : Refusal} → n.nodes ≤ length work → Short o n t work work' e → X
  not_short h s = absurd (let k = s.short in omega arith)

  -- improve answers best where the flows are unbeaten
  pub best_every : (n : Net) (sum : W) → Use o n sum → Unbeaten o n → Best o n
  best_every n sum u best = record { some = best_some laws n sum u best; every = every }
    where
      every : (t : Net) (work work' : List W) (r : Result (Option W) Refusal) → n.nodes ≤ length work → Improving o n t work work' r → MatchResult r (λ a. a ≡ None) (λ _. ⊥)
      every t work work' (Ok a) h i = ((standing laws u).best t work work' a i).1 best
      every t work work' (Err e) h i = not_short h i

  -- a network of the arcs of n, with flows that circulate within the capacities and are worth w
  pub record Reached (n : Net) (w : W) (t : Net) : Type 0 where
    pub same : SameArcs n.arcs t.arcs
    pub circulation : Circulation (graph o n) (flow_in t)
    pub within : Within (graph o n) (flow_in t)
    pub worth : worth o (graph o n) (flow_in t) ≡ w

  reached : (n t : Net) (w s : W) → SameArcs n.arcs t.arcs → graph o n ≡ graph o t → Use o t s → value o t ≡ w → Reached n w t
  reached n t w s same e u v =
      let st = standing laws u in
      record { same = same; circulation = subst (λ N. Circulation N (flow_in t)) (sym e) st.circulation; within = subst (λ N. Within N (flow_in t)) (sym e) st.within; worth = ap (λ N. worth o N (flow_in t)) e ∙ v }

  -- the sum that clear answers, and what it leaves
  module _ {n : Net} {w : W} (f : Finish n o.none w) where
    cleared_to : (t : Net) (work work' : List W) (s : W) → Clearing o n t work work' (Ok s) → (s ≡ w) × Reached n w t
    cleared_to t work work' s c =
        let u : Use o t (o.plus o.none s) = cleared t work work' (Ok s) f.used c in
        let v = unbeaten_is f t (o.plus o.none s) (climb_kept c.0) u ((standing laws f.used).ends t work work' s c) in
        (sym (laws.neutral s) ∙ sym (standing laws u).worth ∙ v, reached n t w (o.plus o.none s) (climb_same c.0) (climb_kept c.0) u v)

    clear_by : (P : W → Net → Type 0) → ((t : Net) (s : W) → s ≡ w → Reached n w t → P s t) → Clear o n P
    clear_by P at = record { some = clear_some laws n o.none f.used; every = every }
      where
        every : (t : Net) (work work' : List W) (r : Result W Refusal) → n.nodes ≤ length work → Clearing o n t work work' r → MatchResult r (λ s. P s t) (λ _. ⊥)
        every t work work' (Ok s) h c = let d = cleared_to t work work' s c in at t s d.0 d.1
        every t work work' (Err e) h c = not_short h c

    pub clears : Clears o w n
    clears = clear_by (λ s t. s ≡ w) (λ t s e r. e)

  -- the rise is what the cycle gains, taken as often as it allows
  pub rise_is : (n t : Net) (r : W) (i : Improves o n t r) → r ≡ times o i.amount (gain o (graph o n) i.cycle)
  rise_is n t r i =
      let N = graph o n in
      let g : W = times o i.amount (gain o N i.cycle) in
      let up : value o t ≡ o.plus (value o n) g = ap (λ M. worth o M (flow_in t)) (sym (graph_kept i)) ∙ rise_holds K N (flow_in n) (flow_in t) i.gainful.node i.cycle i.amount i.gainful.closed i.shifted in
      i.rises ∙ ap (λ x. o.plus x (o.neg (value o n))) (up ∙ laws.comm (value o n) g) ∙ laws.assoc g (value o n) (o.neg (value o n)) ∙ ap (o.plus g) (laws.inverse (value o n)) ∙ unit_right K g

  -- where each cycle brings as much as there is to bring
  module _ {n : Net} {w : W} (f : Finish n o.none w) (more-than : Lt o o.none w) (each : (t : Net) (r : W) → Improves o n t r → r ≡ w) where
    -- what improve answers and leaves
    improved_to : (t : Net) (work work' : List W) (a : Option W) → Improving o n t work work' (Ok a) → (a ≡ Some w) × (Best o t × Reached n w t)
    improved_to t work work' None i =
        let st = standing laws f.used in
        let v : o.none ≡ w = sym st.worth ∙ unbeaten_is f n o.none refl f.used ((st.best t work work' None i).0 refl) in
        absurd (both_ways (o.less o.none w) (subst (λ x. o.less o.none x ≡ false) v (laws.irreflexive o.none)) more-than)
    improved_to t work work' (Some r) i =
        let e = each t r i.0 in
        let k = graph_kept i.0 in
        let u : Use o t (o.plus o.none r) = improved t work work' (Ok (Some r)) f.used i in
        let v : value o t ≡ w = (standing laws u).worth ∙ laws.neutral r ∙ e in
        (ap Some e, (best_every t (o.plus o.none r) u (is_unbeaten f t k v), reached n t w (o.plus o.none r) i.0.arcs k u v))

    improve_by : (P : Option W → Net → Type 0) → ((t : Net) (a : Option W) → a ≡ Some w → Best o t → Reached n w t → P a t) → Improve o n P
    improve_by P at = record { some = improve_some laws n o.none f.used; every = every }
      where
        every : (t : Net) (work work' : List W) (r : Result (Option W) Refusal) → n.nodes ≤ length work → Improving o n t work work' r → MatchResult r (λ a. P a t) (λ _. ⊥)
        every t work work' (Ok a) h i = let d = improved_to t work work' a i in at t a d.0 d.1.0 d.1.1
        every t work work' (Err e) h i = not_short h i

    -- improve rises once
    pub rises_once : RisesOnce o w n
    rises_once = improve_by (λ a t. (a ≡ Some w) × Best o t) (λ t a e b r. (e, b))

    -- and what holds of each network so reached holds of what improve and clear leave
    pub leaves : (P : Net → Type 0) → ((t : Net) → Reached n w t → P t) → Leaves o P n
    leaves P at = record { improve = improve_by (λ a t. P t) (λ t a e b r. at t r); clear = clear_by f (λ s t. P t) (λ t s e r. at t r) }
