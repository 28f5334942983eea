-- The law over uses, from the outcomes of the calls.
use Rattle.std.proofs.Common.{◌≡◌, ℕ, ◌<◌, Bool, true, false, eqb, ◌↔◌, List, length, Ok, Err, Result, sym, refl, ap, ◌∙◌, subst, ap₂, arith, None, Option, Some}
use Rattle.worth.specs.Kinds.{Ops, Laws}
use Rattle.flow.specs.Groups.{Kind, kind, times}
use Rattle.flow.specs.Graphs.{Circulation, Within, when, coming, going}
use Rattle.flow.specs.Graphs as nets
use Rattle.flow.specs.Arcs.{arc_at, net}
use Rattle.flow.specs.Optimality.{AfterShift}
use Rattle.flow.proofs.Group.{left_comm, unit_right}
use Rattle.flow.proofs.Shift.{shifting_holds, sum_n_none}
use Rattle.flow.proofs.Sums.{total_none}
use Rattle.flow.proofs.Optimum.{not_best}
use Rattle.flow.proofs.Enough.{sufficient_holds}
use Rattle.flow.proofs.Rows.{net_same}
use Rattle.tables.specs.declared.refusal.Refusal.{Refusal}
use Rattle.network.specs.Networks.{Net, Sound, SoundArc, flow_in, graph, value}
use Rattle.search.specs.Outcomes.{Improves, Climb, still, more, Improving, Clearing}
use Rattle.network.specs.Potentials.{potential, Fitted}
use Rattle.search.specs.Uses.{Use, begun, improved, cleared, risen, summed, Unbeaten, Standing, Law}

rise_not_best : {W : Type 0} (x : W) → ◌≡◌ {A = Option W} (Some x) None → ⊥
rise_not_best x e = let z : ◌≡◌ {A = ℕ} 0 1 = cc in omega arith

module _ {W : Type 0} {o : Ops W} (laws : Laws o) where
  abbrev K : Kind W
  K = kind o laws

  graph_sound : (n : Net) → Sound n → nets.Sound (graph o n)
  graph_sound n s = record { frm_in = λ i l. (s.each i l).from_in; to_in = λ i l. (s.each i l).to_in }

  -- a circulation within the capacities
  pub record Stands (n : Net) : Type 0 where
    pub sound : Sound n
    pub circulation : Circulation (graph o n) (flow_in n)
    pub within : Within (graph o n) (flow_in n)

  graph_same : (s t : Net) (x : W) → Improves o s t x → graph o s ≡ graph o t
  graph_same s t x i = net_same K s.nodes s.arcs t.arcs i.arcs ∙ ap (λ n. net o n t.arcs) (sym i.nodes)

  improves_stands : (s t : Net) (x : W) → Stands s → Improves o s t x → Stands t
  improves_stands s t x st i = record { sound = sound; circulation = subst (λ g. Circulation g (flow_in t)) e kept.circulation; within = subst (λ g. Within g (flow_in t)) e kept.within }
    where
      e : graph o s ≡ graph o t
      e = graph_same s t x i

      kept : AfterShift o (graph o s) (flow_in s) i.cycle i.amount (flow_in t)
      kept = (shifting_holds K (graph o s) (flow_in s) i.gainful.node i.cycle i.amount st.circulation st.within i.gainful.closed i.gainful.apart i.allowed).1 (flow_in t) i.shifted

      sound : Sound t
      sound = record { few_nodes = rw i.nodes st.sound.few_nodes; few_arcs = let l = i.arcs.long in let f = st.sound.few_arcs in omega arith; each = each }
        where
          each : (k : ℕ) → k < length t.arcs → SoundArc t.nodes (arc_at t.arcs k)
          each k l =
              let m = i.arcs.long in
              let h : k < length s.arcs = omega arith in
              let a = st.sound.each k h in
              let b = i.arcs.each k h in
              let n = i.nodes in
              let p = a.from_in in
              let q = a.to_in in
              let r = a.small in
              let w = kept.within k h in
              let c = b.from in
              let d = b.to in
              let f = b.capacity in
              let v = b.weeks in
              let z = a.light in
              record { from_in = omega arith; to_in = omega arith; small = omega arith; held = omega arith; low = rw (sym b.price) a.low; high = rw (sym b.price) a.high; light = omega arith }

  -- what was there and what it rose by
  on_top : (a b : W) → o.plus a (o.plus b (o.neg a)) ≡ b
  on_top a b = left_comm K a b (o.neg a) ∙ ap (o.plus b) (laws.inverse a) ∙ unit_right K b

  climb_stands : {s t : Net} {sum : W} → Stands s → Climb o s sum t → Stands t
  climb_stands st still = st
  climb_stands st (more {t = t} {u = u} {rise = rise} c i) = improves_stands t u rise (climb_stands st c) i

  pub climb_value : {s t : Net} {sum : W} → Climb o s sum t → value o t ≡ o.plus (value o s) sum
  climb_value {s} still = sym (unit_right K (value o s))
  climb_value {s} (more {t = t} {u = u} {sum = sum} {rise = rise} c i) =
      sym (on_top (value o t) (value o u)) ∙ ap₂ o.plus (climb_value c) (sym i.rises) ∙ laws.assoc (value o s) sum rise

  fitted_unbeaten : (n : Net) (work : List W) → Stands n → Fitted o n work → Unbeaten o n
  fitted_unbeaten n work st f = sufficient_holds K (graph o n) (potential o work) (flow_in n) (graph_sound n st.sound) st.circulation f.fits

  stands_on : (n : Net) (sum : W) → Stands n → value o n ≡ sum → Standing o n sum
  stands_on n sum st e = record { sound = st.sound; circulation = st.circulation; within = st.within; worth = e; best = best; ends = λ t work work' sum' c. fitted_unbeaten t work' (climb_stands st c.0) c.1 }
    where
      best : (t : Net) (work work' : List W) (r : Option W) → Improving o n t work work' (Ok r) → (r ≡ None) ↔ Unbeaten o n
      best t work work' (Some x) i = (λ z. absurd (rise_not_best x z), λ u. absurd (not_best K (graph o n) (flow_in n) st.circulation st.within i.0.cycle i.0.gainful u))
      best t work work' None i = (λ z. fitted_unbeaten n work' st i.1, λ u. refl)

  -- what each call of a use hands on to the next
  pub record So (n : Net) (sum : W) : Type 0 where
    pub stands : Stands n
    pub worth : value o n ≡ sum

  -- a call that changes nothing
  onward : {s : Net} {sum : W} → So s sum → (t : Net) → t ≡ s → So t (o.plus sum o.none)
  onward {s} {sum} h t e = record { stands = subst Stands (sym e) h.stands; worth = ap (value o) e ∙ h.worth ∙ sym (unit_right K sum) }

  circulation_none : (n : Net) → ((i : ℕ) → flow_in n i ≡ 0) → Circulation (graph o n) (flow_in n)
  unfolding coming going
  circulation_none n z v l =
      sum_n_none (length n.arcs) (λ i. when (eqb ((graph o n).to i) v) (flow_in n i)) (λ i l. ap (when (eqb ((graph o n).to i) v)) (z i) ∙ flat (eqb ((graph o n).to i) v))
      ∙ sym (sum_n_none (length n.arcs) (λ i. when (eqb ((graph o n).frm i) v) (flow_in n i)) (λ i l. ap (when (eqb ((graph o n).frm i) v)) (z i) ∙ flat (eqb ((graph o n).frm i) v)))
    where
      flat : (b : Bool) → when b 0 ≡ 0
      flat true = refl
      flat false = refl

  value_none : (n : Net) → ((i : ℕ) → flow_in n i ≡ 0) → value o n ≡ o.none
  value_none n z = total_none K (length n.arcs) (λ i. times o (flow_in n i) ((graph o n).unit i)) (λ i l. ap (λ k. times o k ((graph o n).unit i)) (z i))

  pub idle_so : (n : Net) → Sound n → ((i : ℕ) → flow_in n i ≡ 0) → So n o.none
  idle_so n s z = record { stands = record { sound = s; circulation = circulation_none n z; within = λ i l. let e = z i in omega arith }; worth = value_none n z }

  pub improved_so : {s : Net} {sum : W} → So s sum → (t : Net) (work work' : List W) (r : Result (Option W) Refusal) → Improving o s t work work' r → So t (o.plus sum (risen o r))
  improved_so {s} h t work work' (Ok (Some x)) i = record { stands = improves_stands s t x h.stands i.0; worth = sym (on_top (value o s) (value o t)) ∙ ap₂ o.plus h.worth (sym i.0.rises) }
  improved_so h t work work' (Ok None) i = onward h t i.0
  improved_so h t work work' (Err e) i = onward h t i.same

  pub cleared_so : {s : Net} {sum : W} → So s sum → (t : Net) (work work' : List W) (r : Result W Refusal) → Clearing o s t work work' r → So t (o.plus sum (summed o r))
  cleared_so h t work work' (Ok x) c = record { stands = climb_stands h.stands c.0; worth = climb_value c.0 ∙ ap (λ a. o.plus a x) h.worth }
  cleared_so h t work work' (Err e) c = onward h t c.same

  pub so_standing : {n : Net} {sum : W} → So n sum → Standing o n sum
  so_standing {n} {sum} h = stands_on n sum h.stands h.worth

  used : {n : Net} {sum : W} → Use o n sum → So n sum
  used (begun {n} s z) = idle_so n s z
  used (improved t work work' r u i) = improved_so (used u) t work work' r i
  used (cleared t work work' r u c) = cleared_so (used u) t work work' r c

  pub law_holds : Law o
  law_holds n sum u = so_standing (used u)
