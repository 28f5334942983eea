-- Improve and clear have an outcome wherever a use has led.
use Rattle.std.proofs.Common.{◌≡◌, ℕ, zero, suc, ◌+◌, ◌*◌, ◌<◌, ◌≤◌, List, [], ◌∷◌, length, Ok, Result, Some, None, Option, sym, refl, ◌∙◌, subst, subst₂, inl, inr, ◌⊎◌, ⊎_elim, arith}
use Rattle.worth.specs.Kinds.{Ops, Laws}
use Rattle.flow.specs.Groups.{Kind, kind, Le}
use Rattle.flow.specs.Graphs.{Fits}
use Rattle.flow.specs.Graphs as graphs
use Rattle.flow.specs.Steps.{Gainful, fore, rear}
use Rattle.flow.specs.Optimality.{Potentials}
use Rattle.flow.specs.declared.step.Step.{Step}
use Rattle.flow.proofs.Enough.{sufficient_holds}
use Rattle.flow.proofs.Optimum.{not_best, necessary_holds}
use Rattle.flow.proofs.Reach.{reach, fits_or_cycle}
use Rattle.flow.proofs.Shift.{shifting_holds}
use Rattle.flow.proofs.Group.{le_lt_absurd}
use Rattle.tables.specs.declared.refusal.Refusal.{Refusal}
use Rattle.network.specs.Networks.{Net, Sound, flow_in, graph, value}
use Rattle.network.specs.Potentials.{potential, Fitted}
use Rattle.search.specs.Outcomes.{Improves, Climb, still, more, Idle, Beyond, Improving, Clearing}
use Rattle.search.specs.Uses.{Use, improved, Unbeaten, Standing}
use Rattle.search.proofs.Standing.{law_holds}
use Rattle.search.proofs.Beaten.{beats, measure_falls}
use Rattle.cases.proofs.Flown.{flown, flown_flow, flown_same, written, written_long, written_at, written_rest}
use Rattle.cases.proofs.Most.{least, least_allows, allows_least}

module _ {W : Type 0} {o : Ops W} (laws : Laws o) where
  abbrev K : Kind W
  K = kind o laws

  pub standing : {n : Net} {sum : W} → Use o n sum → Standing o n sum
  standing {n} {sum} u = law_holds laws n sum u

  pub graph_sound : (n : Net) → Sound n → graphs.Sound (graph o n)
  graph_sound n s = record { frm_in = λ i l. (s.each i l).from_in; to_in = λ i l. (s.each i l).to_in }

  beyond : (nodes : ℕ) (f : ℕ → W) (work : List W) → nodes ≤ length work → Beyond o nodes work (written nodes f work)
  beyond nodes f work h = record { enough = h; long = written_long nodes f work; rest = λ v l. written_rest o nodes f work v l }

  -- what is left where nothing is worth more
  record Ending (n : Net) (work : List W) : Type 0 where
    pub work' : List W
    pub fitted : Fitted o n work'
    pub beyond : Beyond o n.nodes work work'
    pub idle : Idle o n

  ending : (n : Net) (sum : W) → Use o n sum → Unbeaten o n → (work : List W) → n.nodes ≤ length work → Ending n work
  ending n sum u best work h =
      let s = standing u in
      let p : Potentials o (graph o n) (flow_in n) = necessary_holds K (graph o n) (flow_in n) (graph_sound n s.sound) (λ i l. let a = s.sound.each i l in laws.size_unit _ _ a.low a.high a.light) s.circulation s.within best in
      let at : (v : ℕ) → v < n.nodes → p.at v ≡ potential o (written n.nodes p.at work) v = λ v l. sym (written_at o n.nodes p.at work v h l) in
      record {
        work' = written n.nodes p.at work;
        fitted = record {
          enough = omega (arith, written_long n.nodes p.at work);
          fits = λ i l. let a = s.sound.each i l in subst₂ (λ x y. (flow_in n i < (graph o n).capacity i → Le o (o.plus x ((graph o n).unit i)) y) × (0 < flow_in n i → Le o y (o.plus x ((graph o n).unit i)))) (at ((graph o n).frm i) a.from_in) (at ((graph o n).to i) a.to_in) (p.fits i l);
          small = λ v l. subst (λ x. o.size x ≤ 1000000) (at v l) (let k = p.small v l in let f = s.sound.few_nodes in omega arith);
        };
        beyond = beyond n.nodes p.at work h;
        idle = λ c g. not_best K (graph o n) (flow_in n) s.circulation s.within c g best;
      }

  pub best_some : (n : Net) (sum : W) → Use o n sum → Unbeaten o n → (work : List W) → n.nodes ≤ length work → (t : Net) × (work' : List W) × (r : Result (Option W) Refusal) × Improving o n t work work' r
  best_some n sum u best work h = let e = ending n sum u best work h in (n, e.work', Ok None, (refl, e.fitted, e.beyond, e.idle))

  -- a shift along a cycle worth more than none, by as much as it allows
  record Shift (n : Net) : Type 0 where
    pub after : Net
    pub rise : W
    pub improves : Improves o n after rise

  shift : (n : Net) (sum : W) → Use o n sum → (c : List Step) → Gainful o (graph o n) (flow_in n) c → Shift n
  shift n sum u [] g = absurd (le_lt_absurd K o.none o.none (laws.irreflexive o.none) g.gains)
  shift n sum u (s ∷ c) g =
      let N = graph o n in
      let x = flow_in n in
      let st = standing u in
      let d = least N x (s ∷ c) in
      let moved = (shifting_holds K N x g.node (s ∷ c) d st.circulation st.within g.closed g.apart (least_allows N x (s ∷ c))).0 in
      let after : Net = record { nodes = n.nodes; arcs = flown n.arcs moved.0 } in
      record {
        after = after;
        rise = o.plus (value o after) (o.neg (value o n));
        improves = record {
          cycle = s ∷ c;
          gainful = g;
          amount = d;
          allowed = least_allows N x (s ∷ c);
          most = λ e a. allows_least N x s c e a;
          nodes = refl;
          arcs = flown_same n.arcs moved.0;
          shifted = λ i l. subst (λ k. k + d * rear (s ∷ c) i ≡ x i + d * fore (s ∷ c) i) (sym (flown_flow n.arcs moved.0 i l)) (moved.1 i l);
          rises = refl;
        };
      }

  -- nothing is worth more, or a cycle brings more
  more_or_best : (n : Net) (sum : W) → Use o n sum → Unbeaten o n ⊎ Shift n
  more_or_best n sum u =
      let st = standing u in
      let gs = graph_sound n st.sound in
      ⊎_elim (λ f. inl (sufficient_holds K (graph o n) (reach K (graph o n) (flow_in n) n.nodes) (flow_in n) gs st.circulation f))
      (λ r. inr (shift n sum u r.0 r.1))
      (fits_or_cycle K (graph o n) (flow_in n) n.nodes gs (omega arith))

  pub improve_some : (n : Net) (sum : W) → Use o n sum → (work : List W) → n.nodes ≤ length work → (t : Net) × (work' : List W) × (r : Result (Option W) Refusal) × Improving o n t work work' r
  improve_some n sum u work h =
      ⊎_elim (λ best. best_some n sum u best work h)
      (λ s. (s.after, written n.nodes (λ v. o.none) work, Ok (Some s.rise), (s.improves, (λ v l. written_at o n.nodes (λ v. o.none) work v h l), beyond n.nodes (λ v. o.none) work h)))
      (more_or_best n sum u)

  climb_nodes : {s t : Net} {sum : W} → Climb o s sum t → t.nodes ≡ s.nodes
  climb_nodes still = refl
  climb_nodes (more c i) = i.nodes ∙ climb_nodes c

  -- where cycle after cycle leads
  record Top (s : Net) : Type 0 where
    end : Net
    rise : W
    climb : Climb o s rise end
    sum : W
    used : Use o end sum
    best : Unbeaten o end

  up : (k : ℕ) (s t : Net) (rise sum : W) → Use o t sum → Climb o s rise t → beats o (graph o t) (value o t) < k → (work : List W) → t.nodes ≤ length work → Top s
  up zero s t rise sum u c f work h = absurd (omega arith)
  up (suc k) s t rise sum u c f work h =
      ⊎_elim (λ best. record { end = t; rise = rise; climb = c; sum = sum; used = u; best = best })
      (λ x. let next : Use o x.after (o.plus sum x.rise) = improved x.after work (written t.nodes (λ v. o.none) work) (Ok (Some x.rise)) u (x.improves, (λ v l. written_at o t.nodes (λ v. o.none) work v h l), beyond t.nodes (λ v. o.none) work h) in
      let less = measure_falls K t x.after x.rise (standing next).sound x.improves in
      let same = x.improves.nodes in
      up k s x.after (o.plus rise x.rise) (o.plus sum x.rise) next (more c x.improves) (omega arith) work (omega arith))
      (more_or_best t sum u)

  pub clear_some : (n : Net) (sum : W) → Use o n sum → (work : List W) → n.nodes ≤ length work → (t : Net) × (work' : List W) × (r : Result W Refusal) × Clearing o n t work work' r
  clear_some n sum u work h =
      let x = up (suc (beats o (graph o n) (value o n))) n n o.none sum u still (omega arith) work h in
      let same = climb_nodes x.climb in
      let e = ending x.end x.sum x.used x.best work (omega arith) in
      (x.end, e.work', Ok x.rise, (x.climb, e.fitted, subst (λ k. Beyond o k work e.work') same e.beyond, e.idle))
