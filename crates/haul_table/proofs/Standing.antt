-- The law over uses of a haul table, from the outcomes of its calls.
use Rattle.std.proofs.Common.{◌≡◌, ℕ, suc, ◌+◌, ◌<◌, ◌≤◌, Bool, true, false, eqb, length, Ok, Err, Result, sym, refl, ap, ◌∙◌, subst, ap₂, arith}
use Rattle.tables.specs.declared.refusal.Refusal.{Refusal}
use Rattle.worth.specs.Kinds.{Ops, Laws}
use Rattle.flow.specs.declared.arc.Arc.{Arc}
use Rattle.flow.specs.Arcs.{arc_at, fresh}
use Rattle.flow.specs.Graphs.{Circulation, sum_n, when, coming, going}
use Rattle.flow.specs.Groups.{kind, total, times}
use Rattle.flow.proofs.Group.{unit_right}
use Rattle.flow.proofs.Sums.{sum_n_same, total_same}
use Rattle.network.specs.Networks.{Net, SoundArc, flow_in, graph, value}
use Rattle.search.proofs.Standing.{So, idle_so, improved_so, cleared_so, so_standing}
use Rattle.haul_table.proofs.Growing.{long, old, new, each_of, more_sound}
use Rattle.haul_table.proofs.Admitting.{admitted}
use Rattle.haul_table.specs.Roads.{empty, with_arc, Roaded}
use Rattle.haul_table.specs.Uses.{Use, made, roaded, improved, cleared, Law}

sum_n_more : (k n : ℕ) (f g : ℕ → ℕ) → k ≡ n + 1 → ((i : ℕ) → i < n → f i ≡ g i) → f n ≡ 0 → sum_n k f ≡ sum_n n g
sum_n_more k n f g e h z = ap (λ j. sum_n j f) (let p : k ≡ suc n = omega arith in p) ∙ (let s = sum_n_same n f g h in omega arith)

flat : (b : Bool) (k : ℕ) → k ≡ 0 → when b k ≡ 0
flat true k e = e
flat false k e = refl

-- an arc within its bounds on which nothing flows
module _ {W : Type 0} {o : Ops W} (laws : Laws o) (n : Net) (a : Arc) (z : a.flow ≡ 0) where
  more_circulation : Circulation (graph o n) (flow_in n) → Circulation (graph o (with_arc n a)) (flow_in (with_arc n a))
  unfolding coming going
  more_circulation c v l = at (λ b. b.to) ∙ c v l ∙ sym (at (λ b. b.from))
    where
      at : (end : Arc → ℕ) → sum_n (length (with_arc n a).arcs) (λ i. when (eqb (end (arc_at (with_arc n a).arcs i)) v) (flow_in (with_arc n a) i)) ≡ sum_n (length n.arcs) (λ i. when (eqb (end (arc_at n.arcs i)) v) (flow_in n i))
      at end = sum_n_more _ _ (λ i. when (eqb (end (arc_at (with_arc n a).arcs i)) v) (flow_in (with_arc n a) i)) (λ i. when (eqb (end (arc_at n.arcs i)) v) (flow_in n i)) (long n a)
          (λ i h. ap (λ b. when (eqb (end b) v) b.flow) (old n a i h))
          (flat (eqb (end (arc_at (with_arc n a).arcs (length n.arcs))) v) (flow_in (with_arc n a) (length n.arcs)) (ap (λ b. b.flow) (new n a) ∙ z))

  more_value : value o (with_arc n a) ≡ value o n
  more_value =
      let f : ℕ → W = λ i. times o (flow_in (with_arc n a) i) ((graph o (with_arc n a)).unit i) in
      let g : ℕ → W = λ i. times o (flow_in n i) ((graph o n).unit i) in
      let last : f (length n.arcs) ≡ o.none = ap (λ b. times o b.flow (o.unit b.price b.weeks)) (new n a) ∙ ap (λ k. times o k (o.unit a.price a.weeks)) z in
      ap (λ k. total o k f) (let p : length (with_arc n a).arcs ≡ suc (length n.arcs) = omega (arith, long n a) in p)
      ∙ ap₂ o.plus (total_same (kind o laws) (length n.arcs) f g (λ i l. ap (λ b. times o b.flow (o.unit b.price b.weeks)) (old n a i l))) last
      ∙ unit_right (kind o laws) (value o n)

  more_so : {sum : W} → SoundArc n.nodes a → length n.arcs < 448 → So laws n sum → So laws (with_arc n a) sum
  more_so s few h = record {
    stands = record {
      sound = more_sound n a h.stands.sound s few;
      circulation = more_circulation h.stands.circulation;
      within = each_of n a (λ b. b.flow ≤ b.capacity) h.stands.within s.held;
    };
    worth = more_value ∙ h.worth;
  }

module _ {W : Type 0} {o : Ops W} (laws : Laws o) where
  roaded_so : {s : Net} {sum : W} → So laws s sum → (t : Net) (a : Arc) (r : Result ℕ Refusal) → a.flow ≡ 0 → Roaded s t a r → So laws t sum
  roaded_so {s} {sum} h t a (Ok number) z d = let p = admitted s.nodes (length s.arcs) a z d.refused in subst (λ u. So laws u sum) (sym d.outcome.1) (more_so laws s a z p.0 (let q = p.1 in omega arith) h)
  roaded_so {s} {sum} h t a (Err e) z d = subst (λ u. So laws u sum) (sym d.outcome) h

  used : {n : Net} {sum : W} → Use o n sum → So laws n sum
  used made = idle_so laws empty (record { few_nodes = omega arith; few_arcs = omega arith; each = λ i l. absurd (omega arith) }) (λ i. refl)
  used (roaded t from to room price weeks r u d) = roaded_so (used u) t (fresh from to room price weeks) r refl d
  used (improved t work work' r u i) = improved_so laws (used u) t work work' r i
  used (cleared t work work' r u c) = cleared_so laws (used u) t work work' r c

  pub law_holds : Law o
  law_holds n sum u = so_standing laws (used u)
