-- Passes, cuts, and cycles taken one after another.
use Rattle.std.proofs.Common.{get_or, set, drop, drop-cons, ◌≡◌, ℕ, zero, suc, [], ◌∷◌, ◌+◌, ◌*◌, ◌<◌, ◌≤◌, ◌⊎◌, inl, inr, Bool, false, List, length, None, Some, Option, sym, refl, ap, ◌∙◌, subst, subst₂, ap₂, ⊎_elim, arith}
use Rattle.std.specs.List.{All, Contains}
use Rattle.std.proofs.lemmas.Bool.{cases_eq, cases_lt}
use Rattle.std.proofs.lemmas.List.{drop_all, get_or_past, length-set, get_or-set_same, get_or-set_other}
use Rattle.std.specs.declared.ops.ControlFlow.TheVariants.{Continue}
use Rattle.flow.specs.Groups.{Kind, Le}
use Rattle.flow.specs.Arcs.{SameArcs}
use Rattle.flow.specs.Steps.{arc, step_worth}
use Rattle.flow.specs.declared.arc.Arc.{Arc}
use Rattle.flow.specs.declared.step.Step.{Step}
use Rattle.flow.specs.declared.step.Step.TheVariants.{Forward, Backward}
use Rattle.flow.proofs.Rows.{net_same, same_all}
use Rattle.network.specs.Potentials.{potential, Fitted}
use Rattle.network.specs.Networks.{Net, Sound}
use Rattle.worth.specs.Kinds.{Ops, Laws}
use Rattle.search.specs.Links.{SoundArcs, tail_of, head_of, residual_of, link, Unlinked, OpenLinks, OpenBut, Up, Paired}
use Rattle.search.specs.Sweeps.{Small, Joined, Forest, Closing}
use Rattle.search.specs.Passes.{Cut, Went, Passed, Swept}
use Rattle.search.specs.Cycles.{Measured, FullAlong}
use Rattle.search.specs.Outcomes.{Climb, still, more, Improves}
use Rattle.search.proofs.Forests.{head_in, bare}
use Rattle.search.proofs.Pushing.{each_known}
use Rattle.search.proofs.Raising.{still_fits}
use Rattle.search.proofs.Ways.{none_some, same_some, bare_paired}
use Rattle.search.proofs.Clearing.{less_small, climb_small}

-- the links ks have become ks' where the first k of the steps p lead
pub record Cutting (ls : List Arc) (p : List Step) (ks ks' : List (Option Step)) (k : ℕ) : Type 0 where
  pub long : length ks' ≡ length ks
  pub each : (v : ℕ) → ((link ks' v ≡ None) × ((s : Step) → link ks v ≡ Some s → residual_of ls s ≡ 0)) ⊎ (link ks' v ≡ link ks v)
  pub left : OpenBut ls (drop k p) ks'

-- the ends of a step are those of the same arc
tail_same : (ls ms : List Arc) → SameArcs ls ms → (s : Step) → tail_of ls s ≡ tail_of ms s
tail_same ls ms e (Forward i) = (same_all ls ms e i).from
tail_same ls ms e (Backward i) = (same_all ls ms e i).to

head_same : (ls ms : List Arc) → SameArcs ls ms → (s : Step) → head_of ls s ≡ head_of ms s
head_same ls ms e (Forward i) = (same_all ls ms e i).to
head_same ls ms e (Backward i) = (same_all ls ms e i).from

-- cutting along a cycle
module _ {ls : List Arc} {p : List Step} {ks : List (Option Step)} where
  pub cut_first : OpenBut ls p ks → Cutting ls p ks ks 0
  cut_first o = record { long = refl; each = λ v. inr refl; left = o }

  -- one step more
  module _ {ks' : List (Option Step)} {k : ℕ} (c : Cutting ls p ks ks' k) (l : k < length p) (f : Step) {node : ℕ} (here : node ≡ head_of ls (get_or p k f)) where
    -- a link elsewhere is among the steps that are left
    elsewhere : (v : ℕ) (s : Step) → link ks' v ≡ Some s → (v ≡ node → ⊥) → residual_of ls s ≡ 0 → Contains (drop (suc k) p) s
    elsewhere v s is off none = go (subst (λ q. Contains q s) (drop-cons p k f l) ((c.left v s is).1 none))
      where
        go : Contains (get_or p k f ∷ drop (suc k) p) s → Contains (drop (suc k) p) s
        go (zero, h, e) = absurd (off (sym (c.left v s is).0 ∙ ap (head_of ls) (sym e) ∙ sym here))
        go (suc j, h, e) = (j, omega arith, e)

    pub cut_stays : ((s : Step) → link ks' node ≡ Some s → residual_of ls s ≡ 0 → ⊥) → Cutting ls p ks ks' (k + 1)
    cut_stays can = record { long = c.long; each = c.each; left = λ v s is. ((c.left v s is).0, λ none. subst (λ j. Contains (drop j p) s) (let e : suc k ≡ k + 1 = omega arith in e) (elsewhere v s is (λ e. can s (ap (link ks') (sym e) ∙ is) none) none)) }

    pub cut_takes : (t : Step) → link ks' node ≡ Some t → residual_of ls t ≡ 0 → Cutting ls p ks (set ks' node None) (k + 1)
    cut_takes t is none = record {
      long = length-set ks' node None ∙ c.long;
      each = λ v. ⊎_elim (λ e. inl (gone v e, full v e)) (λ d. ⊎_elim (λ n. inl (away v d ∙ n.0, n.1)) (λ n. inr (away v d ∙ n)) (c.each v)) (cases_eq v node);
      left = λ v s at. ⊎_elim (λ e. absurd (none_some (link (set ks' node None) v) s (gone v e) at)) (λ d. let was = sym (away v d) ∙ at in ((c.left v s was).0, λ z. subst (λ j. Contains (drop j p) s) (let e : suc k ≡ k + 1 = omega arith in e) (elsewhere v s was d z))) (cases_eq v node);
    }
      where
        inside : node < length ks'
        inside = ⊎_elim (λ h. h) (λ h. absurd (none_some (link ks' node) t (get_or_past ks' node None h) is)) (cases_lt node (length ks'))

        gone : (v : ℕ) → v ≡ node → link (set ks' node None) v ≡ None
        gone v e = ap (link (set ks' node None)) e ∙ get_or-set_same ks' node None None inside

        away : (v : ℕ) → (v ≡ node → ⊥) → link (set ks' node None) v ≡ link ks' v
        away v d = get_or-set_other ks' node v None None d

        full : (v : ℕ) → v ≡ node → (s : Step) → link ks v ≡ Some s → residual_of ls s ≡ 0
        full v e s was = ⊎_elim (λ n. n.1 s was) (λ n. ap (residual_of ls) (same_some (link ks' v) s t (n ∙ was) (ap (link ks') e ∙ is)) ∙ none) (c.each v)

  pub cut_done : {ks' : List (Option Step)} {k : ℕ} → Cutting ls p ks ks' k → length p ≤ k → Cut ls ks ks'
  cut_done {ks'} {k} c h = record { long = c.long; each = λ v. ⊎_elim inl (λ e. inr (e, λ s is. some v s (e ∙ is))) (c.each v) }
    where
      some : (v : ℕ) (s : Step) → link ks' v ≡ Some s → 0 < residual_of ls s
      some v s is = ⊎_elim (λ z. absurd (let m = (subst (λ q. Contains q s) (drop_all k p h) ((c.left v s is).1 z)).1 in omega arith)) (λ n. omega arith) (cases_eq (residual_of ls s) 0)

-- after a shift along a cycle: its steps lead to nodes, and the links are open but for some of them
module _ {ls ms : List Arc} (p : List Step) (ks : List (Option Step)) (e : SameArcs ls ms) where
  pub open_but : FullAlong ls ms p → OpenLinks ls ks → OpenBut ms p ks
  open_but full o v s is = (sym (head_same ls ms e s) ∙ (o v s is).0, λ z. full s (o v s is).1 z)

pub cycle_within : {W : Type 0} (G : Kind W) (s : Net) → Sound s → (p : List Step) {d : ℕ} {w : W} → Measured G.ops s.nodes s.arcs p d w → {ms : List Arc} → SameArcs s.arcs ms → {n : ℕ} → s.nodes ≤ n → All (λ t. head_of ms t < n) p
cycle_within G s z p m {ms} e few k f l = let h = head_in G s.nodes s.arcs z.each (get_or p k f) (each_known G s z p m k f l) in let q = head_same s.arcs ms e (get_or p k f) in omega arith

-- a way up leads on as far as its links are spared
up_cut : (ls ms : List Arc) (ks js : List (Option Step)) → SameArcs ls ms → Cut ms ks js → (v : ℕ) (q : List Step) → Up ls ks v q → (p : List Step) × Up ms js v p
up_cut ls ms ks js e c v [] up = ⊎_elim (λ n. ([], n.0)) (λ k. ([], k.0 ∙ up)) (c.each v)
up_cut ls ms ks js e c v (s ∷ q) up = ⊎_elim (λ n. ([], n.0)) (λ k. on (k.0 ∙ up.0) (up_cut ls ms ks js e c (tail_of ls s) q up.1)) (c.each v)
  where
    on : link js v ≡ Some s → (p : List Step) × Up ms js (tail_of ls s) p → (p : List Step) × Up ms js v p
    on is z = (s ∷ z.0, (is, subst (λ x. Up ms js x z.0) (tail_same ls ms e s) z.1))

-- a shift changes no end
pub paired_same : {ls ms : List Arc} {ks : List (Option Step)} {us : List ℕ} → SameArcs ls ms → Paired ls ks us → Paired ms ks us
paired_same {ls} {ms} {ks} {us} e p = record { long = p.long; each = λ v l. let z = p.each v l in record { off = z.off; on = λ s is. z.on s is ∙ tail_same ls ms e s } }

-- what is left of a forest after a shift
pub forest_cut : {W : Type 0} (G : Kind W) (n : ℕ) (ls ms : List Arc) (xs : List W) (ks js : List (Option Step)) → Forest G.ops n ls xs ks → SameArcs ls ms → SoundArcs n ms → Cut ms ks js → Forest G.ops n ms xs js
forest_cut G n ls ms xs ks js f e z c = record {
  sound = z;
  potentials_long = f.potentials_long;
  links_long = let a = f.links_long in let b = c.long in omega arith;
  rooted = λ v l. up_cut ls ms ks js e c v (f.rooted v l).0 (f.rooted v l).1;
  joined = λ v s is. ⊎_elim (λ none. absurd (none_some (link js v) s none.0 is)) (λ k. joined v s (sym k.0 ∙ is) k.1) (c.each v);
}
  where
    joined : (v : ℕ) (s : Step) → link ks v ≡ Some s → ((t : Step) → link ks v ≡ Some t → 0 < residual_of ms t) → Joined G.ops n ms xs v s
    joined v s is can =
        let j = f.joined v s is in
        record {
          ends = sym (head_same ls ms e s) ∙ j.ends;
          goes = (let a = j.goes.0 in let b = e.long in omega arith, can s is);
          most = subst (Le G.ops (potential G.ops xs v)) (ap₂ G.ops.plus (ap (potential G.ops xs) (tail_same ls ms e s)) (ap (λ g. step_worth G.ops g s) (net_same G n ls ms e))) j.most;
        }

-- after k passes: what has become of the network s, with the sum of the rises
pub record Running {W : Type 0} (o : Ops W) (s t : Net) (ls : List Arc) (xs : List W) (ks : List (Option Step)) (us : List ℕ) (sum : W) (first k : ℕ) : Type 0 where
  pub climb : Climb o s sum t
  pub read : ls ≡ t.arcs
  pub paired : Paired ls ks us
  pub forest : Forest o t.nodes t.arcs xs ks
  pub small : Small o (448 * k) xs
  pub start : first ≤ length t.arcs

module _ {W : Type 0} (G : Kind W) where
  pub run_first : (s : Net) (z : Sound s) (ls : List Arc) → ls ≡ s.arcs → (xs : List W) → length xs ≡ s.nodes → ((v : ℕ) → potential G.ops xs v ≡ G.ops.none) → (ks : List (Option Step)) → length ks ≡ 272 → Unlinked ks → (us : List ℕ) → length us ≡ 272 → ((v : ℕ) → v < 272 → get_or us v 0 ≡ 272) → (sum : W) → sum ≡ G.ops.none → Running G.ops s s ls xs ks us sum 0 0
  run_first s z ls read xs long none ks wide unlinked us broad all sum is = record {
    climb = subst (λ x. Climb G.ops s x s) (sym is) still;
    read = read;
    paired = bare_paired ls ks us wide unlinked broad all;
    forest = bare G s.nodes s.arcs xs ks z.each long (let h = z.few_nodes in omega arith) none unlinked;
    small = λ v. omega (arith, ap G.ops.size (none v), G.laws.size_none);
    start = omega arith;
  }

  module _ {s t : Net} {ls : List Arc} {xs : List W} {ks : List (Option Step)} {us : List ℕ} {sum : W} {first k : ℕ} (r : Running G.ops s t ls xs ks us sum first k) where
    pub run_small : k < 1000 → Small G.ops 999000 xs
    run_small h v = let q = r.small v in omega arith

    -- where a pass over all arcs raises nothing, the potentials fit
    pub run_best : length t.arcs ≤ 448 → k < 1000 → {xs' : List W} {ks' : List (Option Step)} {moved : Bool} → moved ≡ false → first ≡ 0 → Passed G.ops t.nodes t.arcs first xs ks xs' ks' (Continue moved) → Fitted G.ops t xs'
    run_best few early {xs'} {ks'} {moved} unmoved start p = record { enough = let h = z.went.forest.potentials_long in omega arith; fits = still_fits G t.nodes t.arcs z; small = λ v l. let q = z.went.sizes (448 * k) r.small v in omega arith }
      where
        z : Swept G.ops t.nodes t.arcs 0 (length t.arcs) xs ks xs' ks' false
        z = subst₂ (λ j b. Swept G.ops t.nodes t.arcs j (length t.arcs) xs ks xs' ks' b) start unmoved p

    module _ (few : length t.arcs ≤ 448) {xs' : List W} {ks' : List (Option Step)} (w : Went G.ops t.nodes t.arcs xs xs' ks' (length t.arcs)) where
      pub run_moved : {us' : List ℕ} → Paired ls ks' us' → {k' : ℕ} → k' ≡ k + 1 → Running G.ops s t ls xs' ks' us' sum 0 k'
      run_moved paired next = record { climb = r.climb; read = r.read; paired = paired; forest = w.forest; small = λ v. let q = w.sizes (448 * k) r.small v in omega arith; start = omega arith }

      pub run_taken : (u : Net) → Sound u → {ms : List Arc} {js : List (Option Step)} {vs : List ℕ} {rise sum' : W} (step : Step) → Closing G.ops t.nodes t.arcs ks' step → Improves G.ops t u rise → ms ≡ u.arcs → Cut ms ks' js → Paired ms js vs → sum' ≡ G.ops.plus sum rise → {first' k' : ℕ} → first' ≡ arc step → k' ≡ k + 1 → Running G.ops s u ms xs' js vs sum' first' k'
      run_taken u z {ms} {js} {rise} step closing i read cut paired sum-is first-is next = record {
        climb = subst (λ x. Climb G.ops s x u) (sym sum-is) (more r.climb i);
        read = read;
        paired = paired;
        forest = subst (λ m. Forest G.ops m u.arcs xs' js) (sym i.nodes) (forest_cut G t.nodes t.arcs u.arcs xs' ks' js w.forest i.arcs (subst (λ m. SoundArcs m u.arcs) i.nodes z.each) (subst (λ l. Cut l ks' js) read cut));
        small = λ v. let q = w.sizes (448 * k) r.small v in omega arith;
        start = let a = closing.known in let b = i.arcs.long in omega arith;
      }

-- begun again, or gone on
pub run_renewed : {W : Type 0} {o : Ops W} {s t : Net} {ls : List Arc} {xs xs' : List W} {ks ks' : List (Option Step)} {us us' : List ℕ} {sum : W} {first k : ℕ} → Running o s t ls xs ks us sum first k → Paired ls ks' us' → Forest o t.nodes t.arcs xs' ks' → ((b : ℕ) → Small o b xs → Small o b xs') → Running o s t ls xs' ks' us' sum first k
run_renewed {k = k} r p f small = record { climb = r.climb; read = r.read; paired = p; forest = f; small = small (448 * k) r.small; start = r.start }

pub run_add : {W : Type 0} {o : Ops W} (laws : Laws o) {s t u : Net} {sum rise : W} → Climb o s sum t → Sound s → Sound t → Sound u → Improves o t u rise → o.size sum + o.size rise ≤ 4194304
run_add laws {t = t} {u = u} {rise = rise} c p q z i = omega (arith, climb_small laws c p q, less_small laws t u rise q z i.rises)
