-- Arcs gone over one after another, and pass after pass.
use Rattle.std.proofs.Common.{◌≡◌, ℕ, suc, ◌+◌, ◌*◌, ◌<◌, ◌≤◌, ◌⊎◌, inl, inr, Bool, true, false, List, length, set, Some, None, Option, sym, refl, ap, ◌∙◌, subst, ap₂, subst₂, ⊎_elim, arith}
use Rattle.std.proofs.lemmas.Bool.{cases_eq, true≢false, cases_lt}
use Rattle.std.proofs.lemmas.List.{get_or-set_same, get_or-set_other}
use Rattle.flow.specs.Groups.{Kind, Lt, Le}
use Rattle.flow.specs.Graphs.{Graph, Sound, Fits}
use Rattle.flow.specs.Arcs.{net, flow_of}
use Rattle.flow.specs.Steps.{arc, Open, step_worth}
use Rattle.flow.specs.declared.arc.Arc.{Arc}
use Rattle.flow.specs.declared.step.Step.{Step}
use Rattle.flow.specs.declared.step.Step.TheVariants.{Forward, Backward}
use Rattle.flow.proofs.Group.{unit_right, redo, le_trans, le_right, lt_le, le_lt_trans, le_eq, le_lt_absurd}
use Rattle.flow.proofs.Reach.{reach, sweep_above, fits_from}
use Rattle.network.specs.Potentials.{potential}
use Rattle.std.specs.declared.ops.ControlFlow.TheVariants.{Continue, Break}
use Rattle.search.specs.Links.{tail_of, head_of, residual_of, Linked, Rooted, Told}
use Rattle.search.specs.Sweeps.{Small, Low, offer, Offered, Forest, Closing, Raised, Found}
use Rattle.search.specs.Passes.{Went, Swept, Passed}
use Rattle.search.specs.Searches.{Same, Growing, RisesAlong, Finds}
use Rattle.search.specs.declared.sweep.Search.{Search}
use Rattle.worth.specs.Kinds.{Ops}
use Rattle.search.proofs.Steps.{has_arc}
use Rattle.search.proofs.Forests.{tail_in, head_in, step_small, forest_linked, forest_rooted, way_short, under, closes, grown, set_low}

-- a step's head raised
module _ {W : Type 0} (G : Kind W) {s : Search W} {b : ℕ} (grows : Growing G.ops b s) where
  abbrev ls : List Arc
  ls = s.net.arcs.now

  linked : Linked ls s.links.now
  linked = forest_linked G s.net.nodes ls s.potentials.now s.links.now grows.forest

  -- a step that can take something
  module _ (t : Step) (can : 0 < residual_of ls t) where
    known : arc t < length ls
    known = has_arc ls t can

    pub to_node : head_of ls t < s.net.nodes
    to_node = head_in G s.net.nodes ls grows.forest.sound t known

    from_node : tail_of ls t < s.net.nodes
    from_node = tail_in G s.net.nodes ls grows.forest.sound t known

    -- from its tail there is a way up
    pub rooted : Rooted ls s.links.now (tail_of ls t)
    rooted = forest_rooted G s.net.nodes ls s.potentials.now s.links.now grows.forest (tail_of ls t) from_node

  -- a step that offers more than there is
  module _ (t : Step) {o : W} (offered : Offered G.ops s.net.nodes ls s.potentials.now t (Some o)) where
    more : Lt G.ops (potential G.ops s.potentials.now (head_of ls t)) (offer G.ops s.net.nodes ls s.potentials.now t)
    more = subst (Lt G.ops (potential G.ops s.potentials.now (head_of ls t))) offered.1 offered.2

    -- whether its head is on its own way up
    module _ {from to : ℕ} (from-is : from ≡ tail_of ls t) (to-is : to ≡ head_of ls t) {r : Bool} (told : Told ls s.links.now from to r) where
      told_here : Told ls s.links.now (tail_of ls t) (head_of ls t) r
      told_here = subst₂ (λ v x. Told ls s.links.now v x r) from-is to-is told

      pub closed : r ≡ true → Closing G.ops s.net.nodes ls s.links.now t
      closed e =
          let up = rooted t offered.0 in
          let q = up.0 in
          let c = closes G s.net.nodes ls s.potentials.now s.links.now grows.forest t (known t offered.0, offered.0) more q (rooted t offered.0).1 (λ fresh. true≢false (sym e ∙ (told_here q (rooted t offered.0).1).1 fresh)) in
          record { linked = linked; known = known t offered.0; trail = c.trail; climbs = c.climbs; short = let p = c.short in let h = way_short G s.net.nodes ls s.potentials.now s.links.now grows.forest (tail_of ls t) q (tail_in G s.net.nodes ls grows.forest.sound t (known t offered.0)) (rooted t offered.0).1 in omega arith; gainful = c.gainful }

      pub raised : r ≡ false → Raised G.ops s.net.nodes ls s.potentials.now s.links.now (set s.potentials.now to o) (set s.links.now to (Some t)) t (Continue tt)
      raised e =
          let xs-set = ap₂ (set s.potentials.now) to-is offered.1 in
          let ks-set = ap (λ v. set s.links.now v (Some t)) to-is in
          (more, xs-set, ks-set, subst₂ (Forest G.ops s.net.nodes ls) (sym xs-set) (sym ks-set) (grown G s.net.nodes ls s.potentials.now s.links.now grows.forest t (known t offered.0, offered.0) more (rooted t offered.0).0 (rooted t offered.0).1 ((told_here (rooted t offered.0).0 (rooted t offered.0).1).0 e)))

-- the step the other way along the same arc
abbrev back : Step → Step
back (Forward i) = Backward i
back (Backward i) = Forward i

back_tail : (bs : List Arc) (t : Step) → tail_of bs (back t) ≡ head_of bs t
back_tail bs (Forward i) = refl
back_tail bs (Backward i) = refl

back_head : (bs : List Arc) (t : Step) → head_of bs (back t) ≡ tail_of bs t
back_head bs (Forward i) = refl
back_head bs (Backward i) = refl

-- two steps along one arc are one step, or one the other back
same_or_back : (s t : Step) → arc s ≡ arc t → (s ≡ t) ⊎ (s ≡ back t)
same_or_back (Forward i) (Forward j) e = inl (ap Forward e)
same_or_back (Forward i) (Backward j) e = inr (ap Forward e)
same_or_back (Backward i) (Forward j) e = inr (ap Backward e)
same_or_back (Backward i) (Backward j) e = inl (ap Backward e)

module _ {W : Type 0} (G : Kind W) (n : ℕ) (ls : List Arc) where
  abbrev N : Graph W
  N = net G.ops n ls

  -- there and back counts none
  there_and_back : (x : W) (t : Step) → G.ops.plus (G.ops.plus x (step_worth G.ops N t)) (step_worth G.ops N (back t)) ≡ x
  there_and_back x (Forward i) = G.laws.assoc x (N.unit i) (G.ops.neg (N.unit i)) ∙ ap (G.ops.plus x) (G.laws.inverse (N.unit i)) ∙ unit_right G x
  there_and_back x (Backward i) = redo G x (N.unit i)

  -- where a step offers more than there is at its head, the step back offers less than there is at its tail
  back_offers : (xs : List W) (t : Step) → Lt G.ops (potential G.ops xs (head_of ls t)) (offer G.ops n ls xs t) → Le G.ops (offer G.ops n ls xs (back t)) (potential G.ops xs (head_of ls (back t)))
  back_offers xs t more = subst₂ (λ v x. Le G.ops (G.ops.plus (potential G.ops xs v) (step_worth G.ops N (back t))) x) (sym (back_tail ls t)) (there_and_back (potential G.ops xs (tail_of ls t)) t ∙ ap (potential G.ops xs) (sym (back_head ls t))) (le_right G (potential G.ops xs (head_of ls t)) (offer G.ops n ls xs t) (step_worth G.ops N (back t)) (lt_le G (potential G.ops xs (head_of ls t)) (offer G.ops n ls xs t) more))

  module _ {first k : ℕ} {xs xs₁ : List W} {ks ks₁ : List (Option Step)} {moved : Bool} (w : Swept G.ops n ls first k xs ks xs₁ ks₁ moved) where
    -- what a step offered at first is no more than what it offers now
    lifts : (s : Step) → Open N (flow_of ls) s → Le G.ops (offer G.ops n ls xs s) (offer G.ops n ls xs₁ s)
    lifts s p = le_right G (potential G.ops xs (tail_of ls s)) (potential G.ops xs₁ (tail_of ls s)) (step_worth G.ops N s) (w.up (tail_of ls s) (tail_in G n ls w.went.forest.sound s p.0))

    -- neither step along arc k offers more
    pub waits : ((s : Step) → arc s ≡ k → 0 < residual_of ls s → Le G.ops (offer G.ops n ls xs₁ s) (potential G.ops xs₁ (head_of ls s))) → Swept G.ops n ls first (k + 1) xs ks xs₁ ks₁ moved
    waits settled = record {
      went = record { forest = w.went.forest; sizes = λ b h v. let q = w.went.sizes b h v in omega arith };
      low = w.low;
      up = w.up;
      done = λ s p f h. ⊎_elim (λ e. le_trans G (offer G.ops n ls xs s) (offer G.ops n ls xs₁ s) (potential G.ops xs₁ (head_of ls s)) (lifts s p) (settled s e p.1)) (λ d. w.done s p f (omega arith)) (cases_eq (arc s) k);
      rose = w.rose;
      same = w.same;
    }

    -- or one does, and its head is raised
    module _ {xs₂ : List W} {ks₂ : List (Option Step)} (t : Step) (along : arc t ≡ k) (known : k < length ls) (o : Raised G.ops n ls xs₁ ks₁ xs₂ ks₂ t (Continue tt)) where
      abbrev v : ℕ
      v = head_of ls t

      v_in : v < n
      v_in = head_in G n ls w.went.forest.sound t (omega arith)

      at_v : potential G.ops xs₂ v ≡ offer G.ops n ls xs₁ t
      at_v = ap (λ ys. potential G.ops ys v) o.1 ∙ get_or-set_same xs₁ v (offer G.ops n ls xs₁ t) G.ops.none (let a = v_in in let b = w.went.forest.potentials_long in omega arith)

      off_v : (x : ℕ) → (x ≡ v → ⊥) → potential G.ops xs₂ x ≡ potential G.ops xs₁ x
      off_v x d = ap (λ ys. potential G.ops ys x) o.1 ∙ get_or-set_other xs₁ v x (offer G.ops n ls xs₁ t) G.ops.none d

      higher : (x : ℕ) → Le G.ops (potential G.ops xs₁ x) (potential G.ops xs₂ x)
      higher x = ⊎_elim (λ e. subst (λ y. Le G.ops (potential G.ops xs₁ y) (potential G.ops xs₂ y)) (sym e) (subst (Le G.ops (potential G.ops xs₁ v)) (sym at_v) (lt_le G (potential G.ops xs₁ v) (offer G.ops n ls xs₁ t) o.0))) (λ d. le_eq G (potential G.ops xs₁ x) (potential G.ops xs₂ x) (sym (off_v x d))) (cases_eq x v)

      at_links : v < length ks₁
      at_links = let a = v_in in let b = w.went.forest.links_long in omega arith

      sizes : (b : ℕ) → Small G.ops b xs → Small G.ops (b + (k + 1)) xs₂
      sizes b h x = ⊎_elim (λ e. omega (arith, ap G.ops.size (ap (potential G.ops xs₂) e ∙ at_v), G.laws.size_plus (potential G.ops xs₁ (tail_of ls t)) (step_worth G.ops N t), w.went.sizes b h (tail_of ls t), step_small G n ls w.went.forest.sound t)) (λ d. omega (arith, ap G.ops.size (off_v x d), w.went.sizes b h x)) (cases_eq x v)

      -- then neither step along the arc offers more than there is
      here : (s : Step) → arc s ≡ k → Le G.ops (offer G.ops n ls xs₁ s) (potential G.ops xs₂ (head_of ls s))
      here s e = ⊎_elim
          (λ is. subst (λ r. Le G.ops (offer G.ops n ls xs₁ r) (potential G.ops xs₂ (head_of ls r))) (sym is) (le_eq G (offer G.ops n ls xs₁ t) (potential G.ops xs₂ v) (sym at_v)))
          (λ is. subst (λ r. Le G.ops (offer G.ops n ls xs₁ r) (potential G.ops xs₂ (head_of ls r))) (sym is) (le_trans G (offer G.ops n ls xs₁ (back t)) (potential G.ops xs₁ (head_of ls (back t))) (potential G.ops xs₂ (head_of ls (back t))) (back_offers xs₁ t o.0) (higher (head_of ls (back t)))))
          (same_or_back s t (e ∙ sym along))

      done : (s : Step) → Open N (flow_of ls) s → first ≤ arc s → arc s < k + 1 → Le G.ops (offer G.ops n ls xs s) (potential G.ops xs₂ (head_of ls s))
      done s p f h = ⊎_elim
          (λ e. le_trans G (offer G.ops n ls xs s) (offer G.ops n ls xs₁ s) (potential G.ops xs₂ (head_of ls s)) (lifts s p) (here s e))
          (λ d. le_trans G (offer G.ops n ls xs s) (potential G.ops xs₁ (head_of ls s)) (potential G.ops xs₂ (head_of ls s)) (w.done s p f (omega arith)) (higher (head_of ls s)))
          (cases_eq (arc s) k)

      pub goes_on : Swept G.ops n ls first (k + 1) xs ks xs₂ ks₂ true
      goes_on = record {
        went = record { forest = o.3; sizes = sizes };
        low = λ h. subst₂ (Low G.ops) (sym o.1) (sym o.2) (set_low G xs₁ ks₁ v (offer G.ops n ls xs₁ t) t at_links (w.low h));
        up = λ x l. le_trans G (potential G.ops xs x) (potential G.ops xs₁ x) (potential G.ops xs₂ x) (w.up x l) (higher x);
        done = done;
        rose = λ e. (v, v_in, le_lt_trans G (potential G.ops xs v) (potential G.ops xs₁ v) (potential G.ops xs₂ v) (w.up v v_in) (subst (Lt G.ops (potential G.ops xs₁ v)) (sym at_v) o.0));
        same = λ e. absurd (true≢false e);
      }

    pub stops : {xs₂ : List W} {ks₂ : List (Option Step)} (t x : Step) → k ≤ length ls → Raised G.ops n ls xs₁ ks₁ xs₂ ks₂ t (Break x) → Passed G.ops n ls first xs ks xs₂ ks₂ (Break x)
    stops t x few o = (subst₂ (λ ys js. Went G.ops n ls xs ys js (length ls)) (sym o.2) (sym o.3) (record { forest = w.went.forest; sizes = λ b h v. let q = w.went.sizes b h v in omega arith }), o.1)

  -- where a pass over all arcs raises nothing, the potentials fit
  pub still_fits : {xs xs' : List W} {ks ks' : List (Option Step)} → Swept G.ops n ls 0 (length ls) xs ks xs' ks' false → Fits G.ops N (potential G.ops xs') (flow_of ls)
  still_fits {xs} {xs'} w = fits_from G N (flow_of ls) (potential G.ops xs') (λ s p. subst (λ ys. Le G.ops (offer G.ops n ls ys s) (potential G.ops xs' (head_of ls s))) (sym (w.same refl)) (w.done s p (omega arith) p.0))

  -- after k passes over all arcs that all raised something: the potentials are at least the greatest worths of walks of k steps,
  -- and there are fewer passes than nodes
  pub record Sweeping (xs : List W) (ks : List (Option Step)) (k : ℕ) : Type 0 where
    pub forest : Forest G.ops n ls xs ks
    pub low : Low G.ops xs ks
    pub above : (v : ℕ) → v < n → Le G.ops (reach G N (flow_of ls) k v) (potential G.ops xs v)
    pub early : 0 < n → k < n
    pub sizes : Small G.ops (448 * k) xs

  pub moved_on : (xs xs' : List W) (ks ks' : List (Option Step)) (k : ℕ) → length ls ≤ 448 → Sweeping xs ks k → Swept G.ops n ls 0 (length ls) xs ks xs' ks' true → Sweeping xs' ks' (k + 1)
  moved_on xs xs' ks ks' k few r w = record {
    forest = w.went.forest;
    low = w.low r.low;
    above = λ v l. subst (λ j. Le G.ops (reach G N (flow_of ls) j v) (potential G.ops xs' v)) more (sweep_above G N (flow_of ls) sound k (potential G.ops xs) (potential G.ops xs') r.above w.up (λ s p. w.done s p (omega arith) p.0) v l);
    early = λ h. ⊎_elim (λ l. l) (λ l. absurd (late l)) (cases_lt (k + 1) n);
    sizes = λ v. let q = w.went.sizes (448 * k) r.sizes v in omega arith;
  }
    where
      sound : Sound N
      sound = record { frm_in = λ i l. (r.forest.sound i l).from_in; to_in = λ i l. (r.forest.sound i l).to_in }

      more : suc k ≡ k + 1
      more = omega arith

      late : n ≤ k + 1 → ⊥
      late h =
          let z = w.rose refl in
          let v = z.0 in
          le_lt_absurd G (potential G.ops xs' v) (potential G.ops xs v) (le_trans G (potential G.ops xs' v) (reach G N (flow_of ls) k v) (potential G.ops xs v) (under G n ls xs' ks' w.went.forest (w.low r.low) k v (omega arith) z.1) (r.above v z.1)) z.2

same_on : {W : Type 0} {s t u : Search W} → Same s t → Same t u → Same s u
same_on a b = record { net = b.net ∙ a.net; held = b.held ∙ a.held; linked = b.linked ∙ a.linked; row = b.row ∙ a.row }

-- the search t has come from s over the arcs numbered from `first` on and below k
pub record SweptTo {W : Type 0} (o : Ops W) (s t : Search W) (moved : Bool) (first k : ℕ) : Type 0 where
  pub same : Same s t
  pub known : k ≤ length s.net.arcs.now
  pub swept : Swept o s.net.nodes s.net.arcs.now first k s.potentials.now s.links.now t.potentials.now t.links.now moved

module _ {W : Type 0} (G : Kind W) {s t : Search W} {moved : Bool} {first k : ℕ} (w : SweptTo G.ops s t moved first k) where
  pub may_go : Growing G.ops 999000 s → Growing G.ops 1000000 t
  may_go r = record { forest = subst (λ n. Forest G.ops n.nodes n.arcs.now t.potentials.now t.links.now) (sym w.same.net) w.swept.went.forest; small = λ v. let z = w.swept.went.sizes 999000 r.small v in let few = s.net.sound.few_arcs in let h = w.known in omega arith }

  pub arc_waits : k < length s.net.arcs.now → RisesAlong G.ops t k None → {k' : ℕ} → k' ≡ k + 1 → SweptTo G.ops s t moved first k'
  arc_waits l none next = record {
    same = w.same;
    known = omega arith;
    swept = subst (λ j. Swept G.ops s.net.nodes s.net.arcs.now first j s.potentials.now s.links.now t.potentials.now t.links.now moved) (sym next) (waits G s.net.nodes s.net.arcs.now w.swept settled);
  }
    where
      settled : (r : Step) → arc r ≡ k → 0 < residual_of s.net.arcs.now r → Le G.ops (offer G.ops s.net.nodes s.net.arcs.now t.potentials.now r) (potential G.ops t.potentials.now (head_of s.net.arcs.now r))
      settled = subst (λ n. (r : Step) → arc r ≡ k → 0 < residual_of n.arcs.now r → Le G.ops (offer G.ops n.nodes n.arcs.now t.potentials.now r) (potential G.ops t.potentials.now (head_of n.arcs.now r))) w.same.net both
        where
          both : (r : Step) → arc r ≡ k → 0 < residual_of t.net.arcs.now r → Le G.ops (offer G.ops t.net.nodes t.net.arcs.now t.potentials.now r) (potential G.ops t.potentials.now (head_of t.net.arcs.now r))
          both (Forward i) e = subst (λ j. Offered G.ops t.net.nodes t.net.arcs.now t.potentials.now (Forward j) None) (sym e) none.0
          both (Backward i) e = subst (λ j. Offered G.ops t.net.nodes t.net.arcs.now t.potentials.now (Backward j) None) (sym e) none.1

  module _ {u : Search W} (same : Same t u) (step : Step) where
    pub arc_goes : arc step ≡ k → k < length s.net.arcs.now → Raised G.ops t.net.nodes t.net.arcs.now t.potentials.now t.links.now u.potentials.now u.links.now step (Continue tt) → {k' : ℕ} → k' ≡ k + 1 → SweptTo G.ops s u true first k'
    arc_goes along l o next = record {
      same = same_on w.same same;
      known = omega arith;
      swept = subst (λ j. Swept G.ops s.net.nodes s.net.arcs.now first j s.potentials.now s.links.now u.potentials.now u.links.now true) (sym next) (goes_on G s.net.nodes s.net.arcs.now w.swept step along l (subst (λ n. Raised G.ops n.nodes n.arcs.now t.potentials.now t.links.now u.potentials.now u.links.now step (Continue tt)) w.same.net o));
    }

    pub arc_closes : (x : Step) → Raised G.ops t.net.nodes t.net.arcs.now t.potentials.now t.links.now u.potentials.now u.links.now step (Break x) → Passed G.ops s.net.nodes s.net.arcs.now first s.potentials.now s.links.now u.potentials.now u.links.now (Break x)
    arc_closes x o = stops G s.net.nodes s.net.arcs.now w.swept step x w.known (subst (λ n. Raised G.ops n.nodes n.arcs.now t.potentials.now t.links.now u.potentials.now u.links.now step (Break x)) w.same.net o)

  pub pass_done : length s.net.arcs.now ≤ k → Passed G.ops s.net.nodes s.net.arcs.now first s.potentials.now s.links.now t.potentials.now t.links.now (Continue moved)
  pass_done all = subst (λ j. Swept G.ops s.net.nodes s.net.arcs.now first j s.potentials.now s.links.now t.potentials.now t.links.now moved) (let h = w.known in omega arith) w.swept

-- the search t has come from s by k passes over all arcs that all raised something
pub record SearchedTo {W : Type 0} (G : Kind W) (s t : Search W) (k : ℕ) : Type 0 where
  pub same : Same s t
  pub sweeping : Sweeping G s.net.nodes s.net.arcs.now t.potentials.now t.links.now k

module _ {W : Type 0} (G : Kind W) {s t : Search W} {k : ℕ} (w : SearchedTo G s t k) {u : Search W} (same : Same t u) {r : Bool} where
  passed_there : Passed G.ops t.net.nodes t.net.arcs.now 0 t.potentials.now t.links.now u.potentials.now u.links.now (Continue r) → Swept G.ops s.net.nodes s.net.arcs.now 0 (length s.net.arcs.now) t.potentials.now t.links.now u.potentials.now u.links.now r
  passed_there p = subst (λ n. Passed G.ops n.nodes n.arcs.now 0 t.potentials.now t.links.now u.potentials.now u.links.now (Continue r)) w.same.net p

  pub searched_on : r ≡ true → Passed G.ops t.net.nodes t.net.arcs.now 0 t.potentials.now t.links.now u.potentials.now u.links.now (Continue r) → SearchedTo G s u (k + 1)
  searched_on rose p = record {
    same = same_on w.same same;
    sweeping = moved_on G s.net.nodes s.net.arcs.now t.potentials.now u.potentials.now t.links.now u.links.now k s.net.sound.few_arcs w.sweeping (subst (Swept G.ops s.net.nodes s.net.arcs.now 0 (length s.net.arcs.now) t.potentials.now t.links.now u.potentials.now u.links.now) rose (passed_there p));
  }

  pub search_ends : r ≡ false → k < s.net.nodes → Passed G.ops t.net.nodes t.net.arcs.now 0 t.potentials.now t.links.now u.potentials.now u.links.now (Continue r) → Finds G.ops u None
  search_ends still l p = subst (λ n. Found G.ops n.nodes n.arcs.now u.potentials.now u.links.now None) (sym (same_on w.same same).net) (still_fits G s.net.nodes s.net.arcs.now z, λ v. let few = s.net.sound.few_arcs in let nodes = s.net.sound.few_nodes in let q = z.went.sizes (448 * k) w.sweeping.sizes v in omega arith)
    where
      z : Swept G.ops s.net.nodes s.net.arcs.now 0 (length s.net.arcs.now) t.potentials.now t.links.now u.potentials.now u.links.now false
      z = subst (Swept G.ops s.net.nodes s.net.arcs.now 0 (length s.net.arcs.now) t.potentials.now t.links.now u.potentials.now u.links.now) still (passed_there p)
