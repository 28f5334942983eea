-- The greatest worth of a walk of at most k steps. Where one step more raises it nowhere, these worths are potentials that fit;
-- where as many steps as there are nodes still raise it, some cycle is worth more than none.
use Rattle.std.proofs.Common.{◌≡◌, ℕ, zero, suc, ◌+◌, ◌-◌, ◌<◌, ◌≤◌, Bool, true, false, cond, ◌&&◌, eqb, ltb, ◌⊎◌, List, [], ◌∷◌, ◌++◌, length, sym, refl, ap, ◌∙◌, subst, ap₂, subst₂, inl, inr, ⊎_elim, arith}
use Rattle.std.proofs.lemmas.Bool.{cases_lt, cases_eq, and_parts, and_from, eqb-true, eq-eqb, cond-true, lt-ltb, ltb-true}
use Rattle.std.proofs.lemmas.List.{length_push}
use Rattle.flow.specs.Groups.{Kind, Lt, Le}
use Rattle.flow.specs.Graphs.{Graph, Sound, Fits}
use Rattle.flow.specs.Steps.{start, stop, arc, residual, Open, Walk, step_worth, gain, Gainful}
use Rattle.flow.specs.declared.step.Step.{Step}
use Rattle.flow.specs.declared.step.Step.TheVariants.{Forward, Backward}
use Rattle.flow.proofs.Group.{shift, unit_right, redo, lt_le, le_eq, le_trans, le_right, le_lt_trans, le_lt_absurd, lt_or_le}
use Rattle.flow.proofs.Cuts.{Cut, cut_long, start_in}

module _ {W : Type 0} (G : Kind W) where
  -- the larger of two worths
  abbrev larger : W → W → W
  larger a b = cond (G.ops.less a b) b a

  larger_left : (a b : W) → Le G.ops a (larger a b)
  larger_left a b = go (G.ops.less a b) refl
    where
      go : (t : Bool) → G.ops.less a b ≡ t → Le G.ops a (cond t b a)
      go true e = lt_le G a b e
      go false e = G.laws.irreflexive a

  larger_right : (a b : W) → Le G.ops b (larger a b)
  larger_right a b = go (G.ops.less a b) refl
    where
      go : (t : Bool) → G.ops.less a b ≡ t → Le G.ops b (cond t b a)
      go true e = G.laws.irreflexive b
      go false e = e

  larger_is : (a b : W) → (larger a b ≡ a) ⊎ (larger a b ≡ b)
  larger_is a b = go (G.ops.less a b)
    where
      go : (t : Bool) → (cond t b a ≡ a) ⊎ (cond t b a ≡ b)
      go true = inr refl
      go false = inl refl

module _ {W : Type 0} (G : Kind W) (N : Graph W) (u : ℕ → ℕ) where
  -- what a step offers to the node that it leads to
  abbrev pub offer : (ℕ → W) → Step → W
  offer L s = G.ops.plus (L (start N s)) (step_worth G.ops N s)

  -- the larger of a and of what step s offers to node v, if it is open and leads there
  abbrev try : (ℕ → W) → ℕ → Step → W → W
  try L v s a = cond (ltb 0 (residual N u s) && eqb (stop N s) v) (larger G a (offer L s)) a

  -- the largest of a and of what the steps of the first n arcs offer to node v
  abbrev among : (ℕ → W) → ℕ → W → ℕ → W
  among L v a zero = a
  among L v a (suc n) = try L v (Forward n) (try L v (Backward n) (among L v a n))

  -- the greatest worth of a walk of at most k steps that ends in node v
  abbrev pub reach : ℕ → ℕ → W
  reach zero v = G.ops.none
  reach (suc k) v = among (reach k) v (reach k v) N.arcs

  -- a is what some open step of the first m arcs offers to node v
  record Into (L : ℕ → W) (v m : ℕ) (a : W) : Type 0 where
    step : Step
    here : arc step < m
    goes : 0 < residual N u step
    ends : stop N step ≡ v
    is : a ≡ offer L step

  try_keeps : (L : ℕ → W) (v : ℕ) (s : Step) (a : W) → Le G.ops a (try L v s a)
  try_keeps L v s a = go (ltb 0 (residual N u s) && eqb (stop N s) v)
    where
      go : (t : Bool) → Le G.ops a (cond t (larger G a (offer L s)) a)
      go true = larger_left G a (offer L s)
      go false = G.laws.irreflexive a

  try_takes : (L : ℕ → W) (v : ℕ) (s : Step) (a : W) → 0 < residual N u s → stop N s ≡ v → Le G.ops (offer L s) (try L v s a)
  try_takes L v s a o e = subst (Le G.ops (offer L s)) (sym (cond-true (ltb 0 (residual N u s) && eqb (stop N s) v) (larger G a (offer L s)) a (and_from (ltb 0 (residual N u s)) (eqb (stop N s) v) (lt-ltb 0 (residual N u s) o) (eq-eqb (stop N s) v e)))) (larger_right G a (offer L s))

  try_is : (L : ℕ → W) (v m : ℕ) (s : Step) (a : W) → arc s < m → (try L v s a ≡ a) ⊎ Into L v m (try L v s a)
  try_is L v m s a h = go (ltb 0 (residual N u s) && eqb (stop N s) v) refl
    where
      go : (t : Bool) → (ltb 0 (residual N u s) && eqb (stop N s) v) ≡ t → (cond t (larger G a (offer L s)) a ≡ a) ⊎ Into L v m (cond t (larger G a (offer L s)) a)
      go true e =
          let both = and_parts (ltb 0 (residual N u s)) (eqb (stop N s) v) e in
          ⊎_elim inl (λ i. inr (record { step = s; here = h; goes = ltb-true 0 (residual N u s) both.0; ends = eqb-true (stop N s) v both.1; is = i })) (larger_is G a (offer L s))
      go false e = inl refl

  -- both steps of arc n only raise what the arcs before it gave
  arc_keeps : (L : ℕ → W) (v n : ℕ) (b : W) → Le G.ops b (try L v (Forward n) (try L v (Backward n) b))
  arc_keeps L v n b =
      let c = try L v (Backward n) b in
      le_trans G b c (try L v (Forward n) c) (try_keeps L v (Backward n) b) (try_keeps L v (Forward n) c)

  among_keeps : (L : ℕ → W) (v : ℕ) (a : W) (n : ℕ) → Le G.ops a (among L v a n)
  among_keeps L v a zero = G.laws.irreflexive a
  among_keeps L v a (suc n) = le_trans G a (among L v a n) (among L v a (suc n)) (among_keeps L v a n) (arc_keeps L v n (among L v a n))

  among_takes : (L : ℕ → W) (v : ℕ) (a : W) (n : ℕ) (s : Step) → arc s < n → 0 < residual N u s → stop N s ≡ v → Le G.ops (offer L s) (among L v a n)
  among_takes L v a zero s h o e = absurd (omega arith)
  among_takes L v a (suc n) s h o e = ⊎_elim (λ same. here s same o e) (λ other. le_trans G (offer L s) b (among L v a (suc n)) (among_takes L v a n s (omega arith) o e) (arc_keeps L v n b)) (cases_eq (arc s) n)
    where
      b : W
      b = among L v a n

      c : W
      c = try L v (Backward n) b

      here : (s : Step) → arc s ≡ n → 0 < residual N u s → stop N s ≡ v → Le G.ops (offer L s) (try L v (Forward n) c)
      here (Forward i) same o e = subst (λ j. Le G.ops (offer L (Forward i)) (try L v (Forward j) c)) same (try_takes L v (Forward i) c o e)
      here (Backward i) same o e = le_trans G (offer L (Backward i)) c (try L v (Forward n) c) (subst (λ j. Le G.ops (offer L (Backward i)) (try L v (Backward j) b)) same (try_takes L v (Backward i) b o e)) (try_keeps L v (Forward n) c)

  into_more : (L : ℕ → W) (v m n : ℕ) (a b : W) → n ≤ m → a ≡ b → Into L v n b → Into L v m a
  into_more L v m n a b l e r = record { step = r.step; here = let h = r.here in omega arith; goes = r.goes; ends = r.ends; is = e ∙ r.is }

  among_is : (L : ℕ → W) (v : ℕ) (a : W) (n : ℕ) → (among L v a n ≡ a) ⊎ Into L v n (among L v a n)
  among_is L v a zero = inl refl
  among_is L v a (suc n) =
      let b = among L v a n in
      let c = try L v (Backward n) b in
      let d = try L v (Forward n) c in
      ⊎_elim (λ e. ⊎_elim (λ f. ⊎_elim (λ g. inl (e ∙ f ∙ g)) (λ r. inr (into_more L v (suc n) n d b (omega arith) (e ∙ f) r)) (among_is L v a n)) (λ r. inr (into_more L v (suc n) (suc n) d c (omega arith) e r)) (try_is L v (suc n) (Backward n) b (omega arith))) inr (try_is L v (suc n) (Forward n) c (omega arith))

  reach_rises : (k v : ℕ) → Le G.ops (reach k v) (reach (suc k) v)
  reach_rises k v = among_keeps (reach k) v (reach k v) N.arcs

  reach_more : (d k v : ℕ) → Le G.ops (reach k v) (reach (k + d) v)
  reach_more zero k v = le_eq G (reach k v) (reach (k + 0) v) (ap (λ j. reach j v) (omega arith))
  reach_more (suc d) k v =
      let e : suc (k + d) ≡ k + suc d = omega arith in
      subst (λ j. Le G.ops (reach k v) (reach j v)) e (le_trans G (reach k v) (reach (k + d) v) (reach (suc (k + d)) v) (reach_more d k v) (reach_rises (k + d) v))

  reach_le : (j k v : ℕ) → j ≤ k → Le G.ops (reach j v) (reach k v)
  reach_le j k v h =
      let e : j + (k - j) ≡ k = omega arith in
      subst (λ t. Le G.ops (reach j v) (reach t v)) e (reach_more (k - j) j v)

  reach_step : (k : ℕ) (s : Step) → Open N u s → Le G.ops (offer (reach k) s) (reach (suc k) (stop N s))
  reach_step k s o = among_takes (reach k) (stop N s) (reach k (stop N s)) N.arcs s o.0 o.1 refl

  -- going on from a walk of k steps
  walk_on : (k a : ℕ) (p : List Step) (b : ℕ) → Walk N u a p b → Le G.ops (G.ops.plus (reach k a) (gain G.ops N p)) (reach (k + length p) b)
  walk_on k a [] b w =
      let e : k ≡ k + 0 = omega arith in
      le_eq G (G.ops.plus (reach k a) G.ops.none) (reach (k + 0) b) (unit_right G (reach k a) ∙ ap₂ reach e w)
  walk_on k a (s ∷ p) b w =
      let e : suc k + length p ≡ k + suc (length p) = omega arith in
      let x = G.ops.plus (reach k a) (step_worth G.ops N s) in
      let y = reach (suc k) (stop N s) in
      let g = gain G.ops N p in
      let one : Le G.ops x y = subst (λ v. Le G.ops (G.ops.plus (reach k v) (step_worth G.ops N s)) y) w.0 (reach_step k s w.1) in
      subst₂ (λ t j. Le G.ops t (reach j b)) (G.laws.assoc (reach k a) (step_worth G.ops N s) g) e
      (le_trans G (G.ops.plus x g) (G.ops.plus y g) (reach (suc k + length p) b) (le_right G x y g one) (walk_on (suc k) (stop N s) p b w.2))

  -- no walk of at most k steps is worth more than the reach at its end
  pub walk_under : (k a : ℕ) (p : List Step) (b : ℕ) → Walk N u a p b → length p ≤ k → Le G.ops (gain G.ops N p) (reach k b)
  walk_under k a p b w h =
      let e : 0 + length p ≡ length p = omega arith in
      le_trans G (gain G.ops N p) (reach (length p) b) (reach k b) (subst₂ (λ x j. Le G.ops x (reach j b)) (G.laws.neutral (gain G.ops N p)) e (walk_on 0 a p b w)) (reach_le (length p) k b h)

  walk_push : (a : ℕ) (p : List Step) (b : ℕ) (s : Step) → Walk N u a p b → Open N u s → start N s ≡ b → Walk N u a (p ++ s ∷ []) (stop N s)
  walk_push a [] b s w o e = (e ∙ sym w, o, refl)
  walk_push a (t ∷ p) b s w o e = (w.0, w.1, walk_push (stop N t) p b s w.2 o e)

  gain_push : (p : List Step) (s : Step) → gain G.ops N (p ++ s ∷ []) ≡ G.ops.plus (gain G.ops N p) (step_worth G.ops N s)
  gain_push [] s = G.laws.comm (step_worth G.ops N s) G.ops.none
  gain_push (t ∷ p) s = ap (G.ops.plus (step_worth G.ops N t)) (gain_push p s) ∙ sym (G.laws.assoc (step_worth G.ops N t) (gain G.ops N p) (step_worth G.ops N s))

  -- a walk of at most k steps that is worth the reach
  record Attained (k v : ℕ) : Type 0 where
    source : ℕ
    walk : List Step
    walks : Walk N u source walk v
    short : length walk ≤ k
    is : gain G.ops N walk ≡ reach k v

  attained : (k v : ℕ) → Attained k v
  attained zero v = record { source = v; walk = []; walks = refl; short = omega arith; is = refl }
  attained (suc k) v = ⊎_elim (λ e. same e (attained k v)) (λ r. more r (attained k (start N r.step))) (among_is (reach k) v (reach k v) N.arcs)
    where
      same : reach (suc k) v ≡ reach k v → Attained k v → Attained (suc k) v
      same e t = record { source = t.source; walk = t.walk; walks = t.walks; short = let h = t.short in omega arith; is = t.is ∙ sym e }

      more : (r : Into (reach k) v N.arcs (reach (suc k) v)) → Attained k (start N r.step) → Attained (suc k) v
      more r t = record {
        source = t.source;
        walk = t.walk ++ r.step ∷ [];
        walks = subst (Walk N u t.source (t.walk ++ r.step ∷ [])) r.ends (walk_push t.source t.walk (start N r.step) r.step t.walks (r.here, r.goes) refl);
        short = let h = t.short in let e = length_push t.walk r.step in omega arith;
        is = gain_push t.walk r.step ∙ ap (λ x. G.ops.plus x (step_worth G.ops N r.step)) t.is ∙ sym r.is;
      }

  -- a sweep in place lets no potential fall and makes up for each step; so after k sweeps the potentials are at least the reach
  pub sweep_above : Sound N → (k : ℕ) (L L' : ℕ → W) → ((v : ℕ) → v < N.nodes → Le G.ops (reach k v) (L v)) → ((v : ℕ) → v < N.nodes → Le G.ops (L v) (L' v)) → ((s : Step) → Open N u s → Le G.ops (offer L s) (L' (stop N s))) → (v : ℕ) → v < N.nodes → Le G.ops (reach (suc k) v) (L' v)
  sweep_above z k L L' above up steps v l = ⊎_elim (λ e. subst (λ z. Le G.ops z (L' v)) (sym e) (le_trans G (reach k v) (L v) (L' v) (above v l) (up v l))) more (among_is (reach k) v (reach k v) N.arcs)
    where
      more : Into (reach k) v N.arcs (reach (suc k) v) → Le G.ops (reach (suc k) v) (L' v)
      more r =
          let s = r.step in
          let j = start N s in
          subst₂ (Le G.ops) (sym r.is) (ap L' r.ends) (le_trans G (offer (reach k) s) (offer L s) (L' (stop N s)) (le_right G (reach k j) (L j) (step_worth G.ops N s) (above j (start_in N z s r.here))) (steps s (r.here, r.goes)))

  -- potentials fit where no open step offers more than there is
  pub fits_from : (L : ℕ → W) → ((s : Step) → Open N u s → Le G.ops (offer L s) (L (stop N s))) → Fits G.ops N L u
  fits_from L h i l = (λ r. h (Forward i) (l, omega arith), λ r. subst (λ t. Le G.ops t (G.ops.plus (L (N.frm i)) (N.unit i))) (redo G (L (N.to i)) (N.unit i)) (le_right G (G.ops.plus (L (N.to i)) (G.ops.neg (N.unit i))) (L (N.frm i)) (N.unit i) (h (Backward i) (l, r))))

  reach_fits : Sound N → (k : ℕ) → ((v : ℕ) → v < N.nodes → reach (suc k) v ≡ reach k v) → Fits G.ops N (reach k) u
  reach_fits z k h = fits_from (reach k) (λ s o. subst (Le G.ops (offer (reach k) s)) (h (stop N s) (stop_in s o.0)) (reach_step k s o))
    where
      stop_in : (s : Step) → arc s < N.arcs → stop N s < N.nodes
      stop_in (Forward i) l = z.to_in i l
      stop_in (Backward i) l = z.frm_in i l

  -- a rise at as many steps as there are nodes comes from a cycle
  rise_cycle : Sound N → (k v : ℕ) → N.nodes ≤ suc k → v < N.nodes → Lt G.ops (reach k v) (reach (suc k) v) → (c : List Step) × Gainful G.ops N u c
  rise_cycle z k v h l r = go (attained (suc k) v)
    where
      go : Attained (suc k) v → (c : List Step) × Gainful G.ops N u c
      go t = ⊎_elim (λ few. absurd (le_lt_absurd G (gain G.ops N t.walk) (reach k v) (walk_under k t.source t.walk v t.walks (omega arith)) more)) (λ many. from_cut (cut_long G N u z t.source t.walk v t.walks l many)) (cases_lt (length t.walk) N.nodes)
        where
          more : Lt G.ops (reach k v) (gain G.ops N t.walk)
          more = subst (Lt G.ops (reach k v)) (sym t.is) r

          from_cut : Cut G N u t.source t.walk v → (c : List Step) × Gainful G.ops N u c
          from_cut q =
              let s = q.shorter in
              let b = t.short in
              let under = walk_under k t.source q.left v q.walk (omega arith) in
              let less : Lt G.ops (gain G.ops N q.left) (gain G.ops N t.walk) = le_lt_trans G (gain G.ops N q.left) (reach k v) (gain G.ops N t.walk) under more in
              (q.cycle, record { node = q.node; closed = q.closed; apart = q.apart; gains = positive (gain G.ops N q.cycle) (gain G.ops N q.left) (subst (Lt G.ops (gain G.ops N q.left)) q.gains less) })
            where
              positive : (c p : W) → Lt G.ops p (G.ops.plus c p) → Lt G.ops G.ops.none c
              positive c p h = sym (shift G p G.ops.none c) ∙ subst₂ (Lt G.ops) (sym (unit_right G p)) (G.laws.comm c p) h

  still_or_rises : (k n : ℕ) → n ≤ N.nodes → ((v : ℕ) → v < n → reach (suc k) v ≡ reach k v) ⊎ ((v : ℕ) × (v < N.nodes) × Lt G.ops (reach k v) (reach (suc k) v))
  still_or_rises k zero h = inl (λ v l. absurd (omega arith))
  still_or_rises k (suc n) h = ⊎_elim (λ before. ⊎_elim (λ r. inr (n, h, r)) (λ e. inl (with_last before e)) (lt_or_le G (reach k n) (reach (suc k) n))) inr (still_or_rises k n (omega arith))
    where
      with_last : ((v : ℕ) → v < n → reach (suc k) v ≡ reach k v) → Le G.ops (reach (suc k) n) (reach k n) → (v : ℕ) → v < suc n → reach (suc k) v ≡ reach k v
      with_last before e v l = ⊎_elim (λ same. rw same (G.laws.connected (reach (suc k) n) (reach k n) (reach_rises k n) e)) (λ other. before v (omega arith)) (cases_eq v n)

  -- enough steps give potentials that fit, or a cycle worth more than none
  pub fits_or_cycle : (k : ℕ) → Sound N → N.nodes ≤ suc k → Fits G.ops N (reach k) u ⊎ ((c : List Step) × Gainful G.ops N u c)
  fits_or_cycle k z h = ⊎_elim (λ s. inl (reach_fits z k s)) (λ r. inr (rise_cycle z k r.0 h r.1 r.2)) (still_or_rises k N.nodes (omega arith))

  -- a walk's worth is no larger in size than its steps are many
  gain_small : ((i : ℕ) → i < N.arcs → G.ops.size (N.unit i) ≤ 1) → (a : ℕ) (p : List Step) (b : ℕ) → Walk N u a p b → G.ops.size (gain G.ops N p) ≤ length p
  gain_small h a [] b w = omega (arith, G.laws.size_none)
  gain_small h a (s ∷ p) b w = omega (arith, G.laws.size_plus (step_worth G.ops N s) (gain G.ops N p), step_small s w.1.0, gain_small h (stop N s) p b w.2)
    where
      step_small : (s : Step) → arc s < N.arcs → G.ops.size (step_worth G.ops N s) ≤ 1
      step_small (Forward i) l = h i l
      step_small (Backward i) l = omega (arith, h i l, G.laws.size_neg (N.unit i))

  pub reach_small : ((i : ℕ) → i < N.arcs → G.ops.size (N.unit i) ≤ 1) → (k v : ℕ) → G.ops.size (reach k v) ≤ k
  reach_small h k v =
      let t = attained k v in
      let s = gain_small h t.source t.walk v t.walks in
      let b = t.short in
      let e = ap G.ops.size t.is in
      omega arith
