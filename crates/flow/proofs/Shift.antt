-- Flow shifted along a cycle.
use Rattle.std.proofs.Common.{◌≡◌, ℕ, zero, suc, ◌+◌, ◌-◌, ◌*◌, ◌<◌, ◌≤◌, Bool, true, false, eqb, List, [], ◌∷◌, sym, refl, ap, ◌∙◌, subst, ap₂, ⊎_elim, suc-mul, mul-zero, zero-mul, mul-one, mul-add, arith}
use Rattle.std.proofs.lemmas.Bool.{cases_eq, eq-eqb, ne_eqb}
use Rattle.flow.specs.Groups.{Kind, times, total}
use Rattle.flow.specs.Graphs.{Graph, sum_n, when, coming, going, Circulation, worth}
use Rattle.flow.specs.Steps.{stop, Walk, starts, gain, Fresh, Apart, fore, rear, Shifted, Allows}
use Rattle.flow.specs.declared.step.Step.{Step}
use Rattle.flow.specs.declared.step.Step.TheVariants.{Forward, Backward}
use Rattle.flow.specs.Optimality.{Shifting}
use Rattle.flow.proofs.Group.{unit_right, four, cancel, times_add, times_plus, times_none}
use Rattle.flow.proofs.Sums.{sum_n_same, sum_n_plus, total_same, total_plus, total_one}

-- sums of numbers at one end
when_plus : (b : Bool) (x y : ℕ) → when b (x + y) ≡ when b x + when b y
when_plus true x y = refl
when_plus false x y = refl

when_times : (b : Bool) (d x : ℕ) → when b (d * x) ≡ d * when b x
when_times true d x = refl
when_times false d x = sym (mul-zero d)

sum_n_times : (n d : ℕ) (f : ℕ → ℕ) → sum_n n (λ i. d * f i) ≡ d * sum_n n f
sum_n_times zero d f = sym (mul-zero d)
sum_n_times (suc n) d f = ap (λ t. t + d * f n) (sum_n_times n d f) ∙ sym (mul-add d (sum_n n f) (f n))

pub sum_n_none : (n : ℕ) (g : ℕ → ℕ) → ((i : ℕ) → i < n → g i ≡ 0) → sum_n n g ≡ 0
sum_n_none zero g h = refl
sum_n_none (suc n) g h = omega (arith, sum_n_none n g (λ i l. h i (omega arith)), h n (omega arith))

sum_n_only : (n j : ℕ) (g : ℕ → ℕ) → j < n → ((i : ℕ) → i < n → (j ≡ i → ⊥) → g i ≡ 0) → sum_n n g ≡ g j
sum_n_only zero j g l h = absurd (omega arith)
sum_n_only (suc n) j g l h = ⊎_elim here (λ d. omega (arith, sum_n_only n j g (omega arith) (λ i k e. h i (omega arith) e), h n (omega arith) d)) (cases_eq j n)
  where
    here : j ≡ n → sum_n n g + g n ≡ g j
    here e =
        let z = sum_n_none n g (λ i k. h i (omega arith) (omega arith)) in
        let f = ap g e in
        omega arith

-- the flow at node v, by the end of each arc
at : ℕ → (ℕ → ℕ) → ℕ → (ℕ → ℕ) → ℕ
at m end v y = sum_n m (λ i. when (eqb (end i) v) (y i))

at_same : (m : ℕ) (end : ℕ → ℕ) (v : ℕ) (y z : ℕ → ℕ) → ((i : ℕ) → i < m → y i ≡ z i) → at m end v y ≡ at m end v z
unfolding at
at_same m end v y z h = sum_n_same m (λ i. when (eqb (end i) v) (y i)) (λ i. when (eqb (end i) v) (z i)) (λ i l. ap (when (eqb (end i) v)) (h i l))

at_plus : (m : ℕ) (end : ℕ → ℕ) (v : ℕ) (y z : ℕ → ℕ) → at m end v (λ i. y i + z i) ≡ at m end v y + at m end v z
unfolding at
at_plus m end v y z = sum_n_same m (λ i. when (eqb (end i) v) (y i + z i)) (λ i. when (eqb (end i) v) (y i) + when (eqb (end i) v) (z i)) (λ i l. when_plus (eqb (end i) v) (y i) (z i)) ∙ sum_n_plus m (λ i. when (eqb (end i) v) (y i)) (λ i. when (eqb (end i) v) (z i))

at_times : (m : ℕ) (end : ℕ → ℕ) (v d : ℕ) (y : ℕ → ℕ) → at m end v (λ i. d * y i) ≡ d * at m end v y
unfolding at
at_times m end v d y = sum_n_same m (λ i. when (eqb (end i) v) (d * y i)) (λ i. d * when (eqb (end i) v) (y i)) (λ i l. when_times (eqb (end i) v) d (y i)) ∙ sum_n_times m d (λ i. when (eqb (end i) v) (y i))

at_one : (m : ℕ) (end : ℕ → ℕ) (v j : ℕ) → j < m → at m end v (λ i. when (eqb j i) 1) ≡ when (eqb (end j) v) 1
unfolding at
at_one m end v j l = sum_n_only m j (λ i. when (eqb (end i) v) (when (eqb j i) 1)) l (λ i k d. ap (λ b. when (eqb (end i) v) (when b 1)) (ne_eqb j i d) ∙ flat (eqb (end i) v)) ∙ ap (λ b. when (eqb (end j) v) (when b 1)) (eq-eqb j j refl)
  where
    flat : (b : Bool) → when b 0 ≡ 0
    flat true = refl
    flat false = refl

at_none : (m : ℕ) (end : ℕ → ℕ) (v : ℕ) → at m end v (λ i. 0) ≡ 0
unfolding at
at_none m end v = sum_n_none m (λ i. when (eqb (end i) v) 0) (λ i l. flat (eqb (end i) v))
  where
    flat : (b : Bool) → when b 0 ≡ 0
    flat true = refl
    flat false = refl

at_more : (m : ℕ) (end : ℕ → ℕ) (v j : ℕ) (g : ℕ → ℕ) → j < m → at m end v (λ i. when (eqb j i) 1 + g i) ≡ when (eqb (end j) v) 1 + at m end v g
at_more m end v j g l = at_plus m end v (λ i. when (eqb j i) 1) g ∙ ap (λ t. t + at m end v g) (at_one m end v j l)

at_shifted : (m : ℕ) (end : ℕ → ℕ) (v d : ℕ) (u u' f r : ℕ → ℕ) → ((i : ℕ) → i < m → u' i + d * r i ≡ u i + d * f i) → at m end v u' + d * at m end v r ≡ at m end v u + d * at m end v f
at_shifted m end v d u u' f r h =
    ap (λ t. at m end v u' + t) (sym (at_times m end v d r)) ∙ sym (at_plus m end v u' (λ i. d * r i))
    ∙ at_same m end v (λ i. u' i + d * r i) (λ i. u i + d * f i) h
    ∙ at_plus m end v u (λ i. d * f i) ∙ ap (λ t. at m end v u + t) (at_times m end v d f)

module _ {W : Type 0} (N : Graph W) where
  -- a walk enters each node as often as it leaves it, but for its ends
  balance : (u : ℕ → ℕ) (a : ℕ) (p : List Step) (b v : ℕ) → Walk N u a p b → at N.arcs N.to v (fore p) + at N.arcs N.frm v (rear p) + when (eqb a v) 1 ≡ at N.arcs N.frm v (fore p) + at N.arcs N.to v (rear p) + when (eqb b v) 1
  balance u a [] b v w =
      let x = at_none N.arcs N.to v in
      let y = at_none N.arcs N.frm v in
      let e = ap (λ t. when (eqb t v) 1) w in
      omega arith
  balance u a (Forward j ∷ p) b v w =
      let r = balance u (N.to j) p b v w.2 in
      let x = at_more N.arcs N.to v j (fore p) w.1.0 in
      let y = at_more N.arcs N.frm v j (fore p) w.1.0 in
      let e = ap (λ t. when (eqb t v) 1) w.0 in
      omega arith
  balance u a (Backward j ∷ p) b v w =
      let r = balance u (N.frm j) p b v w.2 in
      let x = at_more N.arcs N.to v j (rear p) w.1.0 in
      let y = at_more N.arcs N.frm v j (rear p) w.1.0 in
      let e = ap (λ t. when (eqb t v) 1) w.0 in
      omega arith

  coming_at : (y : ℕ → ℕ) (v : ℕ) → coming N y v ≡ at N.arcs N.to v y
  unfolding coming at
  coming_at y v = refl

  going_at : (y : ℕ → ℕ) (v : ℕ) → going N y v ≡ at N.arcs N.frm v y
  unfolding going at
  going_at y v = refl

  keeps : (u u' : ℕ → ℕ) (a : ℕ) (c : List Step) (d : ℕ) → Walk N u a c a → Shifted N u c d u' → Circulation N u → Circulation N u'
  keeps u u' a c d w s h v l =
      let tos : (ℕ → ℕ) → ℕ = at N.arcs N.to v in
      let froms : (ℕ → ℕ) → ℕ = at N.arcs N.frm v in
      let x = at_shifted N.arcs N.to v d u u' (fore c) (rear c) s in
      let y = at_shifted N.arcs N.frm v d u u' (fore c) (rear c) s in
      let b = balance u a c a v w in
      let e : tos (fore c) + froms (rear c) ≡ froms (fore c) + tos (rear c) = omega arith in
      let m : d * tos (fore c) + d * froms (rear c) ≡ d * froms (fore c) + d * tos (rear c) = sym (mul-add d (tos (fore c)) (froms (rear c))) ∙ ap (◌*◌ d) e ∙ mul-add d (froms (fore c)) (tos (rear c)) in
      let before : tos u ≡ froms u = sym (coming_at u v) ∙ h v l ∙ going_at u v in
      let after : tos u' ≡ froms u' = omega arith in
      coming_at u' v ∙ after ∙ sym (going_at u' v)

  -- a node that no step starts from has none of its arcs gone along, or against
  fore_fresh : (c : List Step) (i : ℕ) → Fresh (N.frm i) (starts N c) → fore c i ≡ 0
  fore_fresh [] i f = refl
  fore_fresh (Forward j ∷ c) i f =
      let r = fore_fresh c i f.1 in
      let e = ap (λ b. when b 1) (ne_eqb j i (λ same. f.0 (ap N.frm (sym same)))) in
      omega arith
  fore_fresh (Backward j ∷ c) i f = fore_fresh c i f.1

  rear_fresh : (c : List Step) (i : ℕ) → Fresh (N.to i) (starts N c) → rear c i ≡ 0
  rear_fresh [] i f = refl
  rear_fresh (Forward j ∷ c) i f = rear_fresh c i f.1
  rear_fresh (Backward j ∷ c) i f =
      let r = rear_fresh c i f.1 in
      let e = ap (λ b. when b 1) (ne_eqb j i (λ same. f.0 (ap N.to (sym same)))) in
      omega arith

  one_plus : (d x : ℕ) → x ≡ 0 → d * (1 + x) ≡ d
  one_plus d x e = ap (λ t. d * (1 + t)) e ∙ mul-one d

  pub fore_capacity : (u : ℕ → ℕ) (c : List Step) (d i : ℕ) → Apart (starts N c) → Allows N u c d → u i ≤ N.capacity i → u i + d * fore c i ≤ N.capacity i
  fore_capacity u [] d i f s h = let z = mul-zero d in omega arith
  fore_capacity u (Backward j ∷ c) d i f s h = fore_capacity u c d i f.1 s.1 h
  fore_capacity u (Forward j ∷ c) d i f s h = ⊎_elim here (λ n. there n (fore_capacity u c d i f.1 s.1 h)) (cases_eq j i)
    where
      here : j ≡ i → u i + d * (when (eqb j i) 1 + fore c i) ≤ N.capacity i
      here e =
          let z = fore_fresh c i (subst (λ t. Fresh (N.frm t) (starts N c)) e f.0) in
          let k : d ≤ N.capacity i - u i = subst (λ t. d ≤ N.capacity t - u t) e s.0 in
          let m : d * (when (eqb j i) 1 + fore c i) ≡ d = ap (λ b. d * (when b 1 + fore c i)) (eq-eqb j i e) ∙ one_plus d (fore c i) z in
          omega arith

      there : (j ≡ i → ⊥) → u i + d * fore c i ≤ N.capacity i → u i + d * (when (eqb j i) 1 + fore c i) ≤ N.capacity i
      there n r =
          let k : when (eqb j i) 1 + fore c i ≡ fore c i = ap (λ b. when b 1 + fore c i) (ne_eqb j i n) ∙ omega arith in
          rw k r

  pub rear_capacity : (u : ℕ → ℕ) (c : List Step) (d i : ℕ) → Apart (starts N c) → Allows N u c d → d * rear c i ≤ u i
  rear_capacity u [] d i f s = let z = mul-zero d in omega arith
  rear_capacity u (Forward j ∷ c) d i f s = rear_capacity u c d i f.1 s.1
  rear_capacity u (Backward j ∷ c) d i f s = ⊎_elim here (λ n. there n (rear_capacity u c d i f.1 s.1)) (cases_eq j i)
    where
      here : j ≡ i → d * (when (eqb j i) 1 + rear c i) ≤ u i
      here e =
          let z = rear_fresh c i (subst (λ t. Fresh (N.to t) (starts N c)) e f.0) in
          let k : d ≤ u i = subst (λ t. d ≤ u t) e s.0 in
          let m : d * (when (eqb j i) 1 + rear c i) ≡ d = ap (λ b. d * (when b 1 + rear c i)) (eq-eqb j i e) ∙ one_plus d (rear c i) z in
          omega arith

      there : (j ≡ i → ⊥) → d * rear c i ≤ u i → d * (when (eqb j i) 1 + rear c i) ≤ u i
      there n r =
          let k : when (eqb j i) 1 + rear c i ≡ rear c i = ap (λ b. when b 1 + rear c i) (ne_eqb j i n) ∙ omega arith in
          rw k r

  -- steps that are open allow one unit
  pub allows_one : (u : ℕ → ℕ) (a : ℕ) (c : List Step) (b : ℕ) → Walk N u a c b → Allows N u c 1
  allows_one u a [] b w = tt
  allows_one u a (s ∷ c) b w = (w.1.1, allows_one u (stop N s) c b w.2)

module _ {W : Type 0} (G : Kind W) where
  times_mul : (d n : ℕ) (w : W) → times G.ops (d * n) w ≡ times G.ops d (times G.ops n w)
  times_mul zero n w = ap (λ k. times G.ops k w) (zero-mul n)
  times_mul (suc d) n w = ap (λ k. times G.ops k w) (suc-mul d n) ∙ times_add G (d * n) n w ∙ G.laws.comm (times G.ops (d * n) w) (times G.ops n w) ∙ ap (G.ops.plus (times G.ops n w)) (times_mul d n w)

  total_times : (m d : ℕ) (f : ℕ → W) → total G.ops m (λ i. times G.ops d (f i)) ≡ times G.ops d (total G.ops m f)
  total_times zero d f = sym (times_none G d)
  total_times (suc m) d f = ap (λ t. G.ops.plus t (times G.ops d (f m))) (total_times m d f) ∙ sym (times_plus G d (total G.ops m f) (f m))

  -- the worth of flow on arcs, as the net has them
  sold : (N : Graph W) → (ℕ → ℕ) → W
  sold N y = total G.ops N.arcs (λ i. times G.ops (y i) (N.unit i))

  sold_plus : (N : Graph W) (y z : ℕ → ℕ) → sold N (λ i. y i + z i) ≡ G.ops.plus (sold N y) (sold N z)
  unfolding sold
  sold_plus N y z = total_same G N.arcs (λ i. times G.ops (y i + z i) (N.unit i)) (λ i. G.ops.plus (times G.ops (y i) (N.unit i)) (times G.ops (z i) (N.unit i))) (λ i l. times_add G (y i) (z i) (N.unit i)) ∙ total_plus G N.arcs (λ i. times G.ops (y i) (N.unit i)) (λ i. times G.ops (z i) (N.unit i))

  sold_times : (N : Graph W) (d : ℕ) (y : ℕ → ℕ) → sold N (λ i. d * y i) ≡ times G.ops d (sold N y)
  unfolding sold
  sold_times N d y = total_same G N.arcs (λ i. times G.ops (d * y i) (N.unit i)) (λ i. times G.ops d (times G.ops (y i) (N.unit i))) (λ i l. times_mul d (y i) (N.unit i)) ∙ total_times N.arcs d (λ i. times G.ops (y i) (N.unit i))

  sold_one : (N : Graph W) (j : ℕ) → j < N.arcs → sold N (λ i. when (eqb j i) 1) ≡ N.unit j
  unfolding sold
  sold_one N j l = total_one G N.arcs j 1 N.unit l ∙ unit_right G (N.unit j)

  sold_same : (N : Graph W) (y z : ℕ → ℕ) → ((i : ℕ) → i < N.arcs → y i ≡ z i) → sold N y ≡ sold N z
  unfolding sold
  sold_same N y z h = total_same G N.arcs (λ i. times G.ops (y i) (N.unit i)) (λ i. times G.ops (z i) (N.unit i)) (λ i l. ap (λ k. times G.ops k (N.unit i)) (h i l))

  sold_more : (N : Graph W) (j : ℕ) (g : ℕ → ℕ) → j < N.arcs → sold N (λ i. when (eqb j i) 1 + g i) ≡ G.ops.plus (N.unit j) (sold N g)
  sold_more N j g l = sold_plus N (λ i. when (eqb j i) 1) g ∙ ap (λ t. G.ops.plus t (sold N g)) (sold_one N j l)

  -- what the arcs gone along are worth is the gain and what those gone against are worth
  gain_sold : (N : Graph W) (u : ℕ → ℕ) (a : ℕ) (c : List Step) (b : ℕ) → Walk N u a c b → G.ops.plus (gain G.ops N c) (sold N (rear c)) ≡ sold N (fore c)
  gain_sold N u a [] b w = G.laws.neutral (sold N (λ i. 0))
  gain_sold N u a (Forward j ∷ c) b w = G.laws.assoc (N.unit j) (gain G.ops N c) (sold N (rear c)) ∙ ap (G.ops.plus (N.unit j)) (gain_sold N u (N.to j) c b w.2) ∙ sym (sold_more N j (fore c) w.1.0)
  gain_sold N u a (Backward j ∷ c) b w =
      ap (G.ops.plus (G.ops.plus (G.ops.neg (N.unit j)) (gain G.ops N c))) (sold_more N j (rear c) w.1.0)
      ∙ four G (G.ops.neg (N.unit j)) (gain G.ops N c) (N.unit j) (sold N (rear c))
      ∙ ap₂ G.ops.plus (G.laws.comm (G.ops.neg (N.unit j)) (N.unit j) ∙ G.laws.inverse (N.unit j)) (gain_sold N u (N.frm j) c b w.2)
      ∙ G.laws.neutral (sold N (fore c))

  rise : (N : Graph W) (u u' : ℕ → ℕ) (a : ℕ) (c : List Step) (d : ℕ) → Walk N u a c a → Shifted N u c d u' → sold N u' ≡ G.ops.plus (sold N u) (times G.ops d (gain G.ops N c))
  rise N u u' a c d w s =
      let r : W = times G.ops d (sold N (rear c)) in
      let g : W = times G.ops d (gain G.ops N c) in
      let e : G.ops.plus (sold N u') r ≡ G.ops.plus (G.ops.plus (sold N u) g) r =
      ap (G.ops.plus (sold N u')) (sym (sold_times N d (rear c)))
      ∙ sym (sold_plus N u' (λ i. d * rear c i))
      ∙ sold_same N (λ i. u' i + d * rear c i) (λ i. u i + d * fore c i) s
      ∙ sold_plus N u (λ i. d * fore c i)
      ∙ ap (G.ops.plus (sold N u)) (sold_times N d (fore c) ∙ ap (times G.ops d) (sym (gain_sold N u a c a w)) ∙ times_plus G d (gain G.ops N c) (sold N (rear c)))
      ∙ sym (G.laws.assoc (sold N u) g r) in
      cancel G (sold N u') (G.ops.plus (sold N u) g) r e

  pub rise_holds : (N : Graph W) (u u' : ℕ → ℕ) (a : ℕ) (c : List Step) (d : ℕ) → Walk N u a c a → Shifted N u c d u' → worth G.ops N u' ≡ G.ops.plus (worth G.ops N u) (times G.ops d (gain G.ops N c))
  unfolding sold
  rise_holds N u u' a c d w s = rise N u u' a c d w s

  pub shifting_holds : Shifting G.ops
  shifting_holds N u a c d circulation within walk apart allows = (
    (
      λ i. u i + d * fore c i - d * rear c i,
      λ i l. let r = rear_capacity N u c d i apart allows in omega arith,
    ),
    λ u' s. record {
      circulation = keeps N u u' a c d walk s circulation;
      within = λ i l. let f = fore_capacity N u c d i apart allows (within i l) in let e = s i l in omega arith;
      rises = rise_holds N u u' a c d walk s;
    },
  )
