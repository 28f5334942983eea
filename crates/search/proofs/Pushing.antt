-- A cycle shifted along, one push after another.
use Rattle.std.proofs.Common.{◌≡◌, ℕ, suc, ◌+◌, ◌-◌, ◌*◌, ◌<◌, ◌≤◌, Bool, true, false, eqb, List, [], ◌∷◌, length, get_or, set, drop, drop-cons, sym, refl, ap, ◌∙◌, subst, subst₂, ⊎_elim, mul-le-mul, mul-one, mul-add, arith}
use Rattle.std.proofs.lemmas.List.{drop_all, length-set, get_or-set_same, get_or-set_other}
use Rattle.std.specs.List.{All, Contains}
use Rattle.std.proofs.lemmas.List.Elements.{All-from_recursion}
use Rattle.std.proofs.lemmas.Bool.{true≢false, cases_eq, eq-eqb, ne_eqb}
use Rattle.worth.specs.Kinds.{Ops}
use Rattle.flow.specs.Groups.{Kind, Lt, times}
use Rattle.flow.specs.Graphs.{Graph, when, worth}
use Rattle.flow.specs.Arcs.{blank, arc_at, net, flow_of, SameArcs, SameArc, with_flow}
use Rattle.flow.specs.Steps.{arc, starts, Apart, residual, Allows, Shifted, fore, rear, gain}
use Rattle.flow.specs.declared.arc.Arc.{Arc}
use Rattle.flow.specs.declared.step.Step.{Step}
use Rattle.flow.specs.declared.step.Step.TheVariants.{Forward, Backward}
use Rattle.flow.proofs.Group.{unit_right}
use Rattle.flow.proofs.Rows.{same_arc_refl, net_same}
use Rattle.flow.proofs.Shift.{allows_one, fore_capacity, rear_capacity, rise_holds}
use Rattle.network.specs.Networks.{Net, Sound, flow_in, graph, value}
use Rattle.search.specs.Links.{SoundArcs, onto}
use Rattle.search.specs.Cycles.{Measured, Takes, taken, FullAlong}
use Rattle.search.specs.Outcomes.{Improves}
use Rattle.search.proofs.Steps.{has_arc}
use Rattle.search.proofs.Measuring.{onto_first, onto_allows, residual_small}

-- a list of arcs with the flow of one changed
put_arcs : List Arc → ℕ → ℕ → List Arc
put_arcs ms j k = set ms j (with_flow k (arc_at ms j))

same_trans : (a b : Arc) (k : ℕ) → SameArc a b → SameArc a (with_flow k b)
same_trans a b k s = record { from = s.from; to = s.to; capacity = s.capacity; price = s.price; weeks = s.weeks }

put_at : (ms : List Arc) (j k : ℕ) → j < length ms → arc_at (put_arcs ms j k) j ≡ with_flow k (arc_at ms j)
unfolding put_arcs
put_at ms j k l = get_or-set_same ms j (with_flow k (arc_at ms j)) blank l

put_off : (ms : List Arc) (j k i : ℕ) → (i ≡ j → ⊥) → arc_at (put_arcs ms j k) i ≡ arc_at ms i
unfolding put_arcs
put_off ms j k i d = get_or-set_other ms j i (with_flow k (arc_at ms j)) blank d

put_same : (ls ms : List Arc) (j k : ℕ) → j < length ls → SameArcs ls ms → SameArcs ls (put_arcs ms j k)
unfolding put_arcs
put_same ls ms j k l s = record { long = s.long ∙ sym (length-set ms j (with_flow k (arc_at ms j))); each = λ i h. ⊎_elim (λ e. subst (λ y. SameArc (arc_at ls y) (arc_at (put_arcs ms j k) y)) (sym e) (subst (SameArc (arc_at ls j)) (sym (put_at ms j k (let q = s.long in omega arith))) (same_trans (arc_at ls j) (arc_at ms j) k (s.each j l)))) (λ d. subst (SameArc (arc_at ls i)) (sym (put_off ms j k i d)) (s.each i h)) (cases_eq i j) }

-- d for each step along an arc: one step more, or another arc
one_more : (d f : ℕ) (b : Bool) → b ≡ true → d * (when b 1 + f) ≡ d + d * f
one_more d f b e = ap (λ c. d * (when c 1 + f)) e ∙ mul-add d 1 f ∙ ap (λ t. t + d * f) (mul-one d)

no_more : (d f : ℕ) (b : Bool) → b ≡ false → d * (when b 1 + f) ≡ d * f
no_more d f b e = ap (λ c. d * (when c 1 + f)) e ∙ ap (◌*◌ d) (omega arith)

-- what has become of the network s after k of the pushes along the cycle p
pub record Pushing {W : Type 0} (o : Ops W) (s : Net) (p : List Step) (d k : ℕ) (m : Net) : Type 0 where
  pub done : List Step
  pub whole : onto (drop k p) done ≡ onto p []
  pub nodes : m.nodes ≡ s.nodes
  pub arcs : SameArcs s.arcs m.arcs
  pub shifted : Shifted (graph o s) (flow_in s) done d (flow_in m)

module _ {W : Type 0} (G : Kind W) (n : ℕ) (ls : List Arc) (d : ℕ) where
  abbrev N : Graph W
  N = net G.ops n ls

  -- the flows after one step more
  took_shift : (m : Net) (done : List Step) → Shifted N (flow_of ls) done d (flow_in m) → (t : Step) → Takes m d t → Shifted N (flow_of ls) (t ∷ done) d (flow_in (taken m d t))
  unfolding put_arcs
  took_shift m done sh (Forward j) v i h = ⊎_elim here there (cases_eq i j)
    where
      here : i ≡ j → flow_in (taken m d (Forward j)) i + d * rear done i ≡ flow_of ls i + d * (when (eqb j i) 1 + fore done i)
      here e =
          let a = ap (λ y. y.flow) (ap (arc_at (put_arcs m.arcs j (flow_in m j + d))) e ∙ put_at m.arcs j (flow_in m j + d) v.0) in
          let b = one_more d (fore done i) (eqb j i) (eq-eqb j i (sym e)) in
          let c = sh i h in
          let f = ap (flow_in m) e in
          omega arith

      there : (i ≡ j → ⊥) → flow_in (taken m d (Forward j)) i + d * rear done i ≡ flow_of ls i + d * (when (eqb j i) 1 + fore done i)
      there e =
          let a = ap (λ y. y.flow) (put_off m.arcs j (flow_in m j + d) i e) in
          let b = no_more d (fore done i) (eqb j i) (ne_eqb j i (λ q. e (sym q))) in
          let c = sh i h in
          omega arith
  took_shift m done sh (Backward j) v i h = ⊎_elim here there (cases_eq i j)
    where
      here : i ≡ j → flow_in (taken m d (Backward j)) i + d * (when (eqb j i) 1 + rear done i) ≡ flow_of ls i + d * fore done i
      here e =
          let a = ap (λ y. y.flow) (ap (arc_at (put_arcs m.arcs j (flow_in m j - d))) e ∙ put_at m.arcs j (flow_in m j - d) v.0) in
          let b = one_more d (rear done i) (eqb j i) (eq-eqb j i (sym e)) in
          let c = sh i h in
          let f = ap (flow_in m) e in
          let k = v.1 in
          omega arith

      there : (i ≡ j → ⊥) → flow_in (taken m d (Backward j)) i + d * (when (eqb j i) 1 + rear done i) ≡ flow_of ls i + d * fore done i
      there e =
          let a = ap (λ y. y.flow) (put_off m.arcs j (flow_in m j - d) i e) in
          let b = no_more d (rear done i) (eqb j i) (ne_eqb j i (λ q. e (sym q))) in
          let c = sh i h in
          omega arith

  took_same : (m : Net) (t : Step) → arc t < length ls → SameArcs ls m.arcs → SameArcs ls (taken m d t).arcs
  unfolding put_arcs
  took_same m (Forward j) l s = put_same ls m.arcs j (flow_in m j + d) l s
  took_same m (Backward j) l s = put_same ls m.arcs j (flow_in m j - d) l s

  took_nodes : (m : Net) (t : Step) → (taken m d t).nodes ≡ m.nodes
  took_nodes m (Forward j) = refl
  took_nodes m (Backward j) = refl

  -- the steps so far
  onto_apart : (q p : List Step) → Apart (starts N (onto q p)) → Apart (starts N p)
  onto_apart [] p a = a
  onto_apart (t ∷ q) p a = (onto_apart q (t ∷ p) a).1

  takes : SoundArcs n ls → (m : Net) (done : List Step) (t : Step) → SameArcs ls m.arcs → Shifted N (flow_of ls) done d (flow_in m) → arc t < length ls → Apart (starts N (t ∷ done)) → Allows N (flow_of ls) (t ∷ done) d → Takes m d t
  takes z m done (Forward j) s sh l apart allows =
      let a = fore_capacity N (flow_of ls) (Forward j ∷ done) d j apart allows (z j l).held in
      let b = one_more d (fore done j) (eqb j j) (eq-eqb j j refl) in
      let c = sh j l in
      let e = (s.each j l).capacity in
      let f = s.long in
      (omega arith, omega arith)
  takes z m done (Backward j) s sh l apart allows =
      let a = rear_capacity N (flow_of ls) (Backward j ∷ done) d j apart allows in
      let b = one_more d (rear done j) (eqb j j) (eq-eqb j j refl) in
      let c = sh j l in
      let f = s.long in
      (omega arith, omega arith)

times_zero : (d k : ℕ) → k ≡ 0 → d * k ≡ 0
times_zero d k e = ap (λ j. d * j) e ∙ (omega arith)

-- an arc that is followed is among the steps
after_more : (t s : Step) (c : List Step) → Contains c s → Contains (t ∷ c) s
after_more t s c (k, l, e) = (suc k, omega arith, e)

fore_in : (c : List Step) (i : ℕ) → 0 < fore c i → Contains c (Forward i)
fore_in [] i h = absurd (omega arith)
fore_in (Forward j ∷ c) i h = ⊎_elim (λ e. (0, omega arith, ap Forward e)) (λ n. after_more (Forward j) (Forward i) c (fore_in c i (let g = subst (λ b. 0 < when b 1 + fore c i) (ne_eqb j i n) h in omega arith))) (cases_eq j i)
fore_in (Backward j ∷ c) i h = after_more (Backward j) (Forward i) c (fore_in c i h)

rear_in : (c : List Step) (i : ℕ) → 0 < rear c i → Contains c (Backward i)
rear_in [] i h = absurd (omega arith)
rear_in (Forward j ∷ c) i h = after_more (Forward j) (Backward i) c (rear_in c i h)
rear_in (Backward j ∷ c) i h = ⊎_elim (λ e. (0, omega arith, ap Backward e)) (λ n. after_more (Backward j) (Backward i) c (rear_in c i (let g = subst (λ b. 0 < when b 1 + rear c i) (ne_eqb j i n) h in omega arith))) (cases_eq j i)

fore_onto : (q p : List Step) (i : ℕ) → fore (onto q p) i ≡ fore q i + fore p i
fore_onto [] p i = omega arith
fore_onto (Forward j ∷ q) p i = let e = fore_onto q (Forward j ∷ p) i in omega arith
fore_onto (Backward j ∷ q) p i = fore_onto q (Backward j ∷ p) i

rear_onto : (q p : List Step) (i : ℕ) → rear (onto q p) i ≡ rear q i + rear p i
rear_onto [] p i = omega arith
rear_onto (Forward j ∷ q) p i = rear_onto q (Forward j ∷ p) i
rear_onto (Backward j ∷ q) p i = let e = rear_onto q (Backward j ∷ p) i in omega arith

-- a push changes one arc, so with that arc read again a list of the arcs is right
put_again : (ms : List Arc) (j k : ℕ) → j < length ms → set ms j (arc_at (put_arcs ms j k) j) ≡ put_arcs ms j k
unfolding put_arcs
put_again ms j k l = ap (set ms j) (put_at ms j k l)

taken_again : (m : Net) (d : ℕ) (t : Step) → Takes m d t → set m.arcs (arc t) (arc_at (taken m d t).arcs (arc t)) ≡ (taken m d t).arcs
unfolding put_arcs
taken_again m d (Forward j) v = put_again m.arcs j (flow_in m j + d) v.0
taken_again m d (Backward j) v = put_again m.arcs j (flow_in m j - d) v.0

pub arc_again : (m : Net) (d : ℕ) (t : Step) → Takes m d t → {m' : Net} → m' ≡ taken m d t → {ls : List Arc} → ls ≡ m.arcs → {i : ℕ} → i ≡ arc t → {ls' : List Arc} → ls' ≡ set ls i (arc_at m'.arcs i) → ls' ≡ m'.arcs
arc_again m d t v {m'} m-is {ls} ls-is {i} i-is is = is ∙ rw (m-is, ls-is, i-is) (taken_again m d t v)

module _ {W : Type 0} (G : Kind W) (s : Net) (sound : Sound s) (p : List Step) {d : ℕ} {w : W} (z : Measured G.ops s.nodes s.arcs p d w) where
  abbrev M : Graph W
  M = graph G.ops s

  amount_small : d ≤ 1000
  amount_small = small (onto p []) z.gainful.gains z.most.allowed
    where
      small : (c : List Step) → Lt G.ops G.ops.none (gain G.ops M c) → Allows M (flow_in s) c d → d ≤ 1000
      small [] g a = absurd (true≢false (sym g ∙ G.laws.irreflexive G.ops.none))
      small (t ∷ c) g a = let b = a.0 in let r = residual_small G.ops s.nodes s.arcs sound.each t in omega arith

  some_amount : 1 ≤ d
  some_amount = z.most.most 1 (allows_one M (flow_in s) z.gainful.node (onto p []) z.gainful.node z.gainful.closed)

  pub rise_fits : d * G.ops.size w ≤ 4194304
  rise_fits = let b = mul-le-mul amount_small z.small in omega arith

  pub pushing_first : Pushing G.ops s p d 0 s
  pushing_first = record {
    done = [];
    whole = refl;
    nodes = refl;
    arcs = record { long = refl; each = λ i l. same_arc_refl (arc_at s.arcs i) };
    shifted = λ i h. refl;
  }

  -- each step has an arc
  pub each_known : All (λ t. arc t < length s.arcs) p
  each_known k f l = has_arc s.arcs (get_or p k f) (omega (arith, All-from_recursion (λ t. d ≤ residual M (flow_in s) t) p (onto_first (λ t. d ≤ residual M (flow_in s) t) p [] z.most.allowed) k f l, some_amount))

  -- one step more
  module _ {k : ℕ} (l : k < length p) (f : Step) {m : Net} (b : Pushing G.ops s p d k m) where
    abbrev t : Step
    t = get_or p k f

    whole : onto (drop (suc k) p) (t ∷ b.done) ≡ onto p []
    whole = ap (λ q. onto q b.done) (sym (drop-cons p k f l)) ∙ b.whole

    allowed : Allows M (flow_in s) (t ∷ b.done) d
    allowed = onto_allows M (flow_in s) d (drop (suc k) p) (t ∷ b.done) (subst (λ q. Allows M (flow_in s) q d) (sym whole) z.most.allowed)

    known : arc t < length s.arcs
    known = has_arc s.arcs t (omega (arith, allowed.0, some_amount))

    pub next_takes : Takes m d t
    next_takes = takes G s.nodes s.arcs d sound.each m b.done t b.arcs b.shifted known (onto_apart G s.nodes s.arcs d (drop (suc k) p) (t ∷ b.done) (subst (λ q. Apart (starts M q)) (sym whole) z.gainful.apart)) allowed

    pub next_known : {i : ℕ} → i ≡ arc t → {ls : List Arc} → ls ≡ m.arcs → i < length ls
    next_known is same = let a = known in let e = b.arcs.long in let h = ap length same in omega arith

    pub pushing_next : {m' : Net} → m' ≡ taken m d t → {k' : ℕ} → k' ≡ k + 1 → Pushing G.ops s p d k' m'
    pushing_next is next = subst₂ (Pushing G.ops s p d) (let e : suc k ≡ k + 1 = omega arith in e ∙ sym next) (sym is) (record {
      done = t ∷ b.done;
      whole = whole;
      nodes = took_nodes G s.nodes s.arcs d m t ∙ b.nodes;
      arcs = took_same G s.nodes s.arcs d m t known b.arcs;
      shifted = took_shift G s.nodes s.arcs d m b.done b.shifted t next_takes;
    })

  -- all steps
  module _ {k : ℕ} (e : length p ≤ k) {m : Net} (b : Pushing G.ops s p d k m) where
    shifted : Shifted M (flow_in s) (onto p []) d (flow_in m)
    shifted = subst (λ q. Shifted M (flow_in s) q d (flow_in m)) (ap (λ q. onto q b.done) (sym (drop_all k p e)) ∙ b.whole) b.shifted

    pub pushing_full : FullAlong s.arcs m.arcs p
    pushing_full (Forward i) can z =
        let known = has_arc s.arcs (Forward i) can in
        ⊎_elim
        (λ e. absurd (let h = shifted i known in let f = fore_onto p [] i in let c = (b.arcs.each i known).capacity in let g = times_zero d (fore (onto p []) i) (omega arith) in omega arith))
        (λ n. fore_in p i (omega arith))
        (cases_eq (fore p i) 0)
    pushing_full (Backward i) can z =
        let known = has_arc s.arcs (Backward i) can in
        ⊎_elim
        (λ e. absurd (let h = shifted i known in let f = rear_onto p [] i in let g = times_zero d (rear (onto p []) i) (omega arith) in omega arith))
        (λ n. rear_in p i (omega arith))
        (cases_eq (rear p i) 0)

    pub pushing_all : {r : W} → r ≡ G.ops.times d w → Improves G.ops s m r
    pushing_all {r} is = record {
      cycle = onto p [];
      gainful = z.gainful;
      amount = d;
      allowed = z.most.allowed;
      most = z.most.most;
      nodes = b.nodes;
      arcs = b.arcs;
      shifted = shifted;
      rises = less (value G.ops s) r ∙ ap (λ v. G.ops.plus v (G.ops.neg (value G.ops s))) (sym after);
    }
      where
        graph_is : M ≡ graph G.ops m
        graph_is = net_same G s.nodes s.arcs m.arcs b.arcs ∙ ap (λ k. net G.ops k m.arcs) (sym b.nodes)

        rise_is : G.ops.times d w ≡ times G.ops d (gain G.ops M (onto p []))
        rise_is = G.laws.times_is d w ∙ ap (times G.ops d) z.gains

        after : value G.ops m ≡ G.ops.plus (value G.ops s) r
        after = ap (λ g. worth G.ops g (flow_in m)) (sym graph_is) ∙ rise_holds G M (flow_in s) (flow_in m) z.gainful.node (onto p []) d z.gainful.closed shifted ∙ ap (G.ops.plus (value G.ops s)) (sym (is ∙ rise_is))

        less : (a k : W) → k ≡ G.ops.plus (G.ops.plus a k) (G.ops.neg a)
        less a k = sym (ap (λ v. G.ops.plus v (G.ops.neg a)) (G.laws.comm a k) ∙ G.laws.assoc k a (G.ops.neg a) ∙ ap (G.ops.plus k) (G.laws.inverse a) ∙ unit_right G k)
