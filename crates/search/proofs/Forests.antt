-- The forest of links: a step that would raise a node on its own way up closes a cycle worth more than none, any other
-- keeps the forest; and a potential is at most the worth of a walk that visits no node twice.
use Rattle.std.proofs.Common.{◌≡◌, ℕ, suc, ◌+◌, ◌<◌, ◌≤◌, ◌⊎◌, List, [], ◌∷◌, length, set, Some, None, Option, sym, refl, ap, ◌∙◌, subst, subst₂, inl, inr, ⊎_elim, arith}
use Rattle.std.specs.List.{AllByRecursion}
use Rattle.std.proofs.lemmas.List.{length-set, get_or-set_same, get_or-set_other}
use Rattle.std.proofs.lemmas.Bool.{cases_eq}
use Rattle.flow.specs.Groups.{Kind, Lt, Le}
use Rattle.flow.specs.Graphs.{Graph, Sound}
use Rattle.flow.specs.Arcs.{arc_at, flow_of, net}
use Rattle.flow.specs.Steps.{arc, Open, Walk, starts, step_worth, gain, Fresh, Apart, Gainful}
use Rattle.flow.specs.declared.arc.Arc.{Arc}
use Rattle.flow.specs.declared.step.Step.{Step}
use Rattle.flow.specs.declared.step.Step.TheVariants.{Forward, Backward}
use Rattle.flow.proofs.Group.{shift, unit_right, lt_le, le_eq, le_trans, le_right, lt_le_trans}
use Rattle.flow.proofs.Holes.{pigeonhole}
use Rattle.flow.proofs.Cuts.{visits, visits_length, visits_in}
use Rattle.flow.proofs.Reach.{reach, walk_under}
use Rattle.network.specs.Potentials.{potential}
use Rattle.search.specs.Links.{SoundArcs, tail_of, head_of, link, Unlinked, Linked, Up, line, Rooted, Trail, onto}
use Rattle.search.specs.Sweeps.{Low, offer, Joined, Forest}
use Rattle.search.proofs.Steps.{bounded}
use Rattle.search.proofs.Ways.{none_some, same_some, one_way}

-- a link set, and the others
link_here : (ks : List (Option Step)) (v : ℕ) (s : Step) → v < length ks → link (set ks v (Some s)) v ≡ Some s
link_here ks v s l = get_or-set_same ks v (Some s) None l

link_off : (ks : List (Option Step)) (v : ℕ) (s : Step) (x : ℕ) → (v ≡ x → ⊥) → link (set ks v (Some s)) x ≡ link ks x
link_off ks v s x d = get_or-set_other ks v x (Some s) None (λ e. d (sym e))

module _ (ls : List Arc) where
  -- the nodes l lie no higher than a way up of length m
  abbrev Below : List (Option Step) → ℕ → List ℕ → Type 0
  Below ks m l = AllByRecursion (λ y. (r : List Step) × Up ls ks y r × (m ≤ length r)) l

  below_less : (ks : List (Option Step)) (m k : ℕ) (l : List ℕ) → m ≤ k → Below ks k l → Below ks m l
  below_less ks m k [] h b = tt
  below_less ks m k (y ∷ l) h b = ((b.0.0, b.0.1, let q = b.0.2 in omega arith), below_less ks m k l h b.1)

  below_fresh : (ks : List (Option Step)) (x : ℕ) (q : List Step) (l : List ℕ) → Up ls ks x q → Below ks (suc (length q)) l → Fresh x l
  below_fresh ks x q [] w b = tt
  below_fresh ks x q (y ∷ l) w b = (differ, below_fresh ks x q l w b.1)
    where
      differ : x ≡ y → ⊥
      differ e =
          let k = b.0.2 in
          let f = ap length (one_way ls ks y q b.0.0 (subst (λ z. Up ls ks z q) e w) b.0.1) in
          omega arith

  -- a way up that avoids v stays when v gets the link s
  avoids : (ks : List (Option Step)) (v : ℕ) (s : Step) (x : ℕ) (q : List Step) → Fresh v (line ls x q) → Up ls ks x q → Up ls (set ks v (Some s)) x q
  avoids ks v s x [] f w = link_off ks v s x f.0 ∙ w
  avoids ks v s x (t ∷ q) f w = (link_off ks v s x f.0 ∙ w.0, avoids ks v s (tail_of ls t) q f.1 w.1)

  -- any other then goes on from v by s
  reroot : (ks : List (Option Step)) (v : ℕ) (s : Step) → v < length ks → (r : List Step) → Up ls (set ks v (Some s)) (tail_of ls s) r → (x : ℕ) (q : List Step) → Up ls ks x q → (p : List Step) × Up ls (set ks v (Some s)) x p
  reroot ks v s l r above x [] w = ⊎_elim (λ e. (s ∷ r, (ap (link (set ks v (Some s))) (sym e) ∙ link_here ks v s l, above))) (λ d. ([], link_off ks v s x d ∙ w)) (cases_eq v x)
  reroot ks v s l r above x (t ∷ q) w = ⊎_elim (λ e. (s ∷ r, (ap (link (set ks v (Some s))) (sym e) ∙ link_here ks v s l, above))) (λ d. more d (reroot ks v s l r above (tail_of ls t) q w.1)) (cases_eq v x)
    where
      more : (v ≡ x → ⊥) → (p : List Step) × Up ls (set ks v (Some s)) (tail_of ls t) p → (p : List Step) × Up ls (set ks v (Some s)) x p
      more d z = (t ∷ z.0, (link_off ks v s x d ∙ w.0, z.1))

-- a node that gets a link is no root, and the others stay low
pub set_low : {W : Type 0} (G : Kind W) (xs : List W) (ks : List (Option Step)) (v : ℕ) (a : W) (s : Step) → v < length ks → Low G.ops xs ks → Low G.ops (set xs v a) (set ks v (Some s))
set_low G xs ks v a s l low x e =
    ⊎_elim
    (λ same. absurd (none_some (link (set ks v (Some s)) x) s e (subst (λ y. link (set ks v (Some s)) y ≡ Some s) same (link_here ks v s l))))
    (λ d. subst (λ z. Le G.ops z G.ops.none) (sym (get_or-set_other xs v x a G.ops.none (λ f. d (sym f)))) (low x (sym (link_off ks v s x d) ∙ e)))
    (cases_eq v x)

module _ {W : Type 0} (G : Kind W) (n : ℕ) (ls : List Arc) where
  abbrev N : Graph W
  N = net G.ops n ls

  net_sound : SoundArcs n ls → Sound N
  net_sound z = record { frm_in = λ i l. (z i l).from_in; to_in = λ i l. (z i l).to_in }

  pub tail_in : SoundArcs n ls → (s : Step) → arc s < length ls → tail_of ls s < n
  tail_in z (Forward i) l = (z i l).from_in
  tail_in z (Backward i) l = (z i l).to_in

  pub head_in : SoundArcs n ls → (s : Step) → arc s < length ls → head_of ls s < n
  head_in z (Forward i) l = (z i l).to_in
  head_in z (Backward i) l = (z i l).from_in

  unit_small : SoundArcs n ls → (i : ℕ) → G.ops.size (N.unit i) ≤ 1
  unit_small z i = let a = bounded n ls z i in G.laws.size_unit (arc_at ls i).price (arc_at ls i).weeks a.low a.high a.light

  pub step_small : SoundArcs n ls → (s : Step) → G.ops.size (step_worth G.ops N s) ≤ 1
  step_small z (Forward i) = unit_small z i
  step_small z (Backward i) = omega (arith, G.laws.size_neg (N.unit i), unit_small z i)

  -- before anything is raised
  pub bare : (xs : List W) (ks : List (Option Step)) → SoundArcs n ls → length xs ≡ n → n ≤ length ks → ((v : ℕ) → potential G.ops xs v ≡ G.ops.none) → Unlinked ks → Forest G.ops n ls xs ks
  bare xs ks z e f none unlinked = record {
    sound = z;
    potentials_long = e;
    links_long = f;
    rooted = λ v l. ([], unlinked v);
    joined = λ v s q. absurd (none_some (link ks v) s (unlinked v) q);
  }

  pub bare_low : (xs : List W) (ks : List (Option Step)) → ((v : ℕ) → potential G.ops xs v ≡ G.ops.none) → Low G.ops xs ks
  bare_low xs ks none v q = le_eq G (potential G.ops xs v) G.ops.none (none v)

  module _ (xs : List W) (ks : List (Option Step)) (f : Forest G.ops n ls xs ks) where
    abbrev L : ℕ → W
    L v = potential G.ops xs v

    pub forest_linked : Linked ls ks
    forest_linked v s e =
        let j = f.joined v s e in
        (j.goes.0, let l = tail_in f.sound s j.goes.0 in let k = f.links_long in omega arith)

    -- one step more of a way up keeps what the way is worth
    up_gains : (x : ℕ) (t : Step) (p : List Step) → Joined G.ops n ls xs x t → Le G.ops (G.ops.plus (L x) (gain G.ops N p)) (G.ops.plus (L (tail_of ls t)) (gain G.ops N (t ∷ p)))
    up_gains x t p j = subst (Le G.ops (G.ops.plus (L x) (gain G.ops N p))) (G.laws.assoc (L (tail_of ls t)) (step_worth G.ops N t) (gain G.ops N p)) (le_right G (L x) (offer G.ops n ls xs t) (gain G.ops N p) j.most)

    further : (x : ℕ) (t : Step) (p : List Step) (v : ℕ) → Joined G.ops n ls xs x t → Walk N (flow_of ls) x p v → Walk N (flow_of ls) (tail_of ls t) (t ∷ p) v
    further x t p v j w = (refl, j.goes, subst (λ y. Walk N (flow_of ls) y p v) (sym j.ends) w)

    close : (v x : ℕ) (p : List Step) → Walk N (flow_of ls) x p v → Apart (starts N p) → Lt G.ops (L v) (G.ops.plus (L x) (gain G.ops N p)) → v ≡ x → Gainful G.ops N (flow_of ls) p
    close v x p w apart more e =
        let here : Lt G.ops (L v) (G.ops.plus (L v) (gain G.ops N p)) = subst (λ y. Lt G.ops (L v) (G.ops.plus (L y) (gain G.ops N p))) (sym e) more in
        record { node = v; closed = subst (λ y. Walk N (flow_of ls) y p v) (sym e) w; apart = apart; gains = sym (shift G (L v) G.ops.none (gain G.ops N p)) ∙ subst (λ z. Lt G.ops z (G.ops.plus (L v) (gain G.ops N p))) (sym (unit_right G (L v))) here }

    -- a way up from x to v that closes a cycle with the steps p from x on
    pub record Closes (x v : ℕ) (p : List Step) (m : ℕ) : Type 0 where
      pub trail : List Step
      pub climbs : Trail ls ks x v trail
      pub gainful : Gainful G.ops N (flow_of ls) (onto trail p)
      pub short : length trail ≤ m

    -- up from x by q: v is not on the way, or a cycle closes there
    climb : (v x : ℕ) (q p : List Step) → Up ls ks x q → Walk N (flow_of ls) x p v → Apart (starts N p) → Below ls ks (length q) (starts N p) → Lt G.ops (L v) (G.ops.plus (L x) (gain G.ops N p)) → Fresh v (line ls x q) ⊎ Closes x v p (length q)
    climb v x [] p up w apart deep more = ⊎_elim (λ e. inr (record { trail = []; climbs = sym e; gainful = close v x p w apart more e; short = omega arith })) (λ d. inl (d, tt)) (cases_eq v x)
    climb v x (t ∷ q) p up w apart deep more =
        let j = f.joined x t up.0 in
        let above = lt_le_trans G (L v) (G.ops.plus (L x) (gain G.ops N p)) (G.ops.plus (L (tail_of ls t)) (gain G.ops N (t ∷ p))) more (up_gains x t p j) in
        ⊎_elim (λ e. inr (record { trail = []; climbs = sym e; gainful = close v x p w apart more e; short = omega arith }))
        (λ d. ⊎_elim (λ r. inl (d, r)) (λ c. inr (record { trail = t ∷ c.trail; climbs = ((λ e. d (sym e)), up.0, c.climbs); gainful = c.gainful; short = let s = c.short in omega arith }))
        (climb v (tail_of ls t) q (t ∷ p) up.1 (further x t p v j w) (below_fresh ls ks (tail_of ls t) q (starts N p) up.1 deep, apart) ((q, up.1, omega arith), below_less ls ks (length q) (suc (length q)) (starts N p) (omega arith) deep) above))
        (cases_eq v x)

    -- the walk down from a root to v
    record Rooting (v : ℕ) (a : W) (m : ℕ) : Type 0 where
      source : ℕ
      walk : List Step
      walks : Walk N (flow_of ls) source walk v
      apart : Apart (visits N walk v)
      root : link ks source ≡ None
      most : Le G.ops a (G.ops.plus (L source) (gain G.ops N walk))
      long : length walk ≡ m

    rooting : (v x : ℕ) (q p : List Step) → Up ls ks x q → Walk N (flow_of ls) x p v → Apart (visits N p v) → Below ls ks (length q) (visits N p v) → Rooting v (G.ops.plus (L x) (gain G.ops N p)) (length q + length p)
    rooting v x [] p up w apart deep = record { source = x; walk = p; walks = w; apart = apart; root = up; most = le_eq G (G.ops.plus (L x) (gain G.ops N p)) (G.ops.plus (L x) (gain G.ops N p)) refl; long = omega arith }
    rooting v x (t ∷ q) p up w apart deep =
        let j = f.joined x t up.0 in
        let r = rooting v (tail_of ls t) q (t ∷ p) up.1 (further x t p v j w) (below_fresh ls ks (tail_of ls t) q (visits N p v) up.1 deep, apart) ((q, up.1, omega arith), below_less ls ks (length q) (suc (length q)) (visits N p v) (omega arith) deep) in
        record { source = r.source; walk = r.walk; walks = r.walks; apart = r.apart; root = r.root; most = le_trans G (G.ops.plus (L x) (gain G.ops N p)) (G.ops.plus (L (tail_of ls t)) (gain G.ops N (t ∷ p))) (G.ops.plus (L r.source) (gain G.ops N r.walk)) (up_gains x t p j) r.most; long = let e = r.long in omega arith }

    from_root : (v : ℕ) (q : List Step) → Up ls ks v q → Rooting v (G.ops.plus (L v) G.ops.none) (length q + 0)
    from_root v q up = rooting v v q [] up refl (tt, tt) ((q, up, omega arith), tt)

    few_steps : (v m : ℕ) (a : W) → v < n → (t : Rooting v a m) → length t.walk < n
    few_steps v m a l t =
        let few = pigeonhole n (visits N t.walk v) (visits_in N (net_sound f.sound) (flow_of ls) t.source t.walk v t.walks l) t.apart in
        let e = visits_length N t.walk v in
        omega arith

    -- a potential is at most the greatest worth of a walk of fewer steps than there are nodes
    pub under : Low G.ops xs ks → (k v : ℕ) → n ≤ suc k → v < n → Le G.ops (L v) (reach G N (flow_of ls) k v)
    under low k v h l =
        let q = f.rooted v l in
        let t = from_root v q.0 q.1 in
        let few = few_steps v (length q.0 + 0) (G.ops.plus (L v) G.ops.none) l t in
        let below = subst (Le G.ops (G.ops.plus (L t.source) (gain G.ops N t.walk))) (G.laws.neutral (gain G.ops N t.walk)) (le_right G (L t.source) G.ops.none (gain G.ops N t.walk) (low t.source t.root)) in
        let most = le_trans G (G.ops.plus (L v) G.ops.none) (G.ops.plus (L t.source) (gain G.ops N t.walk)) (gain G.ops N t.walk) t.most below in
        le_trans G (L v) (gain G.ops N t.walk) (reach G N (flow_of ls) k v) (subst (λ z. Le G.ops z (gain G.ops N t.walk)) (unit_right G (L v)) most) (walk_under G N (flow_of ls) k t.source t.walk v t.walks (omega arith))

    -- a way up is shorter than there are nodes
    pub way_short : (v : ℕ) (q : List Step) → v < n → Up ls ks v q → length q < n
    way_short v q l up =
        let t = from_root v q up in
        let few = few_steps v (length q + 0) (G.ops.plus (L v) G.ops.none) l t in
        let g = t.long in
        omega arith

    pub forest_rooted : (v : ℕ) → v < n → Rooted ls ks v
    forest_rooted v l =
        let q = f.rooted v l in
        (q.0, q.1, let s = way_short v q.0 l q.1 in let e = f.links_long in omega arith)

    module _ (s : Step) (goes : Open N (flow_of ls) s) (more : Lt G.ops (L (head_of ls s)) (offer G.ops n ls xs s)) (q : List Step) (up : Up ls ks (tail_of ls s) q) where
      -- a step to a node on its own way up closes a cycle
      pub closes : (Fresh (head_of ls s) (line ls (tail_of ls s) q) → ⊥) → Closes (tail_of ls s) (head_of ls s) (s ∷ []) (length q)
      closes on =
          ⊎_elim (λ r. absurd (on r)) (λ c. c)
          (climb (head_of ls s) (tail_of ls s) q (s ∷ []) up (refl, goes, refl) (tt, tt) ((q, up, omega arith), tt) (subst (λ z. Lt G.ops (L (head_of ls s)) (G.ops.plus (L (tail_of ls s)) z)) (sym (unit_right G (step_worth G.ops N s))) more))

      -- any other may raise it
      pub grown : Fresh (head_of ls s) (line ls (tail_of ls s) q) → Forest G.ops n ls (set xs (head_of ls s) (offer G.ops n ls xs s)) (set ks (head_of ls s) (Some s))
      grown fresh = record {
        sound = f.sound;
        potentials_long = length-set xs v a ∙ f.potentials_long;
        links_long = omega (arith, length-set ks v (Some s), f.links_long);
        rooted = λ x l. reroot ls ks v s at_links q (avoids ls ks v s (tail_of ls s) q fresh up) x (f.rooted x l).0 (f.rooted x l).1;
        joined = joined';
      }
        where
          v : ℕ
          v = head_of ls s

          a : W
          a = offer G.ops n ls xs s

          ys : List W
          ys = set xs v a

          at_links : v < length ks
          at_links = let l = head_in f.sound s goes.0 in let e = f.links_long in omega arith

          at_potentials : v < length xs
          at_potentials = let l = head_in f.sound s goes.0 in let e = f.potentials_long in omega arith

          here : potential G.ops ys v ≡ a
          here = get_or-set_same xs v a G.ops.none at_potentials

          off : (x : ℕ) → (v ≡ x → ⊥) → potential G.ops ys x ≡ L x
          off x d = get_or-set_other xs v x a G.ops.none (λ e. d (sym e))

          raises : (x : ℕ) → Le G.ops (L x) (potential G.ops ys x)
          raises x = ⊎_elim (λ e. subst (λ y. Le G.ops (L y) (potential G.ops ys y)) e (subst (Le G.ops (L v)) (sym here) (lt_le G (L v) a more))) (λ d. le_eq G (L x) (potential G.ops ys x) (sym (off x d))) (cases_eq v x)

          offers : (t : Step) → Le G.ops (offer G.ops n ls xs t) (offer G.ops n ls ys t)
          offers t = le_right G (L (tail_of ls t)) (potential G.ops ys (tail_of ls t)) (step_worth G.ops N t) (raises (tail_of ls t))

          at_v : Joined G.ops n ls ys v s
          at_v = record { ends = refl; goes = goes; most = subst (λ z. Le G.ops z (offer G.ops n ls ys s)) (sym here) (offers s) }

          kept : (x : ℕ) (t : Step) → (v ≡ x → ⊥) → Joined G.ops n ls xs x t → Joined G.ops n ls ys x t
          kept x t d j = record { ends = j.ends; goes = j.goes; most = subst (λ z. Le G.ops z (offer G.ops n ls ys t)) (sym (off x d)) (le_trans G (L x) (offer G.ops n ls xs t) (offer G.ops n ls ys t) j.most (offers t)) }

          joined' : (x : ℕ) (t : Step) → link (set ks v (Some s)) x ≡ Some t → Joined G.ops n ls ys x t
          joined' x t e = ⊎_elim (λ same. subst₂ (Joined G.ops n ls ys) same (same_some (link (set ks v (Some s)) x) s t (subst (λ y. link (set ks v (Some s)) y ≡ Some s) same (link_here ks v s at_links)) e) at_v) (λ d. kept x t d (f.joined x t (sym (link_off ks v s x d) ∙ e))) (cases_eq v x)
