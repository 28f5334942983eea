-- A walk that visits a node twice has a cycle in it, and a shorter walk is left without it.
use Rattle.std.proofs.Common.{◌≡◌, ℕ, suc, ◌+◌, ◌<◌, ◌≤◌, ◌⊎◌, List, [], ◌∷◌, length, sym, refl, ap, ◌∙◌, subst, inl, inr, ⊎_elim, arith}
use Rattle.std.specs.List.{AllByRecursion}
use Rattle.std.proofs.lemmas.Bool.{cases_eq}
use Rattle.flow.specs.Groups.{Kind}
use Rattle.flow.specs.Graphs.{Graph, Sound}
use Rattle.flow.specs.Steps.{start, stop, arc, Walk, starts, step_worth, gain, Fresh, Apart}
use Rattle.flow.specs.declared.step.Step.{Step}
use Rattle.flow.specs.declared.step.Step.TheVariants.{Forward, Backward}
use Rattle.flow.proofs.Group.{left_comm}
use Rattle.flow.proofs.Holes.{pigeonhole}

module _ {W : Type 0} (N : Graph W) where
  -- the nodes that a walk to b visits
  abbrev pub visits : List Step → ℕ → List ℕ
  visits [] b = b ∷ []
  visits (s ∷ p) b = start N s ∷ visits p b

  pub visits_length : (p : List Step) (b : ℕ) → length (visits p b) ≡ suc (length p)
  visits_length [] b = refl
  visits_length (s ∷ p) b = ap suc (visits_length p b)

  pub start_in : Sound N → (s : Step) → arc s < N.arcs → start N s < N.nodes
  start_in z (Forward i) h = z.frm_in i h
  start_in z (Backward i) h = z.to_in i h

  pub visits_in : Sound N → (u : ℕ → ℕ) (a : ℕ) (p : List Step) (b : ℕ) → Walk N u a p b → b < N.nodes → AllByRecursion (λ x. x < N.nodes) (visits p b)
  visits_in z u a [] b w h = (h, tt)
  visits_in z u a (s ∷ p) b w h = (start_in z s w.1.0, visits_in z u (stop N s) p b w.2 h)

module _ {W : Type 0} (G : Kind W) (N : Graph W) (u : ℕ → ℕ) where
  -- the part of the walk p up to its first visit of x, and the rest
  record Parted (a : ℕ) (p : List Step) (b x : ℕ) : Type 0 where
    front : List Step
    rest : List Step
    to_x : Walk N u a front x
    from_x : Walk N u x rest b
    fresh : Fresh x (starts N front)
    gains : gain G.ops N p ≡ G.ops.plus (gain G.ops N front) (gain G.ops N rest)
    long : length p ≡ length front + length rest
    stays_fresh : (y : ℕ) → Fresh y (visits N p b) → Fresh y (starts N front)
    stays_apart : Apart (visits N p b) → Apart (starts N front)

  part : (a : ℕ) (p : List Step) (b x : ℕ) → Walk N u a p b → Fresh x (visits N p b) ⊎ Parted a p b x
  part a [] b x w = ⊎_elim (λ e. inr (here e)) (λ d. inl (d, tt)) (cases_eq x b)
    where
      here : x ≡ b → Parted a [] b x
      here e = record { front = []; rest = []; to_x = w ∙ sym e; from_x = e; fresh = tt; gains = sym (G.laws.neutral G.ops.none); long = refl; stays_fresh = λ y f. tt; stays_apart = λ f. tt }
  part a (s ∷ p) b x w = ⊎_elim (λ e. inr (here e)) (λ d. ⊎_elim (λ f. inl (d, f)) (λ r. inr (there d r)) (part (stop N s) p b x w.2)) (cases_eq x (start N s))
    where
      here : x ≡ start N s → Parted a (s ∷ p) b x
      here e = record { front = []; rest = s ∷ p; to_x = sym (e ∙ w.0); from_x = (sym e, w.1, w.2); fresh = tt; gains = sym (G.laws.neutral (gain G.ops N (s ∷ p))); long = omega arith; stays_fresh = λ y f. tt; stays_apart = λ f. tt }

      there : (x ≡ start N s → ⊥) → Parted (stop N s) p b x → Parted a (s ∷ p) b x
      there d r = record {
        front = s ∷ r.front;
        rest = r.rest;
        to_x = (w.0, w.1, r.to_x);
        from_x = r.from_x;
        fresh = (d, r.fresh);
        gains = ap (G.ops.plus (step_worth G.ops N s)) r.gains ∙ sym (G.laws.assoc (step_worth G.ops N s) (gain G.ops N r.front) (gain G.ops N r.rest));
        long = let l = r.long in omega arith;
        stays_fresh = λ y f. (f.0, r.stays_fresh y f.1);
        stays_apart = λ f. (r.stays_fresh (start N s) f.0, r.stays_apart f.1);
      }

  -- a walk with a cycle cut out
  pub record Cut (a : ℕ) (p : List Step) (b : ℕ) : Type 0 where
    pub node : ℕ
    pub cycle : List Step
    pub left : List Step
    pub closed : Walk N u node cycle node
    pub apart : Apart (starts N cycle)
    pub walk : Walk N u a left b
    pub shorter : length left < length p
    pub gains : gain G.ops N p ≡ G.ops.plus (gain G.ops N cycle) (gain G.ops N left)

  pub cut : (a : ℕ) (p : List Step) (b : ℕ) → Walk N u a p b → Apart (visits N p b) ⊎ Cut a p b
  cut a [] b w = inl (tt, tt)
  cut a (s ∷ p) b w = ⊎_elim (λ f. ⊎_elim (λ x. inl (x, f)) (λ r. inr (here f r)) (part (stop N s) p b (start N s) w.2)) (λ r. inr (there r)) (cut (stop N s) p b w.2)
    where
      here : Apart (visits N p b) → Parted (stop N s) p b (start N s) → Cut a (s ∷ p) b
      here f r = record {
        node = start N s;
        cycle = s ∷ r.front;
        left = r.rest;
        closed = (refl, w.1, r.to_x);
        apart = (r.fresh, r.stays_apart f);
        walk = subst (λ t. Walk N u t r.rest b) w.0 r.from_x;
        shorter = let l = r.long in omega arith;
        gains = ap (G.ops.plus (step_worth G.ops N s)) r.gains ∙ sym (G.laws.assoc (step_worth G.ops N s) (gain G.ops N r.front) (gain G.ops N r.rest));
      }

      there : Cut (stop N s) p b → Cut a (s ∷ p) b
      there r = record {
        node = r.node;
        cycle = r.cycle;
        left = s ∷ r.left;
        closed = r.closed;
        apart = r.apart;
        walk = (w.0, w.1, r.walk);
        shorter = let l = r.shorter in omega arith;
        gains = ap (G.ops.plus (step_worth G.ops N s)) r.gains ∙ left_comm G (step_worth G.ops N s) (gain G.ops N r.cycle) (gain G.ops N r.left);
      }

  -- a walk of as many steps as there are nodes, or more, can be cut
  pub cut_long : Sound N → (a : ℕ) (p : List Step) (b : ℕ) → Walk N u a p b → b < N.nodes → N.nodes ≤ length p → Cut a p b
  cut_long z a p b w h l = ⊎_elim (λ f. absurd (short f)) (λ r. r) (cut a p b w)
    where
      short : Apart (visits N p b) → ⊥
      short f =
          let few = pigeonhole N.nodes (visits N p b) (visits_in N z u a p b w h) f in
          let e = visits_length N p b in
          omega arith
