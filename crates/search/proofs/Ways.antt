-- Ways up along the links.
use Rattle.std.proofs.Common.{get_or, set, ◌≡◌, ℕ, zero, suc, ◌+◌, ◌-◌, ◌<◌, ◌≤◌, ◌⊎◌, inl, inr, true, false, ◌↔◌, List, [], ◌∷◌, length, Some, None, Option, sym, refl, ap, ◌∙◌, subst, subst₂, ap₂, ⊎_elim, arith}
use Rattle.std.proofs.lemmas.List.{get_or_past, length-set, get_or-set_same, get_or-set_other}
use Rattle.std.proofs.lemmas.Bool.{true≢false, cases_eq}
use Rattle.flow.specs.declared.arc.Arc.{Arc}
use Rattle.flow.specs.declared.step.Step.{Step}
use Rattle.flow.specs.Steps.{Fresh}
use Rattle.search.specs.Links.{tail_of, link, Unlinked, Up, line, Rooted, Told, Stands, Paired}

pub none_some : {A : Type 0} (x : Option A) (s : A) → x ≡ None → x ≡ Some s → ⊥
none_some x s e f = let z : ◌≡◌ {A = ℕ} 0 1 = cc in omega arith

pub same_some : {A : Type 0} (x : Option A) (s t : A) → x ≡ Some s → x ≡ Some t → s ≡ t
same_some x s t e f = cc

module _ (ls : List Arc) (ks : List (Option Step)) where
  -- there is but one way up
  pub one_way : (v : ℕ) (q r : List Step) → Up ls ks v q → Up ls ks v r → q ≡ r
  one_way v [] [] a b = refl
  one_way v [] (s ∷ r) a b = absurd (none_some (link ks v) s a b.0)
  one_way v (s ∷ q) [] a b = absurd (none_some (link ks v) s b a.0)
  one_way v (s ∷ q) (t ∷ r) a b =
      let e = same_some (link ks v) s t a.0 b.0 in
      ap₂ ◌∷◌ e (one_way (tail_of ls s) q r a.1 (subst (λ x. Up ls ks (tail_of ls x) r) (sym e) b.1))

  not_fresh : (v : ℕ) (q : List Step) → Fresh v (line ls v q) → ⊥
  not_fresh v [] f = f.0 refl
  not_fresh v (s ∷ q) f = f.0 refl

  pub met : (v goal : ℕ) → v ≡ goal → (q : List Step) → (true ≡ false) ↔ Fresh goal (line ls v q)
  met v goal e q = (λ f. absurd (true≢false f), λ f. absurd (not_fresh v q (subst (λ x. Fresh x (line ls v q)) (sym e) f)))

  -- how many steps are to come from node v up, k of them at most
  abbrev steps_up : Option Step → (ℕ → ℕ) → ℕ
  steps_up None f = 0
  steps_up (Some s) f = suc (f (tail_of ls s))

  abbrev height : ℕ → ℕ → ℕ
  height zero v = 0
  height (suc k) v = steps_up (link ks v) (height k)

  height_is : (k v : ℕ) (q : List Step) → Up ls ks v q → length q ≤ k → height k v ≡ length q
  height_is zero v [] w h = refl
  height_is zero v (s ∷ q) w h = absurd (omega arith)
  height_is (suc k) v [] w h = rw w refl
  height_is (suc k) v (s ∷ q) w h = rw w.0 (ap suc (height_is k (tail_of ls s) q w.1 (omega arith)))

  -- what is left of a way up: the steps from node v on, and one more to where no node is
  abbrev pub left : ℕ → ℕ
  left v = (1 - (suc v - length ks)) + height (length ks) v

  -- on the way up from a node to v: what stands there still decides, or the root is passed
  abbrev pub Climbing : ℕ → ℕ → ℕ → Type 0
  Climbing goal from v =
      ((q : List Step) × Up ls ks v q × (length q < length ks) × ((p : List Step) → Up ls ks from p → Fresh goal (line ls v q) ↔ Fresh goal (line ls from p)))
      ⊎ ((length ks ≤ v) × ((p : List Step) → Up ls ks from p → Fresh goal (line ls from p)))

  pub climb_first : (goal from : ℕ) → Rooted ls ks from → Climbing goal from from
  climb_first goal from r = inl (r.0, r.1, r.2, λ p u. subst (λ q. Fresh goal (line ls from r.0) ↔ Fresh goal (line ls from q)) (one_way from r.0 p r.1 u) (λ f. f, λ f. f))

  pub climb_met : {goal from v : ℕ} → Climbing goal from v → v ≡ goal → goal < length ks → Told ls ks from goal true
  climb_met {goal} {from} {v} (inl c) e l p u = (λ f. absurd (true≢false f), λ f. (met v goal e c.0).1 ((c.3 p u).1 f))
  climb_met (inr c) e l p u = absurd (let h = c.0 in omega arith)

  pub climb_end : {goal from v : ℕ} → Climbing goal from v → (v ≡ goal → ⊥) → length ks ≤ v → Told ls ks from goal false
  climb_end {goal} {from} {v} (inl c) d h p u = (λ f. (c.3 p u).0 (last c.0 c.1), λ f. refl)
    where
      last : (q : List Step) → Up ls ks v q → Fresh goal (line ls v q)
      last [] w = ((λ e. d (sym e)), tt)
      last (s ∷ q) w = absurd (none_some (link ks v) s (get_or_past ks v None h) w.0)
  climb_end (inr c) d h p u = (λ f. c.1 p u, λ f. refl)

  module _ {us : List ℕ} (pair : Paired ls ks us) {goal from v : ℕ} (l : v < length ks) {x : ℕ} (is : x ≡ get_or us v 0) where
    pub climb_on : Climbing goal from v → (v ≡ goal → ⊥) → Climbing goal from x
    climb_on (inl c) d = go c.0 c.1 c.2 c.3 (pair.each v l)
      where
        go : (q : List Step) → Up ls ks v q → length q < length ks → ((p : List Step) → Up ls ks from p → Fresh goal (line ls v q) ↔ Fresh goal (line ls from p)) → Stands ls (length ks) (link ks v) (get_or us v 0) → Climbing goal from x
        go [] w h f stands = inr (let z = stands.off w in omega arith, λ p u. (f p u).0 ((λ e. d (sym e)), tt))
        go (s ∷ q) w h f stands =
            let z = is ∙ stands.on s w.0 in
            inl (q, subst (λ y. Up ls ks y q) (sym z) w.1, omega arith, λ p u. (λ a. (f p u).0 ((λ e. d (sym e)), subst (λ y. Fresh goal (line ls y q)) z a), λ b. subst (λ y. Fresh goal (line ls y q)) (sym z) ((f p u).1 b).1))
    climb_on (inr c) d = absurd (let h = c.0 in omega arith)

    pub less_left : Climbing goal from v → left x < left v
    less_left (inl c) = go c.0 c.1 c.2 (pair.each v l)
      where
        go : (q : List Step) → Up ls ks v q → length q < length ks → Stands ls (length ks) (link ks v) (get_or us v 0) → left x < left v
        go [] w h stands = let past = stands.off w in omega (arith, height_is (length ks) v [] w (omega arith), height_is (length ks) x [] (get_or_past ks x None (omega arith)) (omega arith))
        go (s ∷ q) w h stands = omega (arith, height_is (length ks) v (s ∷ q) w (omega arith), height_is (length ks) x q (subst (λ y. Up ls ks y q) (sym (is ∙ stands.on s w.0)) w.1) (omega arith))
    less_left (inr c) = absurd (let h = c.0 in omega arith)

  -- the way up from node v leaves out the goal, or what is left of it at the goal is no longer
  fresh_or : (goal v : ℕ) (q : List Step) → Up ls ks v q → Fresh goal (line ls v q) ⊎ ((p : List Step) × Up ls ks goal p × (length p ≤ length q))
  fresh_or goal v [] up = ⊎_elim (λ e. inr ([], subst (λ x. Up ls ks x []) (sym e) up, omega arith)) (λ d. inl (d, tt)) (cases_eq goal v)
  fresh_or goal v (s ∷ q) up = ⊎_elim (λ e. inr (s ∷ q, subst (λ x. Up ls ks x (s ∷ q)) (sym e) up, omega arith)) (λ d. on d (fresh_or goal (tail_of ls s) q up.1)) (cases_eq goal v)
    where
      on : (goal ≡ v → ⊥) → Fresh goal (line ls (tail_of ls s) q) ⊎ ((p : List Step) × Up ls ks goal p × (length p ≤ length q)) → Fresh goal (line ls v (s ∷ q)) ⊎ ((p : List Step) × Up ls ks goal p × (length p ≤ length (s ∷ q)))
      on d (inl f) = inl (d, f)
      on d (inr z) = inr (z.0, z.1, (let h = z.2 in omega arith))

  -- the way up from where the link of the goal starts does not come round to the goal
  pub told_next : (us : List ℕ) → Paired ls ks us → (from goal : ℕ) → goal < length ks → get_or us goal 0 ≡ from → Told ls ks from goal false
  told_next us p from goal l is q up = (λ e. fresh (link ks goal) refl, λ f. refl)
    where
      root : length ks ≤ from → (r : List Step) → Up ls ks from r → Fresh goal (line ls from r)
      root h [] w = ((λ e. absurd (omega arith)), tt)
      root h (s ∷ r) w = absurd (none_some (link ks from) s (get_or_past ks from None h) w.0)

      round : (s : Step) → link ks goal ≡ Some s → (r : List Step) × Up ls ks goal r × (length r ≤ length q) → ⊥
      round s e z =
          let a = one_way goal z.0 (s ∷ q) z.1 (e, subst (λ x. Up ls ks x q) (sym is ∙ (p.each goal l).on s e) up) in
          absurd (omega (arith, ap length a, z.2))

      fresh : (k : Option Step) → link ks goal ≡ k → Fresh goal (line ls from q)
      fresh None e = root (let h = (p.each goal l).off e in omega arith) q up
      fresh (Some s) e = ⊎_elim (λ f. f) (λ z. absurd (round s e z)) (fresh_or goal from q up)

-- a link set, with its entry in the row
pub paired_set : (ls : List Arc) (ks : List (Option Step)) (us : List ℕ) (v : ℕ) (s : Step) (u : ℕ) → Paired ls ks us → u ≡ tail_of ls s → Paired ls (set ks v (Some s)) (set us v u)
paired_set ls ks us v s u p is = record {
  long = length-set us v u ∙ p.long ∙ sym (length-set ks v (Some s));
  each = λ x l. let k = length-set ks v (Some s) in subst (λ n. Stands ls n (link (set ks v (Some s)) x) (get_or (set us v u) x 0)) (sym k) (each x (omega arith));
}
  where
    each : (x : ℕ) → x < length ks → Stands ls (length ks) (link (set ks v (Some s)) x) (get_or (set us v u) x 0)
    each x l =
        ⊎_elim
        (λ e. subst₂ (Stands ls (length ks)) (sym (ap (λ y. link (set ks y (Some s)) x) (sym e) ∙ get_or-set_same ks x (Some s) None l)) (sym (ap (λ y. get_or (set us y u) x 0) (sym e) ∙ get_or-set_same us x u 0 (let h = p.long in omega arith))) (record { off = λ z. absurd (none_some (Some s) s z refl); on = λ t z. is ∙ ap (tail_of ls) (same_some (Some s) s t refl z) }))
        (λ d. subst₂ (Stands ls (length ks)) (sym (get_or-set_other ks v x (Some s) None d)) (sym (get_or-set_other us v x u 0 d)) (p.each x l))
        (cases_eq x v)

-- a link taken away, with its entry
pub paired_cut : (ls : List Arc) (ks : List (Option Step)) (us : List ℕ) (v u : ℕ) → Paired ls ks us → length ks ≤ u → Paired ls (set ks v None) (set us v u)
paired_cut ls ks us v u p h = record {
  long = length-set us v u ∙ p.long ∙ sym (length-set ks v None);
  each = λ x l. let k = length-set ks v None in subst (λ n. Stands ls n (link (set ks v None) x) (get_or (set us v u) x 0)) (sym k) (each x (omega arith));
}
  where
    each : (x : ℕ) → x < length ks → Stands ls (length ks) (link (set ks v None) x) (get_or (set us v u) x 0)
    each x l =
        ⊎_elim
        (λ e. subst₂ (Stands ls (length ks)) (sym (ap (λ y. link (set ks y None) x) (sym e) ∙ get_or-set_same ks x None None l)) (sym (ap (λ y. get_or (set us y u) x 0) (sym e) ∙ get_or-set_same us x u 0 (let k = p.long in omega arith))) (record { off = λ z. h; on = λ t z. absurd (none_some None t refl z) }))
        (λ d. subst₂ (Stands ls (length ks)) (sym (get_or-set_other ks v x None None d)) (sym (get_or-set_other us v x u 0 d)) (p.each x l))
        (cases_eq x v)

-- where nothing is linked
pub none_paired : (ls : List Arc) (ks : List (Option Step)) (us : List ℕ) → length us ≡ length ks → Unlinked ks → ((v : ℕ) → v < length ks → get_or us v 0 ≡ length ks) → Paired ls ks us
none_paired ls ks us long unlinked all = record { long = long; each = λ v l. record { off = λ z. (let e = all v l in omega arith); on = λ t z. absurd (none_some (link ks v) t (unlinked v) z) } }

pub bare_paired : (ls : List Arc) (ks : List (Option Step)) (us : List ℕ) → length ks ≡ 272 → Unlinked ks → length us ≡ 272 → ((v : ℕ) → v < 272 → get_or us v 0 ≡ 272) → Paired ls ks us
bare_paired ls ks us wide unlinked broad all = none_paired ls ks us (omega arith) unlinked (λ v l. let e = all v (omega arith) in omega arith)
