-- Every cycle that can be gone along, by a test that computes.
use Rattle.std.proofs.Common.{◌≡◌, ℕ, zero, suc, ◌<◌, ◌≤◌, Bool, true, false, not, ◌&&◌, ◌||◌, eqb, ltb, List, [], ◌∷◌, length, sym, refl, ap, ◌∙◌, subst, ⊎_elim, arith}
use Rattle.std.proofs.lemmas.Bool.{both_ways, and_parts, and_from, or_from, not-true, eq-eqb, ne_eqb, lt-ltb, cases_eq}
use Rattle.std.specs.List.{AllByRecursion}
use Rattle.worth.specs.Kinds.{Ops, Laws}
use Rattle.flow.specs.Groups.{times}
use Rattle.flow.specs.Graphs.{Graph, Sound}
use Rattle.flow.specs.Steps.{arc, start, stop, residual, Walk, starts, Fresh, Apart, Gainful, gain, Allows}
use Rattle.flow.specs.declared.step.Step.{Step}
use Rattle.flow.specs.declared.step.Step.TheVariants.{Forward, Backward}
use Rattle.flow.proofs.Holes.{pigeonhole}
use Rattle.network.specs.Networks.{Net, flow_in, graph}
use Rattle.search.specs.Outcomes.{Improves}
use Rattle.cases.proofs.Most.{least, most_is}
use Rattle.cases.proofs.Every.{rise_is}
use Rattle.cases.proofs.Tests.{all_below, below, implied}

abbrev is_among : ℕ → List ℕ → Bool
is_among v [] = false
is_among v (x ∷ xs) = eqb v x || is_among v xs

still_new : (a : ℕ) (seen xs : List ℕ) → Fresh a xs → AllByRecursion (λ v. is_among v seen ≡ false) xs → AllByRecursion (λ v. is_among v (a ∷ seen) ≡ false) xs
still_new a seen [] f d = tt
still_new a seen (x ∷ xs) f d = (or_from (eqb x a) (is_among x seen) (ne_eqb x a (λ e. f.0 (sym e))) d.0, still_new a seen xs f.1 d.1)

-- the test holds of each step along an arc below m
abbrev each_step : ℕ → (Step → Bool) → Bool
each_step zero p = true
each_step (suc m) p = p (Forward m) && (p (Backward m) && each_step m p)

at_step : (m : ℕ) (p : Step → Bool) → each_step m p ≡ true → (s : Step) → arc s < m → p s ≡ true
at_step zero p h s l = absurd (omega arith)
at_step (suc m) p h s l =
    let a = and_parts (p (Forward m)) (p (Backward m) && each_step m p) h in
    let b = and_parts (p (Backward m)) (each_step m p) a.1 in
    ⊎_elim (λ e. here s e a.0 b.0) (λ d. at_step m p b.1 s (omega arith)) (cases_eq (arc s) m)
  where
    here : (s : Step) → arc s ≡ m → p (Forward m) ≡ true → p (Backward m) ≡ true → p s ≡ true
    here (Forward i) e x y = subst (λ k. p (Forward k) ≡ true) (sym e) x
    here (Backward i) e x y = subst (λ k. p (Backward k) ≡ true) (sym e) y

abbrev if_so : Bool → Bool → Bool
if_so true b = b
if_so false b = true

so : (a b : Bool) → if_so a b ≡ true → a ≡ true → b ≡ true
so true b h k = h
so false b h k = absurd (both_ways false refl k)

module _ {W : Type 0} (N : Graph W) (u : ℕ → ℕ) where
  abbrev can_go : ℕ → Step → Bool
  can_go a s = eqb (start N s) a && ltb 0 (residual N u s)

  -- the test holds of each row of at most k residual steps from a to z that starts at no node twice and at none of those seen
  abbrev every : ℕ → ℕ → ℕ → List ℕ → (List Step → Bool) → Bool
  every zero z a seen p = true
  every (suc k) z a seen p = each_step N.arcs (λ s. elim (can_go a s) as (λ _. Bool) [ false ↦ true | true ↦ if_so (eqb (stop N s) z) (p (s ∷ [])) && (elim (is_among (stop N s) (a ∷ seen)) as (λ _. Bool) [ true ↦ true | false ↦ every k z (stop N s) (a ∷ seen) (λ c. p (s ∷ c)) ]) ])

  length_starts : (c : List Step) → length (starts N c) ≡ length c
  length_starts [] = refl
  length_starts (s ∷ c) = ap suc (length_starts c)

  start_below : Sound N → (s : Step) → arc s < N.arcs → start N s < N.nodes
  start_below z (Forward i) h = z.frm_in i h
  start_below z (Backward i) h = z.to_in i h

  starts_below : Sound N → (a b : ℕ) (c : List Step) → Walk N u a c b → AllByRecursion (λ v. v < N.nodes) (starts N c)
  starts_below z a b [] w = tt
  starts_below z a b (s ∷ c) w = (start_below z s w.1.0, starts_below z (stop N s) b c w.2)

  goes : (b : Bool) (x : Bool) → (elim b as (λ _. Bool) [ false ↦ true | true ↦ x ]) ≡ true → b ≡ true → x ≡ true
  goes true x h k = h
  goes false x h k = absurd (both_ways false refl k)

  goes_not : (b : Bool) (x : Bool) → (elim b as (λ _. Bool) [ true ↦ true | false ↦ x ]) ≡ true → b ≡ false → x ≡ true
  goes_not false x h k = h
  goes_not true x h k = absurd (both_ways true k refl)

  can : (a b : ℕ) (s : Step) (c : List Step) → Walk N u a (s ∷ c) b → can_go a s ≡ true
  can a b s c w = and_from (eqb (start N s) a) (ltb 0 (residual N u s)) (eq-eqb (start N s) a w.0) (lt-ltb 0 (residual N u s) w.1.1)

  at_row : (k z a : ℕ) (seen : List ℕ) (p : List Step → Bool) (s : Step) (c : List Step) → every k z a seen p ≡ true → length (s ∷ c) ≤ k → Walk N u a (s ∷ c) z → Apart (starts N (s ∷ c)) → AllByRecursion (λ v. is_among v seen ≡ false) (starts N (s ∷ c)) → p (s ∷ c) ≡ true
  at_row zero z a seen p s c h l w f d = absurd (let m : suc (length c) ≤ 0 = l in omega arith)
  at_row (suc k) z a seen p s [] h l w f d =
      let x : Bool = if_so (eqb (stop N s) z) (p (s ∷ [])) in
      let y : Bool = elim (is_among (stop N s) (a ∷ seen)) as (λ _. Bool) [ true ↦ true | false ↦ every k z (stop N s) (a ∷ seen) (λ c. p (s ∷ c)) ] in
      let both = goes (can_go a s) (x && y) (at_step N.arcs _ h s w.1.0) (can a z s [] w) in
      so (eqb (stop N s) z) (p (s ∷ [])) (and_parts x y both).0 (eq-eqb (stop N s) z w.2)
  at_row (suc k) z a seen p s (t ∷ c) h l w f d =
      let x : Bool = if_so (eqb (stop N s) z) (p (s ∷ [])) in
      let y : Bool = elim (is_among (stop N s) (a ∷ seen)) as (λ _. Bool) [ true ↦ true | false ↦ every k z (stop N s) (a ∷ seen) (λ c. p (s ∷ c)) ] in
      let both = goes (can_go a s) (x && y) (at_step N.arcs _ h s w.1.0) (can a z s (t ∷ c) w) in
      let apart = still_new a seen (starts N (t ∷ c)) (subst (λ v. Fresh v (starts N (t ∷ c))) w.0 f.0) d.1 in
      let new : is_among (stop N s) (a ∷ seen) ≡ false = subst (λ v. is_among v (a ∷ seen) ≡ false) w.2.0 apart.0 in
      at_row k z (stop N s) (a ∷ seen) (λ c. p (s ∷ c)) t c (goes_not (is_among (stop N s) (a ∷ seen)) _ (and_parts x y both).1 new) (let m : suc (suc (length c)) ≤ suc k = l in omega arith) w.2 f.1 apart

  -- the test holds of every cycle
  abbrev of_cycles : (List Step → Bool) → Bool
  of_cycles p = all_below N.nodes (λ a. every N.nodes a a [] p)

  none_seen : (xs : List ℕ) → AllByRecursion (λ v. is_among v [] ≡ false) xs
  none_seen [] = tt
  none_seen (x ∷ xs) = (refl, none_seen xs)

  at_cycle : Sound N → (p : List Step → Bool) → of_cycles p ≡ true → (a : ℕ) (s : Step) (c : List Step) → Walk N u a (s ∷ c) a → Apart (starts N (s ∷ c)) → p (s ∷ c) ≡ true
  at_cycle z p h a s c w f =
      let low = starts_below z a a (s ∷ c) w in
      let here : a < N.nodes = subst (λ v. v < N.nodes) w.0 low.0 in
      let short = pigeonhole N.nodes (starts N (s ∷ c)) low f in
      at_row N.nodes a a [] p s c (below N.nodes (λ a. every N.nodes a a [] p) h a here) (subst (λ k. k ≤ N.nodes) (length_starts (s ∷ c)) short) w f (none_seen (starts N (s ∷ c)))

module _ {W : Type 0} {o : Ops W} (laws : Laws o) (n : Net) (w : W) where
  abbrev are_same : W → W → Bool
  are_same x y = not (o.less x y) && not (o.less y x)

  same : (x y : W) → are_same x y ≡ true → x ≡ y
  same x y h = let p = and_parts (not (o.less x y)) (not (o.less y x)) h in laws.connected x y (not-true (o.less x y) p.0) (not-true (o.less y x) p.1)

  -- a cycle worth more than none brings w
  abbrev brings : List Step → Bool
  brings c = not (o.less o.none (gain o (graph o n) c)) || are_same (times o (least (graph o n) (flow_in n) c) (gain o (graph o n) c)) w

  -- and so does each
  abbrev pub all_bring : Bool
  all_bring = of_cycles (graph o n) (flow_in n) brings

  pub rises_by : Sound (graph o n) → all_bring ≡ true → (t : Net) (r : W) → Improves o n t r → r ≡ w
  rises_by z test t r i = rise_is laws n t r i ∙ along i.cycle i.amount i.gainful i.allowed i.most
    where
      along : (c : List Step) (d : ℕ) → Gainful o (graph o n) (flow_in n) c → Allows (graph o n) (flow_in n) c d → ((e : ℕ) → Allows (graph o n) (flow_in n) c e → e ≤ d) → times o d (gain o (graph o n) c) ≡ w
      along [] d g a m = absurd (both_ways (o.less o.none o.none) (laws.irreflexive o.none) g.gains)
      along (s ∷ c) d g a m =
          let N = graph o n in
          let u = flow_in n in
          ap (λ k. times o k (gain o N (s ∷ c))) (most_is N u s c d a m)
          ∙ same (times o (least N u (s ∷ c)) (gain o N (s ∷ c))) w (implied (o.less o.none (gain o N (s ∷ c))) _ (at_cycle N u z brings test g.node s c g.closed g.apart) g.gains)
