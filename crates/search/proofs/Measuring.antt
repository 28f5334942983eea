-- The cycle that a step closes, walked up the links, put into a table, and what it allows and gains.
use Rattle.std.proofs.Common.{◌≡◌, ℕ, zero, suc, ◌+◌, ◌<◌, ◌≤◌, ◌==◌, true, false, min, List, [], ◌∷◌, ◌++◌, length, Some, Option, sym, refl, ap, ◌∙◌, subst, ap₂, append_assoc, length-append, take, arith}
use Rattle.std.proofs.lemmas.Bool.{eq-eqb, ne_eqb}
use Rattle.std.proofs.lemmas.List.{append-nil, length-take-le}
use Rattle.std.specs.List.{AllByRecursion}
use Rattle.worth.specs.Kinds.{Ops}
use Rattle.flow.specs.Groups.{Kind}
use Rattle.flow.specs.Graphs.{Graph}
use Rattle.flow.specs.Arcs.{net, flow_of}
use Rattle.flow.specs.Steps.{step_worth, gain, residual, Allows, Gainful}
use Rattle.flow.specs.declared.arc.Arc.{Arc}
use Rattle.flow.specs.declared.step.Step.{Step}
use Rattle.flow.specs.declared.step.Step.TheVariants.{Forward, Backward}
use Rattle.search.specs.Links.{SoundArcs, tail_of, head_of, residual_of, link, Trail, onto, climb, after}
use Rattle.search.specs.declared.cycle.Cycle.{Cycle}
use Rattle.search.specs.Cycles.{Measured}
use Rattle.search.specs.Searches.{steps_of, Closes}
use Rattle.search.proofs.Steps.{bounded}
use Rattle.search.proofs.Forests.{step_small}

module _ (ls : List Arc) (ks : List (Option Step)) where
  climb_trail : (v x : ℕ) (q : List Step) (s : Step) (k : ℕ) → x ≡ tail_of ls s → Trail ls ks x v q → length q ≤ k → climb ls ks v (after ls ks v s) k ≡ q
  climb_trail v x [] s k e t h = let b : (tail_of ls s == v) ≡ true = eq-eqb (tail_of ls s) v (sym e ∙ t) in rw b refl
  climb_trail v x (r ∷ q) s zero e t h = absurd (omega arith)
  climb_trail v x (r ∷ q) s (suc k) e t h =
      let b : (tail_of ls s == v) ≡ false = ne_eqb (tail_of ls s) v (λ f. t.0 (e ∙ f)) in
      let is : link ks (tail_of ls s) ≡ Some r = ap (link ks) (sym e) ∙ t.1 in
      rw (b, is) (ap (λ p. r ∷ p) (climb_trail v (tail_of ls r) q r k refl t.2 (omega arith)))

  round_trail : (s : Step) (q : List Step) (k : ℕ) → Trail ls ks (tail_of ls s) (head_of ls s) q → length q < k → climb ls ks (head_of ls s) (Some s) k ≡ s ∷ q
  round_trail s q zero t h = absurd (omega arith)
  round_trail s q (suc k) t h = ap (λ p. s ∷ p) (climb_trail (head_of ls s) (tail_of ls s) q s k refl t (omega arith))

module _ {W : Type 0} {o : Ops W} (y : Cycle) (z : Closes o y) where
  -- the closing step, and then those that the proof of the cycle knows
  pub steps_are : steps_of y ≡ y.closing ∷ z.trail
  steps_are = round_trail y.links.net.arcs.now y.links.last.now y.closing z.trail (length y.links.last.now) z.climbs (let l = z.short in let h = y.links.long in omega arith)

-- what holds of each of the steps put together holds of both parts
pub onto_last : (P : Step → Type 0) (q p : List Step) → AllByRecursion P (onto q p) → AllByRecursion P p
onto_last P [] p a = a
onto_last P (t ∷ q) p a = (onto_last P q (t ∷ p) a).1

pub onto_first : (P : Step → Type 0) (q p : List Step) → AllByRecursion P (onto q p) → AllByRecursion P q
onto_first P [] p a = tt
onto_first P (t ∷ q) p a = ((onto_last P q (t ∷ p) a).0, onto_first P q (t ∷ p) a)

pub onto_allows : {W : Type 0} (N : Graph W) (u : ℕ → ℕ) (d : ℕ) (q p : List Step) → Allows N u (onto q p) d → Allows N u p d
onto_allows N u d q p a = onto_last (λ t. d ≤ residual N u t) q p a

pub residual_small : {W : Type 0} (o : Ops W) (n : ℕ) (ls : List Arc) → SoundArcs n ls → (t : Step) → residual (net o n ls) (flow_of ls) t ≤ 1000
residual_small o n ls z (Forward j) = omega (arith, (bounded n ls z j).small)
residual_small o n ls z (Backward j) = let a = bounded n ls z j in omega (arith, a.small, a.held)

-- part of the way round a cycle: what the steps so far, those in the list p, allow and gain, where rest is to come
pub record Measuring {W : Type 0} (o : Ops W) (y : Cycle) (p rest : List Step) (d : ℕ) (w : W) : Type 0 where
  pub put : p ++ rest ≡ steps_of y
  pub done : List Step
  pub whole : onto rest done ≡ onto (steps_of y) []
  pub few : length rest + length p ≤ y.links.net.nodes
  pub counted : length done ≡ length p
  pub allowed : Allows (net o y.links.net.nodes y.links.net.arcs.now) (flow_of y.links.net.arcs.now) done d
  pub most : (e : ℕ) → e ≤ 4294967295 → Allows (net o y.links.net.nodes y.links.net.arcs.now) (flow_of y.links.net.arcs.now) done e → e ≤ d
  pub gains : w ≡ gain o (net o y.links.net.nodes y.links.net.arcs.now) done
  pub small : o.size w ≤ length done

module _ {W : Type 0} (G : Kind W) (y : Cycle) where
  abbrev ls : List Arc
  ls = y.links.net.arcs.now

  abbrev N : Graph W
  N = net G.ops y.links.net.nodes ls

  module _ (z : Closes G.ops y) where
    pub measuring_first : {rest : List Step} → rest ≡ steps_of y → {w : W} → w ≡ G.ops.none → Measuring G.ops y [] rest 4294967295 w
    measuring_first {rest} e {w} none = record {
      put = e;
      done = [];
      whole = ap (λ q. onto q []) e;
      few = let l = ap length (e ∙ steps_are y z) in let h = z.short in omega arith;
      counted = refl;
      allowed = tt;
      most = λ f h a. h;
      gains = none;
      small = omega (arith, ap G.ops.size none, G.laws.size_none);
    }

    pub measuring_put : {p rest : List Step} → rest ≡ [] → {d : ℕ} {w : W} → Measuring G.ops y p rest d w → p ≡ steps_of y
    measuring_put {p} e m = sym (append-nil p) ∙ ap (λ q. p ++ q) (sym e) ∙ m.put

    pub measuring_all : {p rest : List Step} → rest ≡ [] → {d : ℕ} {w : W} → Measuring G.ops y p rest d w → Measured G.ops y.links.net.nodes ls p d w
    measuring_all {p} {rest} e {d} {w} m =
        let s = y.closing in
        let cycle : onto p [] ≡ onto z.trail (s ∷ []) = ap (λ q. onto q []) (measuring_put e m ∙ steps_are y z) in
        let is : m.done ≡ onto p [] = ap (λ q. onto q m.done) (sym e) ∙ m.whole ∙ ap (λ q. onto q []) (sym (measuring_put e m)) in
        record {
          gainful = subst (Gainful G.ops N (flow_of ls)) (sym cycle) z.gainful;
          most = record { allowed = subst (λ q. Allows N (flow_of ls) q d) is m.allowed; most = λ f a. m.most f (let b = (onto_allows N (flow_of ls) f z.trail (s ∷ []) (subst (λ q. Allows N (flow_of ls) q f) cycle a)).0 in let r = residual_small G.ops y.links.net.nodes ls y.links.net.sound.each s in omega arith) (subst (λ q. Allows N (flow_of ls) q f) (sym is) a) };
          gains = m.gains ∙ ap (gain G.ops N) is;
          small = let q = m.small in let h = m.few in let c = m.counted in let k = y.links.net.sound.few_nodes in omega arith;
        }

  -- one step more: left is what it can take, and v its worth
  module _ {p q rest : List Step} {t : Step} (e : q ≡ t ∷ rest) {d : ℕ} {w : W} (m : Measuring G.ops y p q d w) where
    on : Measuring G.ops y p (t ∷ rest) d w
    on = subst (λ q. Measuring G.ops y p q d w) e m

    step_fits : {v : W} → v ≡ step_worth G.ops N t → G.ops.size v ≤ 1
    step_fits {v} is = omega (arith, ap G.ops.size is, step_small G y.links.net.nodes ls y.links.net.sound.each t)

    pub measuring_fits : {v : W} → v ≡ step_worth G.ops N t → G.ops.size v + G.ops.size w ≤ 4194304
    measuring_fits {v} is = omega (arith, on.few, on.counted, on.small, step_fits is, y.links.net.sound.few_nodes)

    -- there is room for the step
    pub measuring_room : (k : ℕ) (row : List Step) → p ≡ take k row → k ≤ length row → y.links.net.nodes ≤ length row → k < length row
    measuring_room k row is h l = let f = on.few in let e = ap length is ∙ length-take-le k row h in omega arith

    pub measuring_next : {p' : List Step} → p' ≡ p ++ (t ∷ []) → {v : W} → v ≡ step_worth G.ops N t → {left : ℕ} → left ≡ residual_of ls t → {d' : ℕ} → d' ≡ min d left → {w' : W} → w' ≡ G.ops.plus v w → Measuring G.ops y p' rest d' w'
    measuring_next {p'} put-is {v} worth {left} left_is {d'} low {w'} is = record {
      put = ap (λ b. b ++ rest) put-is ∙ append_assoc p (t ∷ []) rest ∙ on.put;
      done = t ∷ on.done;
      whole = on.whole;
      few = let h = on.few in let l = ap length put-is ∙ length-append p (t ∷ []) in omega arith;
      counted = let h = on.counted in let l = ap length put-is ∙ length-append p (t ∷ []) in omega arith;
      allowed = (omega arith, narrower on.done on.allowed);
      most = λ f h a. let q = on.most f h a.1 in let r = a.0 in omega arith;
      gains = is ∙ ap₂ G.ops.plus worth on.gains;
      small = omega (arith, ap G.ops.size is, G.laws.size_plus v w, on.small, step_fits worth);
    }
      where
        narrower : (b : List Step) → Allows N (flow_of ls) b d → Allows N (flow_of ls) b d'
        narrower [] a = tt
        narrower (r ∷ b) a = (let q = a.0 in omega arith, narrower b a.1)
