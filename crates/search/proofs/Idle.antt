-- Potentials that fit leave no cycle worth more than none.
use Rattle.std.proofs.Common.{◌≡◌, ℕ, ◌≤◌, List, [], ◌∷◌, length, None, Option, Ok, sym, refl, ap, ◌∙◌, subst, subst₂, arith}
use Rattle.flow.specs.Groups.{Kind, Lt, Le}
use Rattle.flow.specs.Graphs.{Graph, Fits}
use Rattle.flow.specs.Steps.{start, stop, step_worth, Walk, gain, Gainful}
use Rattle.flow.specs.declared.step.Step.{Step}
use Rattle.flow.specs.declared.step.Step.TheVariants.{Forward, Backward}
use Rattle.network.specs.Networks.{Net, flow_in, graph}
use Rattle.network.specs.Potentials.{potential}
use Rattle.search.specs.Sweeps.{Found}
use Rattle.search.specs.declared.sweep.Search.{Search}
use Rattle.search.specs.Searches.{Finds}
use Rattle.search.specs.Outcomes.{Improving}
use Rattle.search.proofs.Working.{beyond_none}
use Rattle.flow.proofs.Group.{unit_right, shift, le_eq, le_trans, le_right, le_lt_absurd}

module _ {W : Type 0} (G : Kind W) (N : Graph W) (L : ℕ → W) (u : ℕ → ℕ) (fits : Fits G.ops N L u) where
  step_fits : (s : Step) (a b : ℕ) (p : List Step) → Walk N u a (s ∷ p) b → Le G.ops (G.ops.plus (L (start N s)) (step_worth G.ops N s)) (L (stop N s))
  step_fits (Forward i) a b p w = (fits i w.1.0).0 (let r = w.1.1 in omega arith)
  step_fits (Backward i) a b p w =
      let z : W = N.unit i in
      subst (Le G.ops (G.ops.plus (L (N.to i)) (G.ops.neg z))) (G.laws.assoc (L (N.frm i)) z (G.ops.neg z) ∙ ap (G.ops.plus (L (N.frm i))) (G.laws.inverse z) ∙ unit_right G (L (N.frm i)))
      (le_right G (L (N.to i)) (G.ops.plus (L (N.frm i)) z) (G.ops.neg z) ((fits i w.1.0).1 w.1.1))

  walk_fits : (a : ℕ) (p : List Step) (b : ℕ) → Walk N u a p b → Le G.ops (G.ops.plus (L a) (gain G.ops N p)) (L b)
  walk_fits a [] b w = le_eq G (G.ops.plus (L a) G.ops.none) (L b) (unit_right G (L a) ∙ ap L w)
  walk_fits a (s ∷ p) b w =
      let rest = walk_fits (stop N s) p b w.2 in
      let one = le_right G (G.ops.plus (L (start N s)) (step_worth G.ops N s)) (L (stop N s)) (gain G.ops N p) (step_fits s a b p w) in
      subst (λ x. Le G.ops x (L b)) (G.laws.assoc (L (start N s)) (step_worth G.ops N s) (gain G.ops N p) ∙ ap (λ y. G.ops.plus (L y) (gain G.ops N (s ∷ p))) w.0)
      (le_trans G (G.ops.plus (G.ops.plus (L (start N s)) (step_worth G.ops N s)) (gain G.ops N p)) (G.ops.plus (L (stop N s)) (gain G.ops N p)) (L b) one rest)

  pub no_cycle : (c : List Step) → Gainful G.ops N u c → ⊥
  no_cycle c g =
      le_lt_absurd G (G.ops.plus (L g.node) (gain G.ops N c)) (L g.node) (walk_fits g.node c g.node g.closed)
      (subst (λ x. Lt G.ops x (G.ops.plus (L g.node) (gain G.ops N c))) (unit_right G (L g.node)) (shift G (L g.node) G.ops.none (gain G.ops N c) ∙ g.gains))

-- where a search ends without a cycle, the network is best
pub best : {W : Type 0} (G : Kind W) (s : Search W) → Finds G.ops s None → {before : Net} → s.net.nodes ≡ before.nodes → s.net.arcs.now ≡ before.arcs → (work : List W) → length work ≡ before.nodes → (work' : List W) → length work' ≡ length work → work' ≡ s.potentials.now → {r : Option W} → r ≡ None → Improving G.ops before before work work' (Ok r)
best G s found {before} nodes-is arcs-is work long work' same is none =
    let f = subst₂ (λ n ls. Found G.ops n ls s.potentials.now s.links.now None) nodes-is arcs-is found in
    let fits = subst (λ xs. Fits G.ops (graph G.ops before) (potential G.ops xs) (flow_in before)) (sym is) f.0 in
    subst (λ x. Improving G.ops before before work work' (Ok x)) (sym none) (
      refl,
      record { enough = omega arith; fits = fits; small = λ v h. subst (λ xs. G.ops.size (potential G.ops xs v) ≤ 1000000) (sym is) (f.1 v) },
      beyond_none G.ops before.nodes work work' long same,
      no_cycle G (graph G.ops before) (potential G.ops work') (flow_in before) fits,
    )
