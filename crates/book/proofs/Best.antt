-- What is allowed, filled and best, over the network of a book.
use Rattle.std.proofs.Common.{◌≡◌, ℕ, sym, ap, ◌∙◌, subst, ap₂, subst₂}
use Rattle.worth.specs.Kinds.{Ops}
use Rattle.flow.specs.Groups.{Kind, Le}
use Rattle.flow.specs.Graphs.{Circulation, Within, worth}
use Rattle.flow.specs.Optimality.{Best}
use Rattle.flow.proofs.Enough.{sufficient_holds}
use Rattle.flow.proofs.Optimum.{necessary_holds}
use Rattle.network.specs.Networks.{flow_in, graph, value}
use Rattle.book.specs.Books.{Book}
use Rattle.book.specs.Allotments.{Allotment, Allowed}
use Rattle.book.specs.Arcs.{laid, nodes, arcs_of, net_of, filling, filled, allotment_of}
use Rattle.book.specs.Agreement.{Circulates, AllowedIsCirculation, CirculationIsFilled, AlikeAreFilledAlike, BestAllotment, BestIsBestCirculation, BestHasPotentials, NetworkStandsFor}
use Rattle.book.proofs.Nodes.{Balanced}
use Rattle.book.proofs.Rules.{Fitting, allowed_flows, flows_allowed}
use Rattle.book.proofs.Filled.{with_flows, laid_as_row, fill_alike, circulation_filled}
use Rattle.book.proofs.Networks.{fitting_to, fitting_from, circulates_to, circulates_from, laid_network, network_flowing, graph_same, value_is, value_flowing}
use Rattle.book.proofs.Sizes.{graph_sound, unit_small}

module _ {W : Type 0} (o : Ops W) where
  -- by number and along the list
  from_lists : (b : Book) (y : ℕ → ℕ) → Fitting (with_flows (arcs_of b) y) → Balanced (nodes b) (with_flows (arcs_of b) y) → Circulates o b y
  from_lists b y f c = record { within = fitting_from (arcs_of b) y f; balanced = circulates_from o (nodes b) (arcs_of b) y c }

  pub allowed_is_circulation_lem : AllowedIsCirculation o
  allowed_is_circulation_lem b a s = (to, from)
    where
      e : with_flows (arcs_of b) (flow_in (filled b a)) ≡ laid b (filling b a)
      e = laid_as_row b (filling b a)

      to : Allowed b a → Circulates o b (flow_in (filled b a))
      to w = let p = allowed_flows b a s w in from_lists b (flow_in (filled b a)) (subst Fitting (sym e) p.0) (subst (Balanced (nodes b)) (sym e) p.1)

      from : Circulates o b (flow_in (filled b a)) → Allowed b a
      from c = flows_allowed b a s (subst Fitting e (fitting_to (arcs_of b) (flow_in (filled b a)) c.within)) (subst (Balanced (nodes b)) e (circulates_to o (nodes b) (arcs_of b) (flow_in (filled b a)) c.balanced))

  pub circulation_is_filled_lem : CirculationIsFilled o
  circulation_is_filled_lem b y s c =
      let k : Balanced (nodes b) (with_flows (arcs_of b) y) = circulates_to o (nodes b) (arcs_of b) y c.balanced in
      let e : with_flows (arcs_of b) y ≡ laid b (filling b (allotment_of b y)) = circulation_filled b y s k in
      (flows_allowed b (allotment_of b y) s (subst Fitting e (fitting_to (arcs_of b) y c.within)) (subst (Balanced (nodes b)) e k), ap (λ xs. record { nodes = nodes b; arcs = xs }) e)

-- the rules are over the lines alone, and so is the filling
pub alike_filled : AlikeAreFilledAlike
alike_filled b a c h =
    let e = fill_alike b a c h in
    (ap (λ xs. record { nodes = nodes b; arcs = xs }) e, λ s w. let p = allowed_flows b a s w in flows_allowed b c s (subst Fitting e p.0) (subst (Balanced (nodes b)) e p.1))

module _ {W : Type 0} (G : Kind W) where
  pub best_is_best_circulation_lem : BestIsBestCirculation G.ops
  best_is_best_circulation_lem b a s w = (to, from)
    where
      value_of : (c : Allotment) → value G.ops (filled b c) ≡ worth G.ops (graph G.ops (net_of b)) (flow_in (filled b c))
      value_of c = value_is G b (filled b c) (laid_network b (filling b c))

      to : BestAllotment G.ops b a → Best G.ops (graph G.ops (net_of b)) (flow_in (filled b a))
      to best y c k =
          let p = circulation_is_filled_lem G.ops b y s (record { within = k; balanced = c }) in
          subst₂ (Le G.ops) (ap (value G.ops) (sym p.1) ∙ value_flowing G b y) (value_of a) (best (allotment_of b y) p.0)

      from : Best G.ops (graph G.ops (net_of b)) (flow_in (filled b a)) → BestAllotment G.ops b a
      from best c v = let p = (allowed_is_circulation_lem G.ops b c s).0 v in subst₂ (Le G.ops) (sym (value_of c)) (sym (value_of a)) (best (flow_in (filled b c)) p.balanced p.within)

  pub best_has_potentials : BestHasPotentials G.ops
  best_has_potentials b a s w =
      let p = (allowed_is_circulation_lem G.ops b a s).0 w in
      let N = graph G.ops (net_of b) in
      let y : ℕ → ℕ = flow_in (filled b a) in
      let sound = graph_sound G.ops b s in
      let e = best_is_best_circulation_lem b a s w in
      record {
        show = λ L fits. e.1 (sufficient_holds G N L y sound p.balanced fits);
        exist = λ best. necessary_holds G N y sound (unit_small G.ops G.laws b s) p.balanced p.within (e.0 best);
      }

  pub network_stands_for_lem : NetworkStandsFor G.ops
  network_stands_for_lem b n s h within balanced =
      let e : graph G.ops (net_of b) ≡ graph G.ops n = graph_same G b n h in
      let y : ℕ → ℕ = flow_in n in
      let p = circulation_is_filled_lem G.ops b y s (record { within = subst (λ N. Within N y) (sym e) within; balanced = subst (λ N. Circulation N y) (sym e) balanced }) in
      let fills : n ≡ filled b (allotment_of b y) = sym (network_flowing b n h) ∙ p.1 in
      let o = best_is_best_circulation_lem b (allotment_of b y) s p.0 in
      let same : Best G.ops (graph G.ops n) y ≡ Best G.ops (graph G.ops (net_of b)) (flow_in (filled b (allotment_of b y))) = ap₂ (Best G.ops) (sym e) (ap flow_in fills) in
      record { allowed = p.0; fills = fills; best = (λ best. o.1 (subst (λ T. T) same best), λ best. subst (λ T. T) (sym same) (o.0 best)) }
