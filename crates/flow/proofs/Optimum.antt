-- A best circulation has potentials that fit, since a cycle worth more than none would raise it.
use Rattle.std.proofs.Common.{ℕ, List, sym, ap, ◌∙◌, subst₂, ⊎_elim, arith}
use Rattle.flow.specs.Groups.{Kind, Lt}
use Rattle.flow.specs.Graphs.{Graph, Circulation, Within, worth}
use Rattle.flow.specs.Steps.{Gainful, gain}
use Rattle.flow.specs.declared.step.Step.{Step}
use Rattle.flow.specs.Optimality.{Best, Necessary}
use Rattle.flow.proofs.Group.{shift, unit_right, le_lt_absurd}
use Rattle.flow.proofs.Reach.{reach, reach_small, fits_or_cycle}
use Rattle.flow.proofs.Shift.{shifting_holds, allows_one}

module _ {W : Type 0} (G : Kind W) where
  pub not_best : (N : Graph W) (u : ℕ → ℕ) → Circulation N u → Within N u → (c : List Step) → Gainful G.ops N u c → Best G.ops N u → ⊥
  not_best N u circulation within c g best =
      let s = shifting_holds G N u g.node c 1 circulation within g.closed g.apart (allows_one N u g.node c g.node g.closed) in
      let more = s.0.0 in
      let kept = s.1 more s.0.1 in
      let up : Lt G.ops (worth G.ops N u) (worth G.ops N more) =
      subst₂ (Lt G.ops) (unit_right G (worth G.ops N u)) (ap (G.ops.plus (worth G.ops N u)) (sym (unit_right G (gain G.ops N c))) ∙ sym kept.rises) (shift G (worth G.ops N u) G.ops.none (gain G.ops N c) ∙ g.gains) in
      le_lt_absurd G (worth G.ops N more) (worth G.ops N u) (best more kept.circulation kept.within) up

  pub necessary_holds : Necessary G.ops
  necessary_holds N u sound units circulation within best =
      ⊎_elim (λ f. record { at = reach G N u N.nodes; fits = f; small = λ v l. reach_small G N u units N.nodes v })
      (λ r. absurd (not_best N u circulation within r.0 r.1 best))
      (fits_or_cycle G N u N.nodes sound (omega arith))
