-- Flows on the network of a book keep its bounds.
use Rattle.std.specs.Prelude.{◌≡◌, ℕ, ◌<◌, List, ℤ, ◌≤ℤ◌, int_le, refl}
use Rattle.std.proofs.Common.{arith, ap, subst}
use Rattle.std.proofs.Math.Bridge.{le_prop}
use mathlib.Core.HLevel.{is_prop→PathP}
use Rattle.std.proofs.Math.Logic.{∥∥₁_prop, ∥∥₁_elim}
use Rattle.std.proofs.Math.Dec.{T_prop}
use Rattle.flow.specs.declared.arc.Arc.{Arc}
use Rattle.flow.specs.Arcs.{arc_at, flow_of}
use Rattle.network.specs.Networks.{Net, SoundArc, flow_in}
use Rattle.network.specs.Networks as networks
use Rattle.book.specs.Books.{Book, Sound}
use Rattle.book.specs.Arcs.{nodes}
use Rattle.book.proofs.Networks.{network_flowing}
use Rattle.book.proofs.Sizes.{flowing_is_sound}
use Rattle.round.specs.Carried.{Carries}
use Rattle.round.specs.Rounds.{book}
use Rattle.round.specs.Closed.{closed_net, Alike}
use Rattle.round.specs.declared.closed_round.ClosedRound.{ClosedRound}

-- bounds hold in one way at most
le_ℤ_prop : {a b : ℤ} → IsProp (a ≤ℤ b)
le_ℤ_prop {a} {b} p q = λ i. record { le = T_prop (int_le a b) p.le q.le i }

-- so do those of an arc
arc_prop : (n : ℕ) (a : Arc) → IsProp (SoundArc n a)
arc_prop n a p q = λ i. record {
  from_in = le_prop p.from_in q.from_in i;
  to_in = le_prop p.to_in q.to_in i;
  small = le_prop p.small q.small i;
  held = le_prop p.held q.held i;
  low = le_ℤ_prop p.low q.low i;
  high = le_ℤ_prop p.high q.high i;
  light = le_prop p.light q.light i;
}

-- and those of a network
pub sound_prop : (n : Net) → IsProp (networks.Sound n)
sound_prop n p q = λ i. record {
  few_nodes = le_prop p.few_nodes q.few_nodes i;
  few_arcs = le_prop p.few_arcs q.few_arcs i;
  each = λ k l. arc_prop n.nodes (arc_at n.arcs k) (p.each k l) (q.each k l) i;
}

-- flows that a book's network carries keep its bounds
pub carries_sound : (b : Book) (arcs : List Arc) → Sound b → Carries b arcs → networks.Sound (record { nodes = nodes b; arcs = arcs })
carries_sound b arcs s c =
    let n : Net = record { nodes = nodes b; arcs = arcs } in
    subst networks.Sound (network_flowing b n (record { same_nodes = refl; same_arcs = c.same }))
    (flowing_is_sound b (flow_of arcs) s (λ i l. let e = (c.same.each i l).capacity in let w = c.within i (subst (λ k. i < k) c.same.long l) in omega arith))

-- closed rounds of one book with one network are equal
pub alike_settled : {W : Type 0} (x y : ClosedRound W) → Alike x y → closed_net x ≡ closed_net y → x ≡ y
alike_settled x y a e =
    let q = a.round in
    let p : x.arcs ≡ y.arcs = ap (λ n. n.arcs) e in
    λ i. record { round = q i; arcs = p i; kind = x.kind; drawn = is_prop→PathP (λ j. ∥ Carries (book (q j)) (p j) ∥₁) (λ j. ∥∥₁_prop) x.drawn y.drawn i }

-- the network of every closed round keeps the bounds of networks
pub sound_closed : {W : Type 0} (x : ClosedRound W) → networks.Sound (closed_net x)
sound_closed x = ∥∥₁_elim x.round.sound (sound_prop (closed_net x)) (λ s. ∥∥₁_elim x.drawn (sound_prop (closed_net x)) (carries_sound (book x.round) x.arcs s))
