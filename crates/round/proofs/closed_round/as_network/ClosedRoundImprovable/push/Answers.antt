use Rattle.std.proofs.Common.{refl, subst, w64}
use mathlib.Core.Logic.{∥∥₁_map}
use Rattle.std.proofs.lemmas.Int.{to_z-of_z}
use Rattle.network.specs.Pushes.{ArcsPushed}
use Rattle.book.specs.Arcs.{nodes}
use Rattle.round.specs.Rounds.{book}
use Rattle.round.proofs.Pushed.{same_pushed, carries_pushed}
use Rattle.round.proofs.closed_round.as_network.ClosedRoundImprovable.push.Goals as goal

pub invariant_of-self : goal.invariant_of-self
invariant_of-self g c =
    let r = c.args.self.now in
    record { drawn = ∥∥₁_map r.drawn (carries_pushed r.arcs c.push.new.arcs c.args.arc _ (book r.round) c.push.result c.push.ensures) }

pub returns : goal.returns
returns g c =
    let r = c.args.self.now in
    let pushed = subst (λ by. ArcsPushed r.arcs c.push.new.arcs c.args.arc by c.push.result) (to_z-of_z w64 c.args.by c.ranges.by) c.push.ensures in
    record { outcome = pushed (nodes (book r.round)); kept = record { round = refl; arcs = same_pushed r.arcs c.push.new.arcs c.args.arc _ c.push.result c.push.ensures } }
