use Rattle.std.proofs.Common.{sym, subst}
use mathlib.Core.Logic.{∥∥₁_map}
use Rattle.round.specs.Carried.{Carries}
use Rattle.round.specs.Rounds.{book}
use Rattle.round.proofs.Pushed.{carries_none}
use Rattle.round.proofs.Standing.{law_holds}
use Rattle.round.proofs.open_round.OpenRound.close.Goals as goal

pub invariant_of-result : goal.invariant_of-result
invariant_of-result g c =
    let b = book c.args.self in
    record { drawn = ∥∥₁_map c.args.self.sound (λ s. subst (Carries b) (sym c.arcs-arcs.ensures) (carries_none b s)) }

pub returns-clause-law : goal.returns-clause-law
returns-clause-law g c = law_holds g.met.W.Worth.lawful
