use mathlib.Core.Logic.{∥∥₁_map}
use Rattle.std.proofs.lemmas.Bool.Decides.{not_from_Decides}
use Rattle.round.specs.Rounds.{book}
use Rattle.round.proofs.Calls.{holding_put}
use Rattle.round.proofs.Sounds.{sound_hold}
use Rattle.round.proofs.Standing.{round_law}
use Rattle.round.proofs.open_round.OpenRound.hold.Goals as goal

pub returns-then-is_strange-clause-law : goal.returns-then-is_strange-clause-law
returns-then-is_strange-clause-law c = round_law

pub invariant_of-self : goal.invariant_of-self
invariant_of-self c =
    let r = c.args.self.now in
    let known = not_from_Decides _ c.is_strange.ensures c.if-is_strange.false in
    record { sound = ∥∥₁_map r.sound (sound_hold (book r) _ _ c.put.result (holding_put (book r) _ _ c.put.result known c.put.ensures)); rows = r.rows }

pub returns-clause-law : goal.returns-clause-law
returns-clause-law c = round_law
