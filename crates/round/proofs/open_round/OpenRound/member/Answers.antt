use mathlib.Core.Logic.{∥∥₁_map}
use Rattle.round.specs.Rounds.{book}
use Rattle.round.proofs.Calls.{member_listed}
use Rattle.round.proofs.Sounds.{sound_member}
use Rattle.round.proofs.Standing.{round_law}
use Rattle.round.proofs.open_round.OpenRound.member.Goals as goal

pub invariant_of-self : goal.invariant_of-self
invariant_of-self c =
    let r = c.args.self.now in
    record { sound = ∥∥₁_map r.sound (sound_member (book r) _ c.args.name.now c.list.result (member_listed (book r) _ c.args.name.now c.list.result c.list.ensures)); rows = r.rows }

pub returns-clause-law : goal.returns-clause-law
returns-clause-law c = round_law
