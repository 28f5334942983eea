use mathlib.Core.Logic.{∥∥₁_map}
use Rattle.round.specs.Rounds.{book}
use Rattle.round.proofs.Calls.{item_listed}
use Rattle.round.proofs.Sounds.{sound_item}
use Rattle.round.proofs.Standing.{round_law}
use Rattle.round.proofs.open_round.OpenRound.item.Goals as goal

pub invariant_of-self : goal.invariant_of-self
invariant_of-self c =
    let r = c.args.self.now in
    record { sound = ∥∥₁_map r.sound (sound_item (book r) _ c.args.name.now c.list.result (item_listed (book r) _ c.args.name.now c.list.result c.list.ensures)); rows = r.rows }

pub returns-clause-law : goal.returns-clause-law
returns-clause-law c = round_law
