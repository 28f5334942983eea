use Rattle.std.proofs.Common.{◌≡◌, Err, refl, ap}
use Rattle.std.proofs.lemmas.Result.{err_from_is_err_and}
use Rattle.tables.specs.declared.refusal.Refusal.TheVariants.{Layout}
use Rattle.tables.specs.Refusals.{refusal}
use Rattle.haul_table.specs.Roads.{hauled}
use Rattle.haul.proofs.Words.{taken}
use Rattle.haul.proofs.reading.add_road.Goals as goal

pub returns-in_err-fields : goal.returns-in_err-fields
returns-in_err-fields g c =
    let none = rw c.in_err-fields.ensures.ok_part at c.read_fields.ensures in
    let p = err_from_is_err_and c.from_residual.result c.from_residual.ensures.1 in
    let q = rw c.in_err-fields.ensures.ok_part at c.in_err-fields.ensures.value in
    let e : c.from_residual.result ≡ Err Layout = cc (p.1, p.2, q) in
    record { road = λ x w. absurd (none x w); other = λ _. (ap refusal e, refl) }

pub returns : goal.returns
returns g c =
    let w = rw c.in_ok-fields.ensures.ok_part at c.read_fields.ensures in
    taken c.args.line.now c.in_ok-fields.fields w c.unsigned-from.result c.unsigned-to.result c.unsigned-room.result c.unsigned-weeks.result c.unsigned-from.ensures c.unsigned-to.ensures c.unsigned-room.ensures c.unsigned-weeks.ensures (hauled c.args.table.now) (hauled c.road.new.self) c.road.result c.road.ensures.outcome
