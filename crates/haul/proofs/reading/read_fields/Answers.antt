use Rattle.std.proofs.Common.{refl}
use Rattle.haul.proofs.Words.{follow, stuck, stuck_number}
use Rattle.haul.proofs.reading.read_fields.Goals as goal

pub returns-in_err-from : goal.returns-in_err-from
returns-in_err-from c = rw c.from_residual.ensures (λ x w. stuck refl c.in_err-from.ensures w.from)

pub returns-in_err-to : goal.returns-in_err-to
returns-in_err-to c =
    rw c.from_residual-in_err-to.ensures
    (λ x w. let a = follow refl c.in_ok-from.ensures w.from in stuck a c.in_err-to.ensures w.to)

pub returns-in_err-room : goal.returns-in_err-room
returns-in_err-room c =
    rw c.from_residual-in_err-room.ensures
    (λ x w. let a = follow refl c.in_ok-from.ensures w.from in let b = follow a c.in_ok-to.ensures w.to in stuck b c.in_err-room.ensures w.room)

pub returns-in_err-price : goal.returns-in_err-price
returns-in_err-price c =
    rw c.from_residual-in_err-price.ensures
    (λ x w. let a = follow refl c.in_ok-from.ensures w.from in let b = follow a c.in_ok-to.ensures w.to in let d = follow b c.in_ok-room.ensures w.room in stuck d c.in_err-price.ensures w.price)

pub returns-in_err-weeks : goal.returns-in_err-weeks
returns-in_err-weeks c =
    rw c.from_residual-in_err-weeks.ensures
    (λ x w. let a = follow refl c.in_ok-from.ensures w.from in let b = follow a c.in_ok-to.ensures w.to in let d = follow b c.in_ok-room.ensures w.room in let e = follow d c.in_ok-price.ensures w.price in stuck_number e c.in_err-weeks.ensures w.weeks)
