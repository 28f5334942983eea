use Rattle.std.proofs.Common.{◌+◌, ◌*◌, ◌/◌, ◌*ℤ◌, pos, arith, w64, FitsSigned}
use Rattle.std.specs.Prelude.{unsigned_abs}
use Rattle.std.proofs.lemmas.Int.{to_z-of_z, fits_signed_mul}
use Rattle.worth.proofs.money.MoneyWorth.times.Goals as goal

pub returns : goal.returns
returns c =
    let size = (unsigned_abs c.args.self.cents + 999999) / 1000000 in
    let fits : FitsSigned w64 (c.args.self.cents *ℤ pos c.args.n) = fits_signed_mul w64 c.args.self.cents (pos c.args.n) (1000000 * size) c.args.n (omega arith) (omega arith) (omega arith) in
    grind (arith, to_z-of_z)
