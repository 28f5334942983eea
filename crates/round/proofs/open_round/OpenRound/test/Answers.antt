use Rattle.std.proofs.Common.{◌≡◌, Bool, false, Decides, refl}
use Rattle.std.proofs.lemmas.Bool.Decides.{not_from_Decides}
use Rattle.tables.proofs.Firsts.{here, next}
use Rattle.round.proofs.open_round.OpenRound.test.Goals as goal

-- a reason that does not hold
passed : {P E Q : Type 0} (r : Bool) → Decides r P → r ≡ false → Q → (P → E) × ((P → ⊥) → Q)
passed r d f q = next (not_from_Decides r d f) q

pub returns-then-lacks : goal.returns-then-lacks
returns-then-lacks c = here (c.lacks.ensures.0 c.if-lacks.true)

pub returns-then-is_loop : goal.returns-then-is_loop
returns-then-is_loop c =
    passed _ c.lacks.ensures c.if-lacks.false
    (passed _ c.overflows.ensures c.if-overflows.false
    (passed _ c.has_limit_out.ensures c.if-has_limit_out.false
    (passed _ c.is_overpriced.ensures c.if-is_overpriced.false
    (passed _ c.has_double.ensures c.if-has_double.false
    (passed _ c.is_bare.ensures c.if-is_bare.false (here (c.is_loop.ensures.0 c.if-is_loop.true)))))))

pub returns : goal.returns
returns c =
    passed _ c.lacks.ensures c.if-lacks.false
    (passed _ c.overflows.ensures c.if-overflows.false
    (passed _ c.has_limit_out.ensures c.if-has_limit_out.false
    (passed _ c.is_overpriced.ensures c.if-is_overpriced.false
    (passed _ c.has_double.ensures c.if-has_double.false
    (passed _ c.is_bare.ensures c.if-is_bare.false
    (passed _ c.is_loop.ensures c.if-is_loop.false refl))))))
