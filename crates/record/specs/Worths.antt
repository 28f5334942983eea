-- Worths come back from the numbers of their levels.
use Rattle.std.specs.Prelude.{◌≡◌, List, [], ◌∷◌, map, refl}
use Rattle.std.proofs.Common.{ap}
use Rattle.worth.specs.declared.money.Money.{Money}
use Rattle.worth.specs.declared.weeks.Weeks.{Weeks}
use Rattle.worth.specs.declared.lexicographic.Lexicographic.{Lexicographic}
use Rattle.record.specs.Evidence.{amount, amount_and_weeks}

pub amounts_again : (ws : List Money) → map amount (map (λ w. w.cents ∷ []) ws) ≡ ws
amounts_again [] = refl
amounts_again (w ∷ ws) = ap (λ l. w ∷ l) (amounts_again ws)

pub pairs_again : (ws : List (Lexicographic Money Weeks)) → map amount_and_weeks (map (λ w. w.first.cents ∷ w.second.count ∷ []) ws) ≡ ws
pairs_again [] = refl
pairs_again (w ∷ ws) = ap (λ l. w ∷ l) (pairs_again ws)
