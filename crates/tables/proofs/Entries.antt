-- What becomes of a list of entries.
use Rattle.std.proofs.Common.{◌≡◌, ℕ, zero, suc, ◌+◌, ◌<◌, ◌≤◌, List, [], ◌∷◌, ◌++◌, length, take, set, Result, refl, ap, arith}
use Rattle.tables.specs.Tables.{Replaced, Added}
use Rattle.tables.specs.declared.refusal.Refusal.{Refusal}
use Rattle.tables.proofs.Firsts.{accepted}

pub take_set_in : {X : Type 0} (n : ℕ) (xs : List X) (i : ℕ) (x : X) → take n (set xs i x) ≡ set (take n xs) i x
take_set_in zero xs i x = refl
take_set_in (suc n) [] zero x = refl
take_set_in (suc n) [] (suc i) x = refl
take_set_in (suc n) (y ∷ ys) zero x = refl
take_set_in (suc n) (y ∷ ys) (suc i) x = ap (λ zs. y ∷ zs) (take_set_in n ys i x)

-- where there is room, entries are added
pub grew : {X : Type 0} (n : ℕ) (before after more : List X) (r : Result (Unit {0}) Refusal) → Added n before after more r → length before + length more ≤ n → after ≡ before ++ more
grew n before after more r a h = (accepted (λ _. after ≡ before ++ more) (λ _. after ≡ before) r (a.refused.1 (λ p. omega arith)) a.outcome).2

-- where there is such an entry, it is replaced
pub replaced : {X : Type 0} (before after : List X) (i : ℕ) (x : X) (r : Result (Unit {0}) Refusal) → Replaced before after i x r → i < length before → after ≡ set before i x
replaced before after i x r a h = (accepted (λ _. after ≡ set before i x) (λ _. after ≡ before) r (a.refused.1 (λ p. omega arith)) a.outcome).2
