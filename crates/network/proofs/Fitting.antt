-- Tests of each entry of a list.
use Rattle.std.proofs.Common.{ℕ, ◌<◌, Bool, true, false, List, length, get_or, Decides, MatchBool, refl, arith}
use Rattle.std.specs.List.{AllWithin, HoldsAt}
use Rattle.std.proofs.lemmas.Bool.{false≢true}

-- what `all` answered decides whether each entry passes
pub decides_each : {X : Type 0} (P : X → Type 0) (r : Bool) (xs : List X) → MatchBool r (AllWithin P xs 0 (length xs)) ((k : ℕ) × (k < length xs) × HoldsAt (λ x. P x → ⊥) xs k) → (d : X) → Decides r ((k : ℕ) → k < length xs → P (get_or xs k d))
decides_each P true xs all d = (λ e k h. all k d (omega arith) h, λ p. refl)
decides_each P false xs some d = (λ e. absurd (false≢true e), λ p. absurd (some.2 d (p some.0 some.1)))
