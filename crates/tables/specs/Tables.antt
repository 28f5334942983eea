-- What a table holds, and what its calls do to the list of its entries.
use Rattle.std.specs.Prelude.{◌≡◌, ℕ, ◌+◌, ◌<◌, ◌≤◌, List, [], ◌∷◌, ◌++◌, length, Some, None, Option, Result, MatchResult, slice_index_or, slice_set}
use Rattle.tables.specs.Refusals.{when, First, refusal}
use Rattle.tables.specs.declared.refusal.Refusal.{Refusal}

-- what is found at index i: entry i, whatever default the list is read with, or nothing past the end
abbrev pub Found : {X : Type 0} → List X → ℕ → Option X → Type 0
Found xs i None = length xs ≤ i
Found {X} xs i (Some x) = (i < length xs) × ((d : X) → x ≡ slice_index_or xs i d)

-- x in the place of entry i; refused where there is no such entry, and then nothing changes
pub record Replaced {X : Type 0} (before after : List X) (i : ℕ) (x : X) (r : Result (Unit {0}) Refusal) : Type 0 where
  pub refused : First (when 1 (length before ≤ i) ∷ []) (refusal r)
  pub outcome : MatchResult r (λ _. after ≡ slice_set before i x) (λ _. after ≡ before)

-- more entries at the end; refused where they would be over n in all, and then nothing changes
pub record Added {X : Type 0} (n : ℕ) (before after more : List X) (r : Result (Unit {0}) Refusal) : Type 0 where
  pub refused : First (when 2 (n < length before + length more) ∷ []) (refusal r)
  pub outcome : MatchResult r (λ _. after ≡ before ++ more) (λ _. after ≡ before)
