-- What item and member do.
use Rattle.std.specs.Prelude.{◌≡◌, ℕ, ◌≤◌, List, [], ◌∷◌, ◌++◌, length, Result, MatchResult}
use Rattle.std.specs.List.{ContainsAt as Has}
use Rattle.tables.specs.Refusals.{Row, when, First, refusal}
use Rattle.tables.specs.declared.refusal.Refusal.{Refusal}
use Rattle.book.specs.Spelling.{Spelt}
use Rattle.book.specs.Books.{Book}
use Rattle.round.specs.Rounds.{with_items, with_members}

-- when a name is refused in a list of at most n
abbrev pub naming : ℕ → List (List ℕ) → List ℕ → List Row
naming n names s = when 2 (n ≤ length names) ∷ when 5 (Spelt s → ⊥) ∷ when 6 (Has names s) ∷ []

-- the name comes to the end of the list, and its number is answered; or nothing changes
pub record Listed (n : ℕ) (before after : List (List ℕ)) (s : List ℕ) (r : Result ℕ Refusal) : Type 0 where
  pub refused : First (naming n before s) (refusal r)
  pub outcome : MatchResult r (λ k. (k ≡ length before) × (after ≡ before ++ s ∷ [])) (λ _. after ≡ before)

-- the name comes to the end of the items, and its number is answered; or nothing changes
pub record TakesItem (before after : Book) (s : List ℕ) (r : Result ℕ Refusal) : Type 0 where
  pub refused : First (naming 16 before.items s) (refusal r)
  pub outcome : MatchResult r (λ k. (k ≡ length before.items) × (after ≡ with_items before (before.items ++ s ∷ []))) (λ _. after ≡ before)

-- the same of the members
pub record TakesMember (before after : Book) (s : List ℕ) (r : Result ℕ Refusal) : Type 0 where
  pub refused : First (naming 32 before.members s) (refusal r)
  pub outcome : MatchResult r (λ k. (k ≡ length before.members) × (after ≡ with_members before (before.members ++ s ∷ []))) (λ _. after ≡ before)
