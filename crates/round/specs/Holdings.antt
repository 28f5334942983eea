-- What hold does, and what holding answers.
use Rattle.std.specs.Prelude.{◌≡◌, ℕ, ◌<◌, ◌≤◌, ◌⊎◌, List, [], ◌∷◌, ◌++◌, length, IfOk, Some, None, Option, Result, MatchResult, slice_set}
use Rattle.tables.specs.Refusals.{when, First, refusal}
use Rattle.tables.specs.declared.refusal.Refusal.{Refusal}
use Rattle.book.specs.Books.{Book, spot_of, held_by}
use Rattle.book.specs.declared.holding.Holding.{Holding}
use Rattle.round.specs.Rounds.{with_holdings}

-- h in the place k, or at the end
abbrev pub put_at : Option ℕ → List Holding → Holding → List Holding
put_at (Some k) hs h = slice_set hs k h
put_at None hs h = hs ++ h ∷ []

-- h in the place of the holding of the same member and item, or at the end where there is none
abbrev pub placed : List Holding → Holding → List Holding
placed hs h = put_at (spot_of hs h.member h.item) hs h

-- no such member or item
abbrev pub Strange : Book → ℕ → ℕ → Type 0
Strange b m i = (length b.members ≤ m) ⊎ (length b.items ≤ i)

-- the pair is new, and there are 128 holdings
abbrev pub Crowded : List Holding → Holding → Type 0
Crowded hs h = (128 ≤ length hs) × (spot_of hs h.member h.item ≡ None)

-- a holding put among others; or refused, and then nothing changes
pub record Put (before after : List Holding) (h : Holding) (r : Result (Unit {0}) Refusal) : Type 0 where
  pub refused : First (when 2 (Crowded before h) ∷ when 3 (1000 < h.units) ∷ []) (refusal r)
  pub outcome : MatchResult r (λ _. after ≡ placed before h) (λ _. after ≡ before)

-- what hold does
pub record Holds (before after : Book) (h : Holding) (r : Result (Unit {0}) Refusal) : Type 0 where
  pub refused : First (when 1 (Strange before h.member h.item) ∷ when 2 (Crowded before.holdings h) ∷ when 3 (1000 < h.units) ∷ []) (refusal r)
  pub outcome : MatchResult r (λ _. after ≡ with_holdings before (placed before.holdings h)) (λ _. after ≡ before)

-- what holding answers: the units held, or that no entry exists
pub record AnswersHolding (b : Book) (m i : ℕ) (r : Result (Option ℕ) Refusal) : Type 0 where
  pub refused : First (when 1 (Strange b m i) ∷ []) (refusal r)
  pub answer : IfOk r (λ units. units ≡ held_by b.holdings m i)
