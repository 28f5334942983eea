-- Texts in the making, and their copies on a page.
use Rattle.std.specs.Prelude.{◌≡◌, ℕ, ◌+◌, ◌<◌, List, [], ◌∷◌, ◌++◌, length, take, drop, Result, MatchResult}
use Rattle.tables.specs.Refusals.{when, First, refusal}
use Rattle.tables.specs.declared.refusal.Refusal.{Refusal}

-- more bytes after those before, as far as they fit into 32,768; refused where they do not fit
pub record Put (before after more : List ℕ) (r : Result (Unit {0}) Refusal) : Type 0 where
  pub refused : First (when 2 (32768 < length before + length more) ∷ []) (refusal r)
  pub outcome : after ≡ take 32768 (before ++ more)

-- the text at the start of the page, whose other bytes stay; refused where the page is shorter, and then nothing changes
pub record Copied (text before after : List ℕ) (r : Result ℕ Refusal) : Type 0 where
  pub refused : First (when 12 (length before < length text) ∷ []) (refusal r)
  pub outcome : MatchResult r (λ n. (n ≡ length text) × (after ≡ text ++ drop (length text) before)) (λ _. after ≡ before)
