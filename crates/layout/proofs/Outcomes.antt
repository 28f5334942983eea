-- Each text comes to an outcome.
use Rattle.std.proofs.Common.{ℕ, zero, suc, ◌+◌, ◌<◌, ◌≤◌, ◌⊎◌, List, [], ◌∷◌, ◌++◌, length, Some, None, Option, refl, inl, inr, arith}
use Rattle.std.proofs.lemmas.Bool.{cases_lt}
use Rattle.tables.specs.Refusals.{First}
use Rattle.text.proofs.Cuts.{rest_shorter}
use Rattle.layout.specs.Records.{Contents}
use Rattle.layout.specs.Layout.{Slot, Says, rules, calls_for, with_line, nothing, heads}
use Rattle.layout.specs.Runs.{LiesNext, Outcome, reads, refused, ComesTo, ends, trails, departs, breaks, keeps, Reads, Refused, SomeOutcome}
use Rattle.layout.proofs.Finds.{find_broken, find_next}

-- a text shorter than k comes to an outcome
outcome_from : (k : ℕ) (due : List Slot) (x : Contents) (text : List ℕ) (line : ℕ) → length text < k → (o : Outcome) × ComesTo due x text line o
outcome_from zero due x text line lt = absurd (omega arith)
outcome_from (suc k) [] x [] line lt = (reads x, ends)
outcome_from (suc k) [] x (b ∷ text) line lt = (refused 13 line, trails (omega arith))
outcome_from (suc k) (s ∷ due) x text line lt = go (λ d y rest h. outcome_from k d y rest (line + 1) h) (find_next s x text)
  where
    after : ((d : List Slot) (y : Contents) (rest : List ℕ) → length rest < k → (o : Outcome) × ComesTo d y rest (line + 1) o) → (c : Says s) (rest : List ℕ) → LiesNext s x text c rest → (r : Option ℕ) → First (rules s x c) r → (o : Outcome) × ComesTo (s ∷ due) x text line o
    after rec c rest l None f = let t = rec (calls_for s c ++ due) (with_line s c x) rest (omega (arith, rest_shorter l.ended)) in (t.0, keeps c rest l f t.1)
    after rec c rest l (Some n) f = (refused n line, breaks c rest l f)

    go : ((d : List Slot) (y : Contents) (rest : List ℕ) → length rest < k → (o : Outcome) × ComesTo d y rest (line + 1) o) → ((c : Says s) × (rest : List ℕ) × LiesNext s x text c rest) ⊎ ((c : Says s) (rest : List ℕ) → LiesNext s x text c rest → ⊥) → (o : Outcome) × ComesTo (s ∷ due) x text line o
    go rec (inl (c, rest, l)) = let b = find_broken s x c in after rec c rest l b.0 b.1
    go rec (inr f) = (refused 13 line, departs f)

pub some_outcome : SomeOutcome
some_outcome text = go (cases_lt 32768 (length text)) (outcome_from (suc (length text)) heads nothing text 1 (omega arith))
  where
    go : (32768 < length text) ⊎ (length text ≤ 32768) → (o : Outcome) × ComesTo heads nothing text 1 o → ((x : Contents) × Reads text x) ⊎ ((n : ℕ) × (line : ℕ) × Refused text n line)
    go (inl l) t = inr (14, 0, inl (l, refl, refl))
    go (inr l) (reads x, c) = inl (x, (l, c))
    go (inr l) (refused n line, c) = inr (n, line, inr (l, c))
