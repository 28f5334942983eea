-- Bytes that a separator cuts in two.
use Rattle.std.specs.Prelude.{◌≡◌, ℕ, ◌<◌, List, ◌∷◌, ◌++◌, length, Option, MatchOption, ◌≢◌, slice_index}
use Rattle.text.specs.declared.parts.Parts.{Parts}

-- no byte of the list is b
abbrev pub Free : ℕ → List ℕ → Type 0
Free b bytes = (k : ℕ) → k < length bytes → slice_index bytes k ≢ b

-- the first b of the bytes stands between the two parts
pub record FirstAt (b : ℕ) (bytes before after : List ℕ) : Type 0 where
  pub is : bytes ≡ before ++ b ∷ after
  pub free : Free b before

-- the parts before and after the first b, or nothing where there is no b
abbrev pub Cut : ℕ → List ℕ → Option Parts → Type 0
Cut b bytes r = MatchOption r (Free b bytes) (λ p. FirstAt b bytes p.before.now p.after.now)
