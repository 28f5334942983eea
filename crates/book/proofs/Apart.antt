-- Entries of a list that stand apart.
use Rattle.std.proofs.Common.{◌+◌, ◌<◌, List, [], ◌∷◌, ◌++◌, length, sym, ◌∙◌, subst, inl, inr, arith}
use Rattle.std.specs.List.{ContainsAt as Has}
use Rattle.std.proofs.lemmas.List.{length_push, get_or_append_left, get_or_push, get_or_default}
use Rattle.std.proofs.lemmas.Bool.{cases_lt}
use Rattle.book.specs.Books.{Distinct}

-- a new entry at the end leaves the entries apart
pub distinct_push : {X : Type 0} (xs : List X) (x : X) → Distinct xs → (Has xs x → ⊥) → Distinct (xs ++ x ∷ [])
distinct_push xs x h n i j d lt lj e =
    let lj' : j < length xs + 1 = subst (λ m. j < m) (length_push xs x) lj in
    elim (cases_lt j (length xs)) [
      | inl l ↦ h i j d lt l (sym (get_or_append_left xs (x ∷ []) d i (omega arith)) ∙ e ∙ get_or_append_left xs (x ∷ []) d j l)
      | inr l ↦
          let li : i < length xs = omega arith in
          n (i, li, λ d'. get_or_default xs i d' d li ∙ sym (get_or_append_left xs (x ∷ []) d i li) ∙ e ∙ get_or_push xs x d j (omega arith))
    ]
