-- Lines of one sort that are due, one after the other.
use Rattle.std.proofs.Common.{◌≡◌, ℕ, suc, ◌+◌, ◌-◌, ◌<◌, List, [], ◌∷◌, ◌++◌, replicate, sym, ap, ◌∙◌, append_assoc, arith}
use Rattle.std.proofs.lemmas.List.{replicate-append-replicate}

-- one after k others
pub one_due : {X : Type 0} (k : ℕ) (s : X) (due : List X) → replicate k s ++ s ∷ due ≡ replicate (k + 1) s ++ due
one_due k s due = sym (append_assoc (replicate k s) (s ∷ []) due) ∙ ap (λ l. l ++ due) (replicate-append-replicate k 1 s)

-- one after k others, and before the others of n
pub all_due : {X : Type 0} (n k : ℕ) → k < n → (s : X) (due : List X) → replicate k s ++ s ∷ (replicate (n - (k + 1)) s ++ due) ≡ replicate n s ++ due
all_due n k lt s due =
    let m = n - (k + 1) in
    let all : k + suc m ≡ n = omega arith in
    sym (append_assoc (replicate k s) (replicate (suc m) s) due) ∙ ap (λ l. l ++ due) (replicate-append-replicate k (suc m) s) ∙ ap (λ j. replicate j s ++ due) all
