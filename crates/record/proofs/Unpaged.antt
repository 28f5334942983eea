-- Reading refuses nothing for the page: none of its rules has that number.
use Rattle.std.proofs.Common.{◌≡◌, ℕ, Bool, true, not, ◌&&◌, eqb, ◌≢◌, List, [], ◌∷◌, Some, sym, refl, subst, inl, inr, arith}
use Rattle.std.proofs.lemmas.Bool.{and_parts, eqb-false, not-true}
use Rattle.std.proofs.lemmas.Option.{none-some}
use Rattle.tables.specs.Refusals.{Row, when, First}
use Rattle.text.specs.declared.section.Section.TheVariants.{Kinds, Items, Members, Holdings, Offers, Levels}
use Rattle.layout.specs.Records.{Contents}
use Rattle.layout.specs.Layout.{Slot, head, word, item, member, holding, offer, give, get, level, Says, rules}
use Rattle.layout.specs.Runs.{Outcome, refused, ComesTo, ends, trails, departs, breaks, keeps, Refused}

-- no row has the number n
abbrev avoids : ℕ → List Row → Bool
avoids n [] = true
avoids n (when m P ∷ rows) = not (eqb n m) && avoids n rows

never_first : (n : ℕ) (rows : List Row) → avoids n rows ≡ true → First rows (Some n) → ⊥
never_first n [] h f = none-some n (sym f)
never_first n (when m P ∷ rows) h f =
    let p = and_parts (not (eqb n m)) (avoids n rows) h in
    let d : n ≢ m = eqb-false n m (not-true (eqb n m) p.0) in
    never_first n rows p.1 (f.1 (λ q. d (let e = f.0 q in cc)))

rules_avoid : (s : Slot) (x : Contents) (c : Says s) → avoids 12 (rules s x c) ≡ true
rules_avoid (head Kinds) x n = refl
rules_avoid (head Items) x n = refl
rules_avoid (head Members) x n = refl
rules_avoid (head Holdings) x n = refl
rules_avoid (head Offers) x n = refl
rules_avoid (head Levels) x n = refl
rules_avoid (word w) x c = refl
rules_avoid item x name = refl
rules_avoid member x name = refl
rules_avoid holding x h = refl
rules_avoid offer x o = refl
rules_avoid give x l = refl
rules_avoid get x l = refl
rules_avoid level x zs = refl

never_comes : {due : List Slot} {x : Contents} {text : List ℕ} {line : ℕ} {o : Outcome} → ComesTo due x text line o → (l : ℕ) → o ≡ refused 12 l → ⊥
never_comes ends l e = let z : ◌≡◌ {A = ℕ} 0 1 = cc in omega arith
never_comes (trails h) l e = let z : ◌≡◌ {A = ℕ} 13 12 = cc in omega arith
never_comes (departs f) l e = let z : ◌≡◌ {A = ℕ} 13 12 = cc in omega arith
never_comes (breaks {s} {x = x} {n = n} c rest lies first) l e = let z : n ≡ 12 = cc in never_first 12 (rules s x c) (rules_avoid s x c) (subst (λ m. First (rules s x c) (Some m)) z first)
never_comes (keeps c rest lies first more) l e = never_comes more l e

pub never_paged : (text : List ℕ) (line : ℕ) → Refused text 12 line → ⊥
never_paged text line (inl h) = omega (arith, h.1)
never_paged text line (inr h) = never_comes h.1 line refl
