-- Tests of the entries of a list, as the library makes them.
use Rattle.std.proofs.Common.{◌≡◌, ℕ, suc, ◌+◌, ◌-◌, ◌<◌, Bool, true, false, ltb, not, cond, List, [], ◌∷◌, ◌++◌, length, Option, Some, None, Decides, inl, inr, sym, refl, ap, ◌∙◌, subst, arith}
use Rattle.std.specs.Bool.{MatchBool}
use Rattle.std.specs.List.{position, position_or_len, AllWithin, HoldsAt}
use Rattle.std.specs.Option.{option_map}
use Rattle.std.proofs.lemmas.Bool.{both_ways, cases_lt}
use Rattle.std.proofs.lemmas.Bool.Decides.{nat_tests, Decides-like}
use Rattle.std.proofs.lemmas.List.{get_or_append_left, get_or-append_right, get_or-append-add, length-append}
use Rattle.book.specs.Books.{Any, is_of, spot_of}
use Rattle.book.specs.declared.line.Line.{Line}
use Rattle.book.specs.declared.holding.Holding.{Holding}
use Rattle.terms.specs.Lines.{EitherSide}

some : {X : Type 0} (xs : List X) (k : ℕ) → k < length xs → X
some [] k l = absurd (omega arith)
some (x ∷ xs) k l = x

-- an answer that is true where some entry has the property, and false where none has it, decides whether one has it
pub any_decides : {X : Type 0} (P : X → Type 0) (r : Bool) (xs : List X) → MatchBool r ((k : ℕ) × (k < length xs) × HoldsAt P xs k) (AllWithin (λ x. P x → ⊥) xs 0 (length xs)) → Decides r (Any P xs)
any_decides P true xs h = (λ _. h, λ _. refl)
any_decides P false xs h = (λ e. absurd (both_ways false refl e), λ a. let x = some xs a.0 a.1 in absurd (h a.0 x (omega arith) a.1 (a.2 x)))

-- what decides it of the two sides one behind the other decides it of either side
pub either_decides : (P : Line → Type 0) (r : Bool) (xs ys : List Line) → Decides r (Any P (xs ++ ys)) → Decides r (EitherSide P xs ys)
either_decides P r xs ys = Decides-like r apart joined
  where
    apart : Any P (xs ++ ys) → EitherSide P xs ys
    apart (k, l, h) = elim (cases_lt k (length xs)) [
      | inl lt ↦ inl (k, lt, λ d. subst P (get_or_append_left xs ys d k lt) (h d))
      | inr le ↦ inr (k - length xs, omega (arith, length-append xs ys), λ d. subst P (get_or-append_right xs ys (length xs) k d refl le) (h d))
    ]

    joined : EitherSide P xs ys → Any P (xs ++ ys)
    joined (inl (k, l, h)) = (k, omega (arith, length-append xs ys), λ d. subst P (sym (get_or_append_left xs ys d k l)) (h d))
    joined (inr (k, l, h)) = (length xs + k, omega (arith, length-append xs ys), λ d. subst P (sym (get_or-append-add xs ys k d)) (h d))

-- the library's first place is where the holding stands
pub spot_position : (hs : List Holding) (m i : ℕ) → position (λ h. is_of h m i) hs ≡ spot_of hs m i
spot_position [] m i = refl
spot_position (h ∷ hs) m i = go (is_of h m i) (position_or_len (λ x. is_of x m i) hs) (length hs) (spot_of hs m i) (spot_position hs m i)
  where
    later : (n l : ℕ) (o : Option ℕ) (b : Bool) → ltb n l ≡ b → cond b (Some n) None ≡ o → cond (ltb (1 + n) (suc l)) (Some (1 + n)) None ≡ option_map (λ k. 1 + k) o
    later n l o true e q = let f : ltb (1 + n) (suc l) ≡ true = grind (arith, nat_tests) in ap (λ c. cond c (Some (1 + n)) None) f ∙ ap (option_map (λ k. 1 + k)) q
    later n l o false e q = let f : ltb (1 + n) (suc l) ≡ false = grind (arith, nat_tests) in ap (λ c. cond c (Some (1 + n)) None) f ∙ ap (option_map (λ k. 1 + k)) q

    go : (b : Bool) (n l : ℕ) (o : Option ℕ) → cond (ltb n l) (Some n) None ≡ o → cond (ltb (cond (not b) (1 + n) 0) (suc l)) (Some (cond (not b) (1 + n) 0)) None ≡ cond b (Some 0) (option_map (λ k. 1 + k) o)
    go true n l o e = let f : ltb 0 (suc l) ≡ true = grind (arith, nat_tests) in ap (λ c. cond c (Some 0) None) f
    go false n l o e = later n l o (ltb n l) refl e
