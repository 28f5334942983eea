-- A text comes to one outcome.
use Rattle.std.proofs.Common.{◌≡◌, ℕ, ◌+◌, List, ◌++◌, Some, None, Option, sym, refl, ap, ◌∙◌, subst, subst₂, inl, inr, arith}
use Rattle.tables.specs.Refusals.{First}
use Rattle.layout.specs.Records.{Contents}
use Rattle.layout.specs.Layout.{Slot, Says, rules, calls_for, with_line}
use Rattle.layout.specs.Runs.{LiesNext, Outcome, reads, refused, ComesTo, ends, trails, departs, breaks, keeps, Reads, Refused, OneOutcome}
use Rattle.layout.proofs.Lines.{next_once, answer_once}

-- two lines that lie next have the same answer
same_answer : {s : Slot} {x : Contents} {text p q : List ℕ} (c d : Says s) (m n : Option ℕ) → LiesNext s x text c p → LiesNext s x text d q → First (rules s x c) m → First (rules s x d) n → m ≡ n
same_answer {s} {x} c d m n f g a b = answer_once (rules s x d) m n (subst (λ e. First (rules s x e) m) (next_once f g).0 a) b

none_some : {A : Type 0} (n : ℕ) → ◌≡◌ {A = Option ℕ} None (Some n) → A
none_some n e = let z : ◌≡◌ {A = ℕ} 0 1 = cc in absurd (omega arith)

pub once : {due : List Slot} {x : Contents} {text : List ℕ} {line : ℕ} {o p : Outcome} → ComesTo due x text line o → ComesTo due x text line p → o ≡ p
once ends ends = refl
once ends (trails h) = absurd (omega arith)
once (trails h) ends = absurd (omega arith)
once (trails h) (trails g) = refl
once (departs f) (departs g) = refl
once (departs f) (breaks c r l b) = absurd (f c r l)
once (departs f) (keeps c r l b t) = absurd (f c r l)
once (breaks c r l b) (departs f) = absurd (f c r l)
once {line = line} (breaks {n = m} c r l b) (breaks {n = n} d q k a) = let e : ◌≡◌ {A = Option ℕ} (Some m) (Some n) = same_answer c d (Some m) (Some n) l k b a in let h : m ≡ n = cc in ap (λ z. refused z line) h
once (breaks {n = m} c r l b) (keeps d q k a t) = none_some m (sym (same_answer c d (Some m) None l k b a))
once (keeps c r l b t) (departs f) = absurd (f c r l)
once (keeps c r l b t) (breaks {n = n} d q k a) = none_some n (same_answer c d None (Some n) l k b a)
once {x = x} {line = line} {p = p} (keeps {s = s} {due = due} c r l b t) (keeps d q k a u) =
    let h = next_once l k in
    let T : Says s → List ℕ → Type 0 = λ e z. ComesTo (calls_for s e ++ due) (with_line s e x) z (line + 1) p in
    once t (subst₂ T (sym h.0) (sym h.1) u)

pub one_outcome : OneOutcome
one_outcome = record { one_reading = one_reading; one_refusal = one_refusal; not_both = not_both }
  where
    one_reading : (text : List ℕ) (x y : Contents) → Reads text x → Reads text y → x ≡ y
    one_reading text x y f g = let e : reads x ≡ reads y = once f.1 g.1 in cc

    one_refusal : (text : List ℕ) (m n k l : ℕ) → Refused text m k → Refused text n l → (m ≡ n) × (k ≡ l)
    one_refusal text m n k l (inl f) (inl g) = (f.1 ∙ sym g.1, f.2 ∙ sym g.2)
    one_refusal text m n k l (inl f) (inr g) = absurd (omega (arith, f.0, g.0))
    one_refusal text m n k l (inr f) (inl g) = absurd (omega (arith, f.0, g.0))
    one_refusal text m n k l (inr f) (inr g) = let e : refused m k ≡ refused n l = once f.1 g.1 in (cc, cc)

    not_both : (text : List ℕ) (x : Contents) (n l : ℕ) → Reads text x → Refused text n l → ⊥
    not_both text x n l f (inl g) = omega (arith, f.0, g.0)
    not_both text x n l f (inr g) = let e : reads x ≡ refused n l = once f.1 g.1 in let z : ◌≡◌ {A = ℕ} 0 1 = cc in omega arith
