-- A text that lacks its last line is refused at the line after its own last.
use Rattle.std.proofs.Common.{◌≡◌, ℕ, zero, suc, ◌+◌, ◌<◌, ◌≤◌, Bool, true, not, eqb, List, [], ◌∷◌, ◌++◌, length, length-append, sym, ap, subst, inr, arith}
use Rattle.std.proofs.lemmas.Bool.{and_parts, not-true, eqb-false}
use Rattle.text.specs.Parts.{Free}
use Rattle.text.proofs.Cuts.{first_once}
use Rattle.layout.specs.Records.{Contents}
use Rattle.layout.specs.Layout.{Slot, calls_for, with_line}
use Rattle.layout.specs.Render.{ended}
use Rattle.layout.specs.Runs.{reads, refused, ComesTo, ends, departs, keeps, Reads, Refused}
use Rattle.cases.proofs.Building.{all_pass}

-- no byte 10
abbrev is_line : List ℕ → Bool
is_line l = all_pass (λ b. not (eqb b 10)) l

line_free : (l : List ℕ) → is_line l ≡ true → Free 10 l
line_free [] h k m = absurd (omega arith)
line_free (b ∷ bs) h zero m = eqb-false b 10 (not-true (eqb b 10) (and_parts (not (eqb b 10)) (is_line bs) h).0)
line_free (b ∷ bs) h (suc k) m = line_free bs (and_parts (not (eqb b 10)) (is_line bs) h).1 k (let n : suc k < suc (length bs) = m in omega arith)

none_in : {X : Type 0} (l rest : List ℕ) → [] ≡ l ++ 10 ∷ rest → X
none_in l rest e = absurd (omega (arith, ap length e, length-append l (10 ∷ rest)))

cut : {due : List Slot} {x out : Contents} {text : List ℕ} {line : ℕ} → ComesTo due x text line (reads out) → (ls : List (List ℕ)) (l : List ℕ) → all_pass is_line ls ≡ true → text ≡ ended (ls ++ l ∷ []) → ComesTo due x (ended ls) line (refused 13 (line + length ls))
cut ends [] l f e = none_in l [] e
cut ends (m ∷ ms) l f e = none_in m (ended (ms ++ l ∷ [])) e
cut {line = line} (keeps {s = s} {due = due} {x = x} c rest lies first t) [] l f e =
    let z : line ≡ line + 0 = omega arith in
    subst (λ k. ComesTo (s ∷ due) x [] line (refused 13 k)) z (departs (λ d q n. none_in _ q n.ended.is))
cut {line = line} (keeps {s = s} {due = due} {x = x} c rest lies first t) (m ∷ ms) l f e =
    let p = and_parts (is_line m) (all_pass is_line ms) f in
    let o = first_once lies.ended (record { is = e; free = line_free m p.0 }) in
    let z : line + 1 + length ms ≡ line + suc (length ms) = omega arith in
    let next = cut t ms l p.1 o.1 in
    keeps c (ended ms) (record { ended = record { is = ap (λ b. b ++ 10 ∷ ended ms) (sym o.0); free = lies.ended.free }; fits = lies.fits }) first
    (subst (λ k. ComesTo (calls_for s c ++ due) (with_line s c x) (ended ms) (line + 1) (refused 13 k)) z next)

-- a text that reads, without its last line
pub lacking : (text : List ℕ) (x : Contents) → Reads text x → (ls : List (List ℕ)) (l : List ℕ) → all_pass is_line ls ≡ true → text ≡ ended (ls ++ l ∷ []) → length (ended ls) ≤ 32768 → Refused (ended ls) 13 (1 + length ls)
lacking text x r ls l f e h = inr (h, cut r.1 ls l f e)
