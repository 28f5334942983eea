-- The earliest faulty line decides a text: what follows it plays no part, and no line above it is at fault.
use Rattle.std.proofs.Common.{◌≡◌, ℕ, ◌+◌, ◌<◌, ◌≤◌, ◌⊎◌, List, [], ◌∷◌, ◌++◌, length, length-append, refl, ap, ◌∙◌, subst, inl, inr, append_assoc, arith}
use Rattle.std.specs.List.{AllByRecursion}
use Rattle.text.specs.Parts.{Free, FirstAt}
use Rattle.text.proofs.Cuts.{first_once}
use Rattle.layout.specs.Records.{Contents}
use Rattle.layout.specs.Layout.{Slot, Says, spell, nothing, heads}
use Rattle.layout.specs.Runs.{LiesNext, reads, refused, ComesTo, ends, trails, departs, breaks, keeps, Reads, Refused}
use Rattle.layout.specs.Render.{ended, EarliestDecides, CutBeforeFault}

-- the first of the lines that a text begins with
first_line : {text : List ℕ} (l : List ℕ) (ls : List (List ℕ)) (rest : List ℕ) → Free 10 l → text ≡ ended (l ∷ ls) ++ rest → FirstAt 10 text l (ended ls ++ rest)
first_line l ls rest f e = record { is = e ∙ append_assoc l (10 ∷ ended ls) rest; free = f }

-- what a line says does not rest on what follows it
lies_too : {s : Slot} {x : Contents} {text other l p q r : List ℕ} {c : Says s} → FirstAt 10 text l p → FirstAt 10 other l q → LiesNext s x text c r → LiesNext s x other c q
lies_too {other = other} {q = q} f g lies = record { ended = subst (λ b. FirstAt 10 other b q) (first_once f lies.ended).0 g; fits = lies.fits }

-- a refusal is at no line before the first that is read
not_before : {due : List Slot} {x : Contents} {text : List ℕ} {k n line : ℕ} → ComesTo due x text k (refused n line) → k ≤ line
not_before (trails h) = omega arith
not_before (departs f) = omega arith
not_before (breaks c r lies b) = omega arith
not_before (keeps c r lies b t) = omega (arith, not_before t)

decides : (ls : List (List ℕ)) {due : List Slot} {x : Contents} {text : List ℕ} {k n line : ℕ} → ComesTo due x text k (refused n line) → (rest other : List ℕ) → AllByRecursion (Free 10) ls → text ≡ ended ls ++ rest → line < k + length ls → ComesTo due x (ended ls ++ other) k (refused n line)
decides [] t rest other f e lt = absurd (omega (arith, not_before t))
decides (l ∷ ls) (trails h) rest other f e lt = trails (omega (arith, length-append (l ++ 10 ∷ ended ls) other, length-append l (10 ∷ ended ls)))
decides (l ∷ ls) (departs g) rest other f e lt = departs (λ c q lies. g c (ended ls ++ rest) (lies_too (first_line l ls other f.0 refl) (first_line l ls rest f.0 e) lies))
decides (l ∷ ls) (breaks c r lies b) rest other f e lt = breaks c (ended ls ++ other) (lies_too (first_line l ls rest f.0 e) (first_line l ls other f.0 refl) lies) b
decides (l ∷ ls) (keeps c r lies b t) rest other f e lt =
    let here = first_line l ls rest f.0 e in
    keeps c (ended ls ++ other) (lies_too here (first_line l ls other f.0 refl) lies) b (decides ls t rest other f.1 (first_once lies.ended here).1 (omega arith))

pub earliest_decides : EarliestDecides
earliest_decides ls rest other n line f (inl r) lt le fit = absurd (omega (arith, r.2))
earliest_decides ls rest other n line f (inr r) lt le fit = inr (fit, decides ls r.1 rest other f refl (omega arith))

-- from line k on, the text lacks this line, or it is whole
abbrev LacksOrReads : List Slot → Contents → List ℕ → ℕ → ℕ → Type 0
LacksOrReads due x text k line = ComesTo due x text k (refused 13 line) ⊎ ((y : Contents) × ComesTo due x text k (reads y))

at_end : (due : List Slot) (x : Contents) (k : ℕ) → LacksOrReads due x [] k k
at_end [] x k = inr (x, ends)
at_end (s ∷ due) x k = inl (departs (λ c q lies. omega (arith, ap length lies.ended.is, length-append (spell s c) (10 ∷ q))))

cut : (ls : List (List ℕ)) {due : List Slot} {x : Contents} {text : List ℕ} {k n line m : ℕ} → ComesTo due x text k (refused n line) → (rest : List ℕ) → AllByRecursion (Free 10) ls → text ≡ ended ls ++ rest → m ≡ k + length ls → m ≤ line → LacksOrReads due x (ended ls) k m
cut [] {due} {x} {k = k} {m = m} t rest f e at le = let here : k ≡ m = omega arith in subst (LacksOrReads due x [] k) here (at_end due x k)
cut (l ∷ ls) (trails h) rest f e at le = absurd (omega arith)
cut (l ∷ ls) (departs g) rest f e at le = absurd (omega arith)
cut (l ∷ ls) (breaks c r lies b) rest f e at le = absurd (omega arith)
cut (l ∷ ls) (keeps {s = s} {x = x} c r lies b t) rest f e at le =
    let here = first_line l ls rest f.0 e in
    let whole : LiesNext s x (ended (l ∷ ls)) c (ended ls) = lies_too here (record { is = refl; free = f.0 }) lies in
    elim (cut ls t rest f.1 (first_once lies.ended here).1 (omega arith) le) [
      | inl u ↦ inl (keeps c (ended ls) whole b u)
      | inr u ↦ inr (u.0, keeps c (ended ls) whole b u.1)
    ]

pub cut_before_fault : CutBeforeFault
cut_before_fault ls rest n line f (inl r) lt = absurd (omega (arith, r.2))
cut_before_fault ls rest n line f (inr r) lt = go (cut ls r.1 rest f refl (omega arith) (omega arith))
  where
    short : length (ended ls) ≤ 32768
    short = omega (arith, r.0, length-append (ended ls) rest)

    go : LacksOrReads heads nothing (ended ls) 1 (length ls + 1) → Refused (ended ls) 13 (length ls + 1) ⊎ ((x : Contents) × Reads (ended ls) x)
    go (inl t) = inl (inr (short, t))
    go (inr (y, t)) = inr (y, (short, t))
