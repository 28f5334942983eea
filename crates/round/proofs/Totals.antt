-- Sums over the lines of a side and the arcs that stand for them.
use Rattle.std.proofs.Common.{◌≡◌, ℕ, suc, ◌+◌, ◌*◌, ◌<◌, ◌≤◌, Bool, true, false, cond, not, eqb, List, [], ◌∷◌, length, get_or, sym, refl, ap, ◌∙◌, mul-le-mul_left, arith}
use Rattle.std.specs.List.{zip, sum_by, filter}
use Rattle.std.proofs.lemmas.List.Sums.{sum_by-cons}
use Rattle.flow.specs.declared.arc.Arc.{Arc}
use Rattle.flow.specs.Arcs.{flow_of}
use Rattle.book.specs.Rows.{sum_with}
use Rattle.book.specs.Allotments.{price_of, weeks_on}
use Rattle.book.specs.declared.line.Line.{Line}
use Rattle.round.specs.Questions.{Moderate}

-- a sum over the pairs of a line and its arc
sum_zip : (f : Line → ℕ → ℕ) (ls : List Line) (arcs : List Arc) → length arcs ≡ length ls → sum_by (λ p. f p.0 p.1.flow) (zip ls arcs) ≡ sum_with f ls (flow_of arcs)
sum_zip f [] arcs e = refl
sum_zip f (l ∷ ls) [] e = absurd (omega arith)
sum_zip f (l ∷ ls) (a ∷ arcs) e = sum_by-cons (λ p. f p.0 p.1.flow) (l, a) (zip ls arcs) ∙ ap (λ n. f l a.flow + n) (sum_zip f ls arcs (omega arith))

-- the terms that a test lets through
kept : {X : Type 0} (f : X → ℕ) (x : X) (ys : List X) (b : Bool) (n : ℕ) → sum_by f ys ≡ n → sum_by f (cond (not b) (x ∷ ys) ys) ≡ cond b 0 (f x) + n
kept f x ys true n e = omega (arith, e)
kept f x ys false n e = sum_by-cons f x ys ∙ ap (λ k. f x + k) e

sum_filter : {X : Type 0} (q : X → Bool) (f : X → ℕ) (xs : List X) → sum_by f (filter (λ x. not (q x)) xs) ≡ sum_by (λ x. cond (q x) 0 (f x)) xs
sum_filter q f [] = refl
sum_filter q f (x ∷ xs) = kept f x (filter (λ y. not (q y)) xs) (q x) (sum_by (λ y. cond (q y) 0 (f y)) xs) (sum_filter q f xs) ∙ sym (sum_by-cons (λ y. cond (q y) 0 (f y)) x xs)

-- terms of at most m each
sum_bound : (f : Line → ℕ → ℕ) (m : ℕ) (ls : List Line) (u : ℕ → ℕ) → ((t : ℕ) (d : Line) → t < length ls → f (get_or ls t d) (u t) ≤ m) → sum_with f ls u ≤ length ls * m
sum_bound f m [] u h = omega arith
sum_bound f m (l ∷ ls) u h = omega (arith, h 0 l (omega arith), sum_bound f m ls (λ k. u (suc k)) (λ t d i. h (suc t) d (omega arith)))

product_small : (p n : ℕ) → p ≤ 1000000 → n ≤ 1000 → p * n ≤ 1000000000
product_small p n hp hn = omega (arith, mul-le-mul_left p hn)

cond_small : (b : Bool) (n m : ℕ) → n ≤ m → cond b 0 n ≤ m
cond_small true n m h = omega arith
cond_small false n m h = h

module _ (ls : List Line) (arcs : List Arc) (m : Moderate ls arcs) where
  -- the price times the flow
  pub price_sum : sum_by (λ p. p.0.price * p.1.flow) (zip ls arcs) ≡ price_of ls (flow_of arcs)
  price_sum = sum_zip (λ l n. l.price * n) ls arcs m.long

  pub price_small : price_of ls (flow_of arcs) ≤ 256000000000
  price_small = omega (arith, m.few, sum_bound (λ l n. l.price * n) 1000000000 ls (flow_of arcs) (λ t d i. let s = m.small t d i in product_small (get_or ls t d).price (flow_of arcs t) s.0 s.1))

  -- the flow on what is not cash
  pub weeks_sum : sum_by (λ p. p.1.flow) (filter (λ p. not (eqb p.0.item 0)) (zip ls arcs)) ≡ weeks_on ls (flow_of arcs)
  weeks_sum = sum_filter (λ p. eqb p.0.item 0) (λ p. p.1.flow) (zip ls arcs) ∙ sum_zip (λ l n. cond (eqb l.item 0) 0 n) ls arcs m.long

  pub weeks_small : weeks_on ls (flow_of arcs) ≤ 256000
  weeks_small = omega (arith, m.few, sum_bound (λ l n. cond (eqb l.item 0) 0 n) 1000 ls (flow_of arcs) (λ t d i. cond_small (eqb (get_or ls t d).item 0) (flow_of arcs t) 1000 (m.small t d i).1))
