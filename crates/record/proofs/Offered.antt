-- The lines of offers, one after another.
use Rattle.std.proofs.Common.{◌≡◌, ℕ, zero, suc, ◌+◌, ◌<◌, ◌≤◌, List, [], ◌∷◌, ◌++◌, map, length, get_or, take, Ok, Result, sym, refl, ap, ◌∙◌, ⊎_elim, append_assoc, append-nil, arith}
use native.Mathlib.Bridge.{le_prop}
use mathlib.Core.Logic.{∥∥₁_elim}
use Rattle.std.proofs.lemmas.List.{map_push, take_all}
use Rattle.tables.specs.declared.refusal.Refusal.{Refusal}
use Rattle.tables.proofs.Firsts.{accepted}
use Rattle.text.specs.Numbers.{unsigned}
use Rattle.text.specs.Rows.{row_spelt}
use Rattle.text.specs.declared.buffer.Buffer.{Buffer}
use Rattle.book.specs.Allotments.{Units, Allotment}
use Rattle.book.specs.Books.{Book, Offer, no_offer, offer_at, line_count}
use Rattle.book.specs.Rows.{map_with}
use Rattle.book.specs.declared.line.Line.{Line}
use Rattle.book.proofs.Sums.{length_map_with}
use Rattle.layout.specs.Records.{OfferWithUnits, fill_line, fill_offer}
use Rattle.layout.specs.Layout.{offer, give, get, spell}
use Rattle.layout.specs.Render.{head_of, offers_lines}
use Rattle.round.specs.Closed.{closed_book}
use Rattle.round.specs.Questions.{lines_on, units_on, AnswersUnits}
use Rattle.round.specs.declared.closed_round.ClosedRound.{ClosedRound}
use Rattle.book.specs.declared.side.Side.{Side}
use Rattle.book.specs.declared.side.Side.TheVariants.{Give, Get}
use Rattle.record.specs.Writing.{Adds, side_lines}
use Rattle.record.proofs.Adding.{adds_same, adds_then}

with_suc : {X U Y : Type 0} (f : X → U → Y) (xs : List X) (u : ℕ → U) (i : ℕ) (d : X) → i < length xs → map_with f (take (suc i) xs) u ≡ map_with f (take i xs) u ++ f (get_or xs i d) (u i) ∷ []
with_suc f [] u i d lt = absurd (omega arith)
with_suc f (x ∷ xs) u zero d lt = refl
with_suc f (x ∷ xs) u (suc i) d lt = ap (λ l. f x (u 0) ∷ l) (with_suc f xs (λ k. u (suc k)) i d (omega arith))

-- one entry more
pub with_more : {X U Y : Type 0} (f : X → U → Y) (xs : List X) (u : ℕ → U) (i : ℕ) (d : X) → i < length xs → map_with f (take (i + 1) xs) u ≡ map_with f (take i xs) u ++ f (get_or xs i d) (u i) ∷ []
with_more f xs u i d lt =
    let e : i + 1 ≡ suc i = omega arith in
    ap (λ n. map_with f (take n xs) u) e ∙ with_suc f xs u i d lt

offers_append : (fs gs : List OfferWithUnits) → offers_lines (fs ++ gs) ≡ offers_lines fs ++ offers_lines gs
offers_append [] gs = refl
offers_append (f ∷ fs) gs =
    let gives = map (spell give) f.give in
    let gets = map (spell get) f.get in
    ap (λ ls. spell offer (head_of f) ∷ (gives ++ (gets ++ ls))) (offers_append fs gs)
    ∙ ap (λ ls. spell offer (head_of f) ∷ (gives ++ ls)) (sym (append_assoc gets (offers_lines fs) (offers_lines gs)))
    ∙ ap (λ ls. spell offer (head_of f) ∷ ls) (sym (append_assoc gives (gets ++ offers_lines fs) (offers_lines gs)))

side_le : (s : Side) (o : Offer) → length (lines_on s o) ≤ length o.give + length o.get
side_le Give o = omega arith
side_le Get o = omega arith

side_count : (s : Side) (os : List Offer) (k : ℕ) → k < length os → length (lines_on s (get_or os k no_offer)) ≤ line_count os
side_count s [] k lt = absurd (omega arith)
side_count s (o ∷ os) zero lt = omega (arith, side_le s o)
side_count s (o ∷ os) (suc k) lt = omega (arith, side_count s os k (omega arith))

-- no side of an offer has more lines than a round
pub few_lines : {W : Type 0} (x : ClosedRound W) (s : Side) (k : ℕ) → k < length (closed_book x).offers → length (lines_on s (offer_at (closed_book x) k)) ≤ 256
few_lines x s k lt = ∥∥₁_elim x.round.sound le_prop (λ h. omega (arith, h.lines_few, side_count s (closed_book x).offers k lt))

-- a line that there is has its units
pub units_known : (b : Book) (a : Allotment) (k : ℕ) (s : Side) (t : ℕ) (r : Result ℕ Refusal) → AnswersUnits b a k s t r → k < length b.offers → t < length (lines_on s (offer_at b k)) → (n : ℕ) × (r ≡ Ok n) × (n ≡ units_on s (a k) t)
units_known b a k s t r h known there = accepted (λ n. n ≡ units_on s (a k) t) (λ _. Unit {0}) r (h.refused.1 (⊎_elim (λ le. omega arith) (λ le. omega arith))) h.answer

-- one line of a side more, and all of them
module _ (ls : List Line) (u : ℕ → ℕ) (i : ℕ) where
  pub adds_side_line : {a b c : Buffer} (d : Line) {line : List ℕ} → i < length ls → line ≡ spell give (fill_line (get_or ls i d) (u i)) → Adds a b (side_lines (map_with fill_line (take i ls) u)) → Adds b c (line ∷ []) → Adds a c (side_lines (map_with fill_line (take (i + 1) ls) u))
  adds_side_line d lt e p q =
      let before = map_with fill_line (take i ls) u in
      adds_same (ap (λ l. side_lines before ++ l ∷ []) e ∙ sym (ap side_lines (with_more fill_line ls u i d lt) ∙ map_push (spell give) before (fill_line (get_or ls i d) (u i)))) (adds_then p q)

  pub adds_side : {a b : Buffer} → length ls ≤ i → Adds a b (side_lines (map_with fill_line (take i ls) u)) → Adds a b (side_lines (map_with fill_line ls u))
  adds_side le p = adds_same (ap (λ l. side_lines (map_with fill_line l u)) (take_all i ls le)) p

-- the head of an offer, and the lines of both sides
pub adds_offer : {a b c d : Buffer} (o : Offer) (u : Units) {line : List ℕ} → line ≡ row_spelt unsigned (o.member ∷ o.limit ∷ length o.give ∷ length o.get ∷ []) → Adds a b (line ∷ []) → Adds b c (side_lines (map_with fill_line o.give u.give)) → Adds c d (side_lines (map_with fill_line o.get u.get)) → Adds a d (offers_lines (fill_offer o u ∷ []))
adds_offer o u e head gives gets =
    let gave = side_lines (map_with fill_line o.give u.give) in
    let got = side_lines (map_with fill_line o.get u.get) in
    let m = sym (length_map_with fill_line o.give u.give) in
    let n = sym (length_map_with fill_line o.get u.get) in
    adds_same
    (ap (λ l. l ∷ (gave ++ got)) (e ∙ (λ i. row_spelt unsigned (o.member ∷ o.limit ∷ m i ∷ n i ∷ []))) ∙ ap (λ ls. spell offer (head_of (fill_offer o u)) ∷ (gave ++ ls)) (sym (append-nil got)))
    (adds_then head (adds_then gives gets))

-- one offer more, and all of them
module _ (os : List Offer) (al : Allotment) (k : ℕ) where
  pub adds_one_offer : {a b c : Buffer} → k < length os → Adds a b (offers_lines (map_with fill_offer (take k os) al)) → Adds b c (offers_lines (fill_offer (get_or os k no_offer) (al k) ∷ [])) → Adds a c (offers_lines (map_with fill_offer (take (k + 1) os) al))
  adds_one_offer lt p q = adds_same (sym (ap offers_lines (with_more fill_offer os al k no_offer lt) ∙ offers_append (map_with fill_offer (take k os) al) (fill_offer (get_or os k no_offer) (al k) ∷ []))) (adds_then p q)

  pub adds_offers : {a b : Buffer} → length os ≤ k → Adds a b (offers_lines (map_with fill_offer (take k os) al)) → Adds a b (offers_lines (map_with fill_offer os al))
  adds_offers le p = adds_same (ap (λ l. offers_lines (map_with fill_offer l al)) (take_all k os le)) p
