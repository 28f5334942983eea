-- The units given of an item are those that leave from its holdings and those that leave from the item itself.
use Rattle.std.proofs.Common.{◌≡◌, ℕ, zero, suc, ◌+◌, ◌<◌, Bool, true, false, cond, ◌&&◌, eqb, List, [], ◌∷◌, length, get_or, sym, refl, ap, ◌∙◌, ap₂, ⊎_elim, arith}
use Rattle.std.specs.List.{AllByRecursion}
use Rattle.std.proofs.lemmas.Bool.{cases_Bool, or_parts}
use Rattle.flow.specs.Graphs.{when}
use Rattle.book.specs.Rows.{sum_with}
use Rattle.book.specs.Books.{Offer, Fair, FairOffer, is_of, no_holding}
use Rattle.book.specs.Allotments.{Allotment, of_item, got, given, given_by}
use Rattle.book.specs.Arcs.{OfferFlows, held_flows}
use Rattle.book.specs.declared.line.Line.{Line}
use Rattle.book.specs.declared.holding.Holding.{Holding}
use Rattle.book.proofs.Sums.{sum, sum_same, sum_alike, sum_zero, when_eq, when_ne, when_plus, when_zero}
use Rattle.book.proofs.Holdings.{has, Apart, is_turned, same_pair, none_else, none_at, leaves, leaves_step, leaves_apart}
use Rattle.book.proofs.Nodes.{left_by, got_at, left_from, held_of}

-- a sum over the holdings of item v
abbrev over : ℕ → List Holding → (Holding → ℕ) → ℕ
over v hs f = sum (λ h. when (eqb h.item v) (f h)) hs

over_plus : (v : ℕ) (hs : List Holding) (f g : Holding → ℕ) → over v hs (λ h. f h + g h) ≡ over v hs f + over v hs g
over_plus v [] f g = refl
over_plus v (h ∷ hs) f g = omega (arith, when_plus (eqb h.item v) (f h) (g h), over_plus v hs f g)

over_zero : (v : ℕ) (hs : List Holding) → over v hs (λ h. 0) ≡ 0
over_zero v [] = refl
over_zero v (h ∷ hs) = ap₂ ◌+◌ (when_zero (eqb h.item v)) (over_zero v hs)

over_same : (v : ℕ) (hs : List Holding) (f g : Holding → ℕ) → ((h : Holding) → f h ≡ g h) → over v hs f ≡ over v hs g
over_same v [] f g e = refl
over_same v (h ∷ hs) f g e = ap₂ ◌+◌ (ap (when (eqb h.item v)) (e h)) (over_same v hs f g e)

over_none : (v : ℕ) (hs : List Holding) (m j x : ℕ) → has hs m j ≡ false → over v hs (λ h. when (is_of h m j) x) ≡ 0
over_none v [] m j x e = refl
over_none v (h ∷ hs) m j x e =
    let p = or_parts (is_of h m j) (has hs m j) e in
    ap₂ ◌+◌ (ap (λ t. when (eqb h.item v) (when t x)) p.0 ∙ when_zero (eqb h.item v)) (over_none v hs m j x p.1)

-- one line: from its holding or from the item
line_split : (q v : ℕ) (hs : List Holding) (m j x : ℕ) → v < q → Apart hs → over v hs (λ h. when (is_of h m j) x) + when (eqb (leaves q hs m j) v) x ≡ when (eqb j v) x
line_split q v [] m j x l a = omega arith
line_split q v (h ∷ hs) m j x l a = ap (λ t. over v (h ∷ hs) (λ h. when (is_of h m j) x) + when (eqb t v) x) (leaves_step q h hs m j) ∙ ⊎_elim here (λ e. there e (line_split (q + 1) v hs m j x (omega arith) a.1)) (cases_Bool (is_of h m j))
  where
    here : is_of h m j ≡ true → over v (h ∷ hs) (λ h. when (is_of h m j) x) + when (eqb (cond (is_of h m j) q (leaves (q + 1) hs m j)) v) x ≡ when (eqb j v) x
    here e =
        let p = same_pair h m j e in
        let one : when (eqb h.item v) (when (is_of h m j) x) ≡ when (eqb j v) x = ap₂ (λ i t. when (eqb i v) (when t x)) (sym p.1) e in
        let none = over_none v hs m j x (none_else h hs m j a e) in
        let node : when (eqb (cond (is_of h m j) q (leaves (q + 1) hs m j)) v) x ≡ 0 = ap (λ t. when (eqb (cond t q (leaves (q + 1) hs m j)) v) x) e ∙ when_ne q v x (omega arith) in
        omega arith

    there : is_of h m j ≡ false → over v hs (λ h. when (is_of h m j) x) + when (eqb (leaves (q + 1) hs m j) v) x ≡ when (eqb j v) x → over v (h ∷ hs) (λ h. when (is_of h m j) x) + when (eqb (cond (is_of h m j) q (leaves (q + 1) hs m j)) v) x ≡ when (eqb j v) x
    there e ih =
        let one : when (eqb h.item v) (when (is_of h m j) x) ≡ 0 = ap (λ t. when (eqb h.item v) (when t x)) e ∙ when_zero (eqb h.item v) in
        let node : when (eqb (cond (is_of h m j) q (leaves (q + 1) hs m j)) v) x ≡ when (eqb (leaves (q + 1) hs m j) v) x = ap (λ t. when (eqb (cond t q (leaves (q + 1) hs m j)) v) x) e in
        omega arith

-- one line: it leaves from holding k just if that is its member's holding of its item
line_from : (q v k : ℕ) (hs : List Holding) (m j x : ℕ) (d : Holding) → v ≡ q + k → k < length hs → j < q → Apart hs → when (is_of (get_or hs k d) m j) x ≡ when (eqb (leaves q hs m j) v) x
line_from q v k [] m j x d e l b a = absurd (omega arith)
line_from q v zero (h ∷ hs) m j x d e l b a = go (is_of h m j) ∙ sym (ap (λ t. when (eqb t v) x) (leaves_step q h hs m j))
  where
    go : (t : Bool) → when t x ≡ when (eqb (cond t q (leaves (q + 1) hs m j)) v) x
    go true = sym (when_eq q v x (omega arith))
    go false = sym (when_ne (leaves (q + 1) hs m j) v x (leaves_apart (q + 1) hs m j v (omega arith) (omega arith)))
line_from q v (suc k) (h ∷ hs) m j x d e l b a = ⊎_elim here (λ t. there t (line_from (q + 1) v k hs m j x d (omega arith) (omega arith) (omega arith) a.1)) (cases_Bool (is_of h m j)) ∙ sym (ap (λ t. when (eqb t v) x) (leaves_step q h hs m j))
  where
    here : is_of h m j ≡ true → when (is_of (get_or hs k d) m j) x ≡ when (eqb (cond (is_of h m j) q (leaves (q + 1) hs m j)) v) x
    here t = ap (λ z. when z x) (none_at hs m j k d (none_else h hs m j a t) (omega arith)) ∙ sym (ap (λ z. when (eqb (cond z q (leaves (q + 1) hs m j)) v) x) t ∙ when_ne q v x (omega arith))

    there : is_of h m j ≡ false → when (is_of (get_or hs k d) m j) x ≡ when (eqb (leaves (q + 1) hs m j) v) x → when (is_of (get_or hs k d) m j) x ≡ when (eqb (cond (is_of h m j) q (leaves (q + 1) hs m j)) v) x
    there t ih = ih ∙ sym (ap (λ z. when (eqb (cond z q (leaves (q + 1) hs m j)) v) x) t)

-- what a member's offer gives of an item, line by line
pub own_lines : (m M J : ℕ) (ls : List Line) (x : ℕ → ℕ) → when (eqb m M) (of_item J ls x) ≡ sum_with (λ l y. when (eqb m M && eqb l.item J) y) ls x
own_lines m M J ls x = go (eqb m M)
  where
    go : (t : Bool) → when t (of_item J ls x) ≡ sum_with (λ l y. when (t && eqb l.item J) y) ls x
    go true = refl
    go false = sym (sum_zero ls x)

held_lines : (h : Holding) (m : ℕ) (ls : List Line) (x : ℕ → ℕ) → when (eqb m h.member) (of_item h.item ls x) ≡ sum_with (λ l y. when (is_of h m l.item) y) ls x
held_lines h m ls x = own_lines m h.member h.item ls x ∙ sum_alike (λ l y. when (eqb m h.member && eqb l.item h.item) y) (λ l y. when (is_of h m l.item) y) (λ l y. ap (λ t. when t y) (is_turned h m l.item)) ls x

-- the lines that flows put units on
abbrev pub lines_of : (ℕ → OfferFlows) → Allotment
lines_of g k = record { give = (g k).give; get = (g k).get }

pub got_split : (v : ℕ) (os : List Offer) (g : ℕ → OfferFlows) → got_at v os g ≡ got os (lines_of g) v
got_split v [] g = refl
got_split v (o ∷ os) g = ap (λ t. of_item v o.get (g 0).get + t) (got_split v os (λ k. g (suc k)))

held_over : (v : ℕ) (ks : List Holding) (f : Holding → ℕ) → held_of v ks (λ k. f (get_or ks k no_holding)) ≡ over v ks f
held_over v [] f = refl
held_over v (h ∷ ks) f = ap (λ t. when (eqb h.item v) (f h) + t) (held_over v ks f)

module _ (n : ℕ) (hs : List Holding) (apart : Apart hs) where
  lines_split : (v m : ℕ) (ls : List Line) (x : ℕ → ℕ) → v < n → over v hs (λ h. sum_with (λ l y. when (is_of h m l.item) y) ls x) + sum_with (λ l y. when (eqb (leaves n hs m l.item) v) y) ls x ≡ of_item v ls x
  lines_split v m [] x l = omega (arith, over_zero v hs)
  lines_split v m (k ∷ ls) x l =
      let a = over_plus v hs (λ h. when (is_of h m k.item) (x 0)) (λ h. sum_with (λ l y. when (is_of h m l.item) y) ls (λ t. x (suc t))) in
      let c = line_split n v hs m k.item (x 0) l apart in
      let d = lines_split v m ls (λ t. x (suc t)) l in
      omega (arith, a, c, d)

  offer_split : (v : ℕ) (o : Offer) (x : ℕ → ℕ) → v < n → over v hs (λ h. when (eqb o.member h.member) (of_item h.item o.give x)) + left_by n hs v o x ≡ of_item v o.give x
  offer_split v o x l = ap (λ t. t + left_by n hs v o x) (over_same v hs (λ h. when (eqb o.member h.member) (of_item h.item o.give x)) (λ h. sum_with (λ l y. when (is_of h o.member l.item) y) o.give x) (λ h. held_lines h o.member o.give x)) ∙ lines_split v o.member o.give x l

  offers_split : (v : ℕ) (os : List Offer) (g : ℕ → OfferFlows) → v < n → over v hs (λ h. given_by os (lines_of g) h.member h.item) + left_from n hs v os g ≡ given os (lines_of g) v
  offers_split v [] g l = omega (arith, over_zero v hs)
  offers_split v (o ∷ os) g l =
      let a = over_plus v hs (λ h. when (eqb o.member h.member) (of_item h.item o.give (g 0).give)) (λ h. given_by os (lines_of (λ k. g (suc k))) h.member h.item) in
      let c = offer_split v o (g 0).give l in
      let d = offers_split v os (λ k. g (suc k)) l in
      omega (arith, a, c, d)

  -- of each item, what leaves its holdings and what leaves itself is what is given
  pub given_split : (v : ℕ) (os : List Offer) (g : ℕ → OfferFlows) → v < n → held_of v hs (held_flows hs os (lines_of g)) + left_from n hs v os g ≡ given os (lines_of g) v
  given_split v os g l = ap (λ t. t + left_from n hs v os g) (held_over v hs (λ h. given_by os (lines_of g) h.member h.item)) ∙ offers_split v os g l

  -- what leaves from holding k is what its member gives of its item
  pub given_from : (m k : ℕ) (os : List Offer) (g : ℕ → OfferFlows) → k < length hs → AllByRecursion (FairOffer n m) os → held_flows hs os (lines_of g) k ≡ left_from n hs (n + k) os g
  given_from m k [] g l e = refl
  given_from m k (o ∷ os) g l e =
      let h : Holding = get_or hs k no_holding in
      ap₂ ◌+◌ (held_lines h o.member o.give (g 0).give ∙ sum_same (Fair n) (λ w y. when (is_of h o.member w.item) y) (λ w y. when (eqb (leaves n hs o.member w.item) (n + k)) y) (λ w y r. line_from n (n + k) k hs o.member w.item y no_holding refl l r.known apart) o.give (g 0).give e.0.gives.fair) (given_from m k os (λ k. g (suc k)) l e.1)
