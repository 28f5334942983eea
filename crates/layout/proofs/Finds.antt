-- Whether bytes are a line of a sort can be told, and whether it breaks a rule.
use Rattle.std.proofs.Common.{◌≡◌, ℕ, zero, suc, ◌+◌, ◌<◌, ◌≤◌, ◌⊎◌, List, [], ◌∷◌, ◌++◌, map, length, pos, neg_ℤ, Some, None, codes, Option, sym, refl, ap, ◌∙◌, subst, inl, inr, append-nil, arith}
use Rattle.std.specs.Str.Parse.{digits_value}
use Rattle.std.specs.List.{ContainsAt as Has}
use Rattle.std.proofs.lemmas.Bool.{cases_lt, cases_eq, cases_Bool, both_ways}
use Rattle.tables.specs.Refusals.{Row, when, First}
use Rattle.text.specs.Numbers.{spelt, Notation, unsigned, signed, Legible, Spells}
use Rattle.text.specs.Parts.{Free, FirstAt}
use Rattle.text.specs.Rows.{row_spelt}
use Rattle.text.specs.Sections.{letter}
use Rattle.text.specs.declared.section.Section.{Section}
use Rattle.text.specs.declared.section.Section.TheVariants.{Kinds, Items, Members, Holdings, Offers, Levels}
use Rattle.text.proofs.Cuts.{first_once, no_first, free_none, free_cons}
use Rattle.text.specs.NumbersLemmas.{value_spelt, one_number, no_level, level_from_minus, no_level_plain, legible_unsigned, legible_signed}
use Rattle.book.specs.Arcs.{nodes}
use Rattle.book.specs.Books.{Any, Loop, item_of, line_count, pair}
use Rattle.book.specs.Spelling.{name_bytes, Spelt}
use Rattle.book.specs.declared.holding.Holding.{Holding}
use Rattle.book.specs.declared.line.Line.{Line}
use Rattle.layout.specs.Records.{Kind, by_money, by_money_then_weeks, parts, LineWithUnits, Contents, line_of, offer_of, book_of, level_size}
use Rattle.layout.specs.Layout.{Slot, head, word, item, member, holding, offer, give, get, level, Says, holding_row, offer_row, line_row, spell, Short, Counts, Fits, last, line_rules, rules}
use Rattle.layout.specs.Runs.{LiesNext}
use Rattle.layout.proofs.Lists.{same_bytes}

-- it holds or not
abbrev pub Told : Type 0 → Type 0
Told P = P ⊎ (P → ⊥)

-- something has the property, or nothing
abbrev pub Found : {X : Type 0} → (X → Type 0) → Type 0
Found {X} P = ((x : X) × P x) ⊎ ((x : X) → P x → ⊥)

told_both : {P Q : Type 0} → Told P → Told Q → Told (P × Q)
told_both (inl p) (inl q) = inl (p, q)
told_both (inl p) (inr q) = inr (λ h. q h.1)
told_both (inr p) q = inr (λ h. p h.0)

told_either : {P Q : Type 0} → Told P → Told Q → Told (P ⊎ Q)
told_either (inl p) q = inl (inl p)
told_either (inr p) (inl q) = inl (inr q)
told_either {P} {Q} (inr p) (inr q) = inr no_one
  where
    no_one : P ⊎ Q → ⊥
    no_one (inl h) = p h
    no_one (inr h) = q h

told_not : {P : Type 0} → Told P → Told (P → ⊥)
told_not (inl p) = inr (λ f. f p)
told_not (inr f) = inl f

told_lt : (a b : ℕ) → Told (a < b)
told_lt a b = elim (cases_lt a b) [ inl l ↦ inl l | inr l ↦ inr (λ h. omega arith) ]

told_le : (a b : ℕ) → Told (a ≤ b)
told_le a b = elim (cases_lt b a) [ inl l ↦ inr (λ h. omega arith) | inr l ↦ inl l ]

told_any : {X : Type 0} (P : X → Type 0) → ((x : X) → Told (P x)) → (xs : List X) → Told (Any P xs)
told_any P t [] = inr (λ h. omega (arith, h.1))
told_any {X} P t (x ∷ xs) = go (t x) (told_any P t xs)
  where
    past : (P x → ⊥) → (Any P xs → ⊥) → Any P (x ∷ xs) → ⊥
    past f g (zero, lt, at) = f (at x)
    past f g (suc k, lt, at) = g (k, omega arith, at)

    go : Told (P x) → Told (Any P xs) → Told (Any P (x ∷ xs))
    go (inl p) a = inl (0, omega arith, λ d. p)
    go (inr f) (inl (k, lt, at)) = inl (suc k, omega arith, at)
    go (inr f) (inr g) = inr (past f g)

told_has : {X : Type 0} → ((x y : X) → Told (x ≡ y)) → (xs : List X) (x : X) → Told (Has xs x)
told_has t xs x = told_any (λ y. y ≡ x) (λ y. t y x) xs

told_spelt : (s : List ℕ) → Told (Spelt s)
told_spelt s = elim (told_le 1 (length s)) [
  | inr f ↦ inr (λ p. f p.0)
  | inl a ↦ elim (told_le (length s) 12) [
    | inr f ↦ inr (λ p. f p.1)
    | inl b ↦ elim (cases_Bool (name_bytes s)) [ inl e ↦ inl (a, b, e) | inr e ↦ inr (λ p. both_ways (name_bytes s) e p.2) ]
  ]
]

told_pair : (p q : ℕ × ℕ) → Told (p ≡ q)
told_pair p q = elim (cases_eq p.0 q.0) [
  | inr f ↦ inr (λ e. f (ap (λ r. r.0) e))
  | inl a ↦ elim (cases_eq p.1 q.1) [ inr f ↦ inr (λ e. f (ap (λ r. r.1) e)) | inl b ↦ inl (λ i. (a i, b i)) ]
]

told_loop : (gs ws : List Line) → Told (Loop gs ws)
told_loop gs ws = told_any _ (λ g. told_both (cases_eq g.item 0) (told_any _ (λ w. told_both (cases_eq w.item 0) (told_lt g.price w.price)) ws)) gs

-- Rules

abbrev ToldRows : List Row → Type 0
ToldRows [] = Unit {0}
ToldRows (when n P ∷ rows) = Told P × ToldRows rows

find_first : (rows : List Row) → ToldRows rows → (r : Option ℕ) × First rows r
find_first [] t = (None, refl)
find_first (when n P ∷ rows) t = elim t.0 [
  | inl p ↦ (Some n, (λ _. refl, λ f. absurd (f p)))
  | inr f ↦ let h = find_first rows t.1 in (h.0, (λ p. absurd (f p), λ _. h.1))
]

told_append : (rows more : List Row) → ToldRows rows → ToldRows more → ToldRows (rows ++ more)
told_append [] more t u = u
told_append (when n P ∷ rows) more t u = (t.0, told_append rows more t.1 u)

told_line : (x : Contents) (above : List LineWithUnits) (l : LineWithUnits) → ToldRows (line_rules x above l)
told_line x above l = (
  told_le (length x.items) l.line.item,
  (
    told_either (told_lt l.line.limit 1) (told_either (told_lt 1000 l.line.limit) (told_lt 1000 l.units)),
    (
      told_lt 1000000 l.line.price,
      (told_has cases_eq (map item_of (map line_of above)) l.line.item, tt),
    ),
  ),
)

told_rules : (s : Slot) (x : Contents) (c : Says s) → ToldRows (rules s x c)
told_rules (head Kinds) x n = tt
told_rules (head Items) x n = (told_lt 16 n, tt)
told_rules (head Members) x n = (told_lt 32 n, tt)
told_rules (head Holdings) x n = (told_lt 128 n, tt)
told_rules (head Offers) x n = (told_lt 64 n, tt)
told_rules (head Levels) x n = tt
told_rules (word w) x c = tt
told_rules item x name = (told_either (told_not (told_spelt name)) (told_both (cases_eq (length x.items) 0) (told_not (same_bytes name (codes "cash")))), (told_has same_bytes x.items name, tt))
told_rules member x name = (told_not (told_spelt name), (told_has same_bytes x.members name, tt))
told_rules holding x h = (told_either (told_le (length x.members) h.member) (told_le (length x.items) h.item), (told_lt 1000 h.units, (told_has told_pair (map pair x.holdings) (pair h), tt)))
told_rules offer x o = (told_le (length x.members) o.member, (told_lt 256 (line_count (map offer_of x.offers) + (o.gives + o.gets)), (told_lt 1000 o.limit, (told_either (cases_eq o.gives 0) (cases_eq o.gets 0), tt))))
told_rules give x l = told_line x (last x.offers).give l
told_rules get x l = told_append (line_rules x (last x.offers).get l) (when 8 (Loop (map line_of (last x.offers).give) (l.line ∷ [])) ∷ []) (told_line x (last x.offers).get l) (told_loop (map line_of (last x.offers).give) (l.line ∷ []), tt)
told_rules level x zs = (told_lt 1000000 (level_size zs), tt)

-- which rule a line breaks first
pub find_broken : (s : Slot) (x : Contents) (c : Says s) → (r : Option ℕ) × First (rules s x c) r
find_broken s x c = find_first (rules s x c) (told_rules s x c)

-- Bytes

-- the first b
find_cut : (b : ℕ) (bytes : List ℕ) → ((before : List ℕ) × (after : List ℕ) × FirstAt b bytes before after) ⊎ Free b bytes
find_cut b [] = inr (free_none b)
find_cut b (x ∷ xs) = go (cases_eq x b) (find_cut b xs)
  where
    go : Told (x ≡ b) → ((before : List ℕ) × (after : List ℕ) × FirstAt b xs before after) ⊎ Free b xs → ((before : List ℕ) × (after : List ℕ) × FirstAt b (x ∷ xs) before after) ⊎ Free b (x ∷ xs)
    go (inl e) f = inl ([], xs, record { is = ap (λ y. y ∷ xs) e; free = free_none b })
    go (inr n) (inl (p, q, f)) = inl (x ∷ p, q, record { is = ap (λ l. x ∷ l) f.is; free = free_cons b x p n f.free })
    go (inr n) (inr f) = inr (free_cons b x xs n f)

find_number : (bytes : List ℕ) → Found (Spells unsigned bytes)
find_number bytes = go (same_bytes bytes (spelt n)) (cases_lt 13 (length bytes))
  where
    n : ℕ
    n = digits_value 10 bytes

    go : Told (bytes ≡ spelt n) → (13 < length bytes) ⊎ (length bytes ≤ 13) → Found (Spells unsigned bytes)
    go (inr f) l = inr (λ m s. f (s.0 ∙ ap spelt (sym (value_spelt m) ∙ ap (digits_value 10) (sym s.0))))
    go (inl e) (inl l) = inr (λ m s. omega (arith, ap length s.0, s.1))
    go (inl e) (inr l) = inl (n, (e, subst (λ b. length b ≤ 13) e l))

find_level : (bytes : List ℕ) → Found (Spells signed bytes)
find_level [] = plain (find_number [])
  where
    plain : Found (Spells unsigned []) → Found (Spells signed [])
    plain (inl (n, s)) = inl (pos n, s)
    plain (inr f) = inr (no_level_plain [] (λ e. omega arith) f)
find_level (b ∷ ds) = go (cases_eq b 45)
  where
    plain : (b ≡ 45 → ⊥) → Found (Spells unsigned (b ∷ ds)) → Found (Spells signed (b ∷ ds))
    plain g (inl (n, s)) = inl (pos n, s)
    plain g (inr f) = inr (no_level_plain (b ∷ ds) g f)

    minus : b ≡ 45 → Found (Spells unsigned ds) → Found (Spells signed (b ∷ ds))
    minus e (inr f) = inr (no_level (b ∷ ds) ds (ap (λ c. c ∷ ds) e) (λ n s. absurd (f n s)))
    minus e (inl (n, s)) = elim (cases_eq n 0) [
      | inl z ↦ inr (no_level (b ∷ ds) ds (ap (λ c. c ∷ ds) e) (λ m q. one_number ds m n q s ∙ z))
      | inr z ↦ inl (neg_ℤ (pos n), level_from_minus (b ∷ ds) ds n (ap (λ c. c ∷ ds) e) z s)
    ]

    go : Told (b ≡ 45) → Found (Spells signed (b ∷ ds))
    go (inl e) = minus e (find_number ds)
    go (inr g) = plain g (find_number (b ∷ ds))

-- the bytes are a row of n numbers
pub record RowOf {X : Type 0} (notation : Notation X) (n : ℕ) (bytes : List ℕ) (xs : List X) : Type 0 where
  pub count : length xs ≡ n
  pub spelling : bytes ≡ row_spelt notation xs
  pub short : Short notation xs

module _ {X : Type 0} {notation : Notation X} (legible : Legible notation) (find : (bytes : List ℕ) → Found (Spells notation bytes)) where
  find_one : (bytes : List ℕ) → Found (RowOf notation 1 bytes)
  find_one bytes = go (find bytes)
    where
      none : ((x : X) → Spells notation bytes x → ⊥) → (xs : List X) → RowOf notation 1 bytes xs → ⊥
      none f [] r = omega (arith, r.count)
      none f (x ∷ []) r = f x (r.spelling ∙ append-nil _, r.short.0)
      none f (x ∷ y ∷ xs) r = omega (arith, r.count)

      go : Found (Spells notation bytes) → Found (RowOf notation 1 bytes)
      go (inl (x, s)) = inl (x ∷ [], record { count = refl; spelling = s.0 ∙ sym (append-nil _); short = (s.1, tt) })
      go (inr f) = inr (none f)

  pub find_row : (n : ℕ) (bytes : List ℕ) → Found (RowOf notation (suc n) bytes)
  find_row zero bytes = find_one bytes
  find_row (suc n) bytes = go (λ q. find_row n q) (find_cut 32 bytes)
    where
      -- a row of more numbers than one is cut at its first space
      parts_of : (xs : List X) → RowOf notation (suc (suc n)) bytes xs → (x : X) × (ys : List X) × (xs ≡ x ∷ ys) × FirstAt 32 bytes (notation.spelling x) (row_spelt notation ys) × (notation.digit_count x ≤ 13) × (length ys ≡ suc n) × Short notation ys
      parts_of [] r = absurd (omega (arith, r.count))
      parts_of (x ∷ []) r = absurd (omega (arith, r.count))
      parts_of (x ∷ y ∷ ys) r = (x, y ∷ ys, refl, record { is = r.spelling; free = legible.high x 32 (omega arith) }, r.short.0, omega (arith, r.count), r.short.1)

      more : (x : X) (p q : List ℕ) → FirstAt 32 bytes p q → Spells notation p x → Found (RowOf notation (suc n) q) → Found (RowOf notation (suc (suc n)) bytes)
      more x p q f s (inr g) = inr (λ xs r. let t = parts_of xs r in g t.1 (record { count = t.5; spelling = (first_once f t.3).1; short = t.6 }))
      more x p q f s (inl ([], r)) = absurd (omega (arith, r.count))
      more x p q f s (inl (y ∷ ys, r)) = inl (x ∷ y ∷ ys, record { count = ap suc r.count; spelling = f.is ∙ (λ i. s.0 i ++ 32 ∷ r.spelling i); short = (s.1, r.short) })

      cut : ((q : List ℕ) → Found (RowOf notation (suc n) q)) → (p q : List ℕ) → FirstAt 32 bytes p q → Found (Spells notation p) → Found (RowOf notation (suc (suc n)) bytes)
      cut rec p q f (inr g) = inr (λ xs r. let t = parts_of xs r in g t.0 ((first_once f t.3).0, t.4))
      cut rec p q f (inl (x, s)) = more x p q f s (rec q)

      go : ((q : List ℕ) → Found (RowOf notation (suc n) q)) → ((p : List ℕ) × (q : List ℕ) × FirstAt 32 bytes p q) ⊎ Free 32 bytes → Found (RowOf notation (suc (suc n)) bytes)
      go rec (inl (p, q, f)) = cut rec p q f (find p)
      go rec (inr f) = inr (λ xs r. no_first f (parts_of xs r).3)

-- Lines

-- the bytes are a line that says c
abbrev IsLine : (s : Slot) → Contents → List ℕ → Says s → Type 0
IsLine s x bytes c = (bytes ≡ spell s c) × Fits s x c

told_counts : (which : Section) (x : Contents) (n : ℕ) → Told (Counts which x n)
told_counts Kinds x n = told_either (cases_eq n 1) (cases_eq n 2)
told_counts Items x n = told_lt 0 n
told_counts Members x n = inl tt
told_counts Holdings x n = inl tt
told_counts Offers x n = inl tt
told_counts Levels x n = told_either (cases_eq n 0) (cases_eq n (nodes (book_of x)))

find_head : (which : Section) (x : Contents) (bytes : List ℕ) → Found (IsLine (head which) x bytes)
find_head which x [] = inr (λ n h. omega (arith, ap length h.0))
find_head which x (a ∷ []) = inr (λ n h. omega (arith, ap length h.0))
find_head which x (a ∷ b ∷ ds) = go (cases_eq a (letter which)) (cases_eq b 32) (find_number ds)
  where
    counted : (n : ℕ) → a ≡ letter which → b ≡ 32 → Spells unsigned ds n → Told (Counts which x n) → Found (IsLine (head which) x (a ∷ b ∷ ds))
    counted n e f s (inl c) = inl (n, ((λ i. e i ∷ f i ∷ s.0 i), (c, (s.1, tt))))
    counted n e f s (inr c) = inr (λ m h. let d : ds ≡ spelt m = cc h.0 in c (subst (Counts which x) (one_number ds m n (d, h.1.1.0) s) h.1.0))

    go : Told (a ≡ letter which) → Told (b ≡ 32) → Found (Spells unsigned ds) → Found (IsLine (head which) x (a ∷ b ∷ ds))
    go (inl e) (inl f) (inl (n, s)) = counted n e f s (told_counts which x n)
    go (inl e) (inl f) (inr g) = inr (λ m h. let d : ds ≡ spelt m = cc h.0 in g m (d, h.1.1.0))
    go (inl e) (inr f) r = inr (λ m h. f (cc h.0))
    go (inr e) f r = inr (λ m h. e (cc h.0))

-- a line whose numbers are n in a row
find_numbers : {C : Type 0} (n : ℕ) (numbers : C → List ℕ) → ((c : C) → length (numbers c) ≡ suc n) → ((xs : List ℕ) → length xs ≡ suc n → (c : C) × (xs ≡ numbers c)) → (bytes : List ℕ) → Found (λ c. (bytes ≡ row_spelt unsigned (numbers c)) × Short unsigned (numbers c))
find_numbers {C} n numbers long back bytes = go (find_row legible_unsigned find_number n bytes)
  where
    go : Found (RowOf unsigned (suc n) bytes) → Found (λ c. (bytes ≡ row_spelt unsigned (numbers c)) × Short unsigned (numbers c))
    go (inl (xs, r)) = let b = back xs r.count in inl (b.0, (r.spelling ∙ ap (row_spelt unsigned) b.1, subst (Short unsigned) b.1 r.short))
    go (inr f) = inr (λ c h. f (numbers c) (record { count = long c; spelling = h.0; short = h.1 }))

holding_from : (xs : List ℕ) → length xs ≡ 3 → (h : Holding) × (xs ≡ holding_row h)
holding_from [] e = absurd (omega arith)
holding_from (a ∷ []) e = absurd (omega arith)
holding_from (a ∷ b ∷ []) e = absurd (omega arith)
holding_from (a ∷ b ∷ c ∷ []) e = (record { member = a; item = b; units = c }, refl)
holding_from (a ∷ b ∷ c ∷ d ∷ xs) e = absurd (omega arith)

-- four numbers
four : {C : Type 0} (numbers : C → List ℕ) (make : ℕ → ℕ → ℕ → ℕ → C) → ((a b c d : ℕ) → a ∷ b ∷ c ∷ d ∷ [] ≡ numbers (make a b c d)) → (xs : List ℕ) → length xs ≡ 4 → (c : C) × (xs ≡ numbers c)
four numbers make is [] e = absurd (omega arith)
four numbers make is (a ∷ []) e = absurd (omega arith)
four numbers make is (a ∷ b ∷ []) e = absurd (omega arith)
four numbers make is (a ∷ b ∷ c ∷ []) e = absurd (omega arith)
four numbers make is (a ∷ b ∷ c ∷ d ∷ []) e = (make a b c d, is a b c d)
four numbers make is (a ∷ b ∷ c ∷ d ∷ f ∷ xs) e = absurd (omega arith)

find_offer : (bytes : List ℕ) → Found (λ o. (bytes ≡ row_spelt unsigned (offer_row o)) × Short unsigned (offer_row o))
find_offer bytes = find_numbers 3 offer_row (λ o. refl) (four offer_row (λ a b c d. record { member = a; limit = b; gives = c; gets = d }) (λ a b c d. refl)) bytes

find_line : (bytes : List ℕ) → Found (λ l. (bytes ≡ row_spelt unsigned (line_row l)) × Short unsigned (line_row l))
find_line bytes = find_numbers 3 line_row (λ l. refl) (four line_row (λ a b c d. record { line = record { item = a; limit = b; price = c }; units = d }) (λ a b c d. refl)) bytes

find_levels : (k : Kind) (bytes : List ℕ) → Found (λ zs. (bytes ≡ row_spelt signed zs) × ((length zs ≡ parts k) × Short signed zs))
find_levels k bytes = go k (λ n. find_row legible_signed find_level n bytes)
  where
    turned : (n : ℕ) → Found (RowOf signed n bytes) → Found (λ zs. (bytes ≡ row_spelt signed zs) × ((length zs ≡ n) × Short signed zs))
    turned n (inl (zs, r)) = inl (zs, (r.spelling, (r.count, r.short)))
    turned n (inr f) = inr (λ zs h. f zs (record { count = h.1.0; spelling = h.0; short = h.1.1 }))

    go : (k : Kind) → ((n : ℕ) → Found (RowOf signed (suc n) bytes)) → Found (λ zs. (bytes ≡ row_spelt signed zs) × ((length zs ≡ parts k) × Short signed zs))
    go by_money f = turned 1 (f 0)
    go by_money_then_weeks f = turned 2 (f 1)

find_says : (s : Slot) (x : Contents) (bytes : List ℕ) → Found (IsLine s x bytes)
find_says (head which) x bytes = find_head which x bytes
find_says (word w) x bytes = elim (same_bytes bytes w) [ inl e ↦ inl (tt, (e, tt)) | inr f ↦ inr (λ c h. f h.0) ]
find_says item x bytes = inl (bytes, (refl, tt))
find_says member x bytes = inl (bytes, (refl, tt))
find_says holding x bytes = find_numbers 2 holding_row (λ h. refl) holding_from bytes
find_says offer x bytes = find_offer bytes
find_says give x bytes = find_line bytes
find_says get x bytes = find_line bytes
find_says level x bytes = find_levels x.kind bytes

-- what the next line of a text says, if it is in the layout
pub find_next : (s : Slot) (x : Contents) (text : List ℕ) → ((c : Says s) × (rest : List ℕ) × LiesNext s x text c rest) ⊎ ((c : Says s) (rest : List ℕ) → LiesNext s x text c rest → ⊥)
find_next s x text = go (find_cut 10 text)
  where
    line : (l rest : List ℕ) → FirstAt 10 text l rest → Found (IsLine s x l) → ((c : Says s) × (rest : List ℕ) × LiesNext s x text c rest) ⊎ ((c : Says s) (rest : List ℕ) → LiesNext s x text c rest → ⊥)
    line l rest f (inl (c, h)) = inl (c, rest, record { ended = subst (λ m. FirstAt 10 text m rest) h.0 f; fits = h.1 })
    line l rest f (inr g) = inr (λ c q h. g c ((first_once f h.ended).0, h.fits))

    go : ((l : List ℕ) × (rest : List ℕ) × FirstAt 10 text l rest) ⊎ Free 10 text → ((c : Says s) × (rest : List ℕ) × LiesNext s x text c rest) ⊎ ((c : Says s) (rest : List ℕ) → LiesNext s x text c rest → ⊥)
    go (inl (l, rest, f)) = line l rest f (find_says s x l)
    go (inr f) = inr (λ c q h. no_first f h.ended)
