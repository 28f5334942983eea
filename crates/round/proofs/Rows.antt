-- The lines of the entries, one behind the other.
use Rattle.std.proofs.Common.{◌≡◌, ℕ, zero, suc, ◌+◌, ◌<◌, ◌≤◌, true, ◌&&◌, eqb, List, [], ◌∷◌, ◌++◌, map, length, get_or, take, drop, set, sym, refl, ap, ◌∙◌, append_assoc, arith}
use Rattle.std.proofs.lemmas.List.{map_push, map-set, get_or-map, length-append, length-drop, length-take-le, take-append-le, drop-append-le, drop_at, take_at, take_all}
use Rattle.std.proofs.lemmas.Bool.{and_parts, and_from, eqb-true, eq-eqb}
use Rattle.book.specs.Books.{line_count, no_offer}
use Rattle.book.specs.declared.line.Line.{Line}
use Rattle.round.specs.Kept.{offer_of, in_rows}
use Rattle.round.specs.Offering.{made, withdrawn}
use Rattle.round.specs.declared.entry.Entry.{Entry}

pub rows_le : (n : ℕ) (es : List Entry) (m : ℕ) → in_rows n es m ≡ true → n ≤ m
rows_le n [] m h = omega (arith, eqb-true n m h)
rows_le n (e ∷ es) m h = omega (arith, rows_le (n + (e.gives + e.gets)) es m (and_parts _ _ h).1)

-- an entry within the table has as many lines as it says
pub gives_length : (ls : List Line) (e : Entry) → e.first + (e.gives + e.gets) ≤ length ls → length (offer_of ls e).give ≡ e.gives
gives_length ls e l = length-take-le e.gives (drop e.first ls) (omega (arith, length-drop e.first ls))

pub gets_length : (ls : List Line) (e : Entry) → e.first + (e.gives + e.gets) ≤ length ls → length (offer_of ls e).get ≡ e.gets
gets_length ls e l = length-take-le e.gets (drop (e.first + e.gives) ls) (omega (arith, length-drop (e.first + e.gives) ls))

-- the offers' lines are all lines
pub count_rows : (n : ℕ) (es : List Entry) (ls : List Line) → in_rows n es (length ls) ≡ true → n + line_count (map (offer_of ls) es) ≡ length ls
count_rows n [] ls h = omega (arith, eqb-true n (length ls) h)
count_rows n (e ∷ es) ls h =
    let p = and_parts (eqb e.first n) (in_rows (n + (e.gives + e.gets)) es (length ls)) h in
    let f = eqb-true e.first n p.0 in
    let l = rows_le (n + (e.gives + e.gets)) es (length ls) p.1 in
    let k = count_rows (n + (e.gives + e.gets)) es ls p.1 in
    omega (arith, gives_length ls e (omega arith), gets_length ls e (omega arith))

part_grows : (a b : ℕ) (ls more : List Line) → b + a ≤ length ls → take a (drop b (ls ++ more)) ≡ take a (drop b ls)
part_grows a b ls more l = ap (take a) (drop-append-le b ls more (omega arith)) ∙ take-append-le a (drop b ls) more (omega (arith, length-drop b ls))

offer_grows : (ls more : List Line) (e : Entry) → e.first + (e.gives + e.gets) ≤ length ls → offer_of (ls ++ more) e ≡ offer_of ls e
offer_grows ls more e l = λ i. made e.member e.limit (part_grows e.gives e.first ls more (omega arith) i) (part_grows e.gets (e.first + e.gives) ls more (omega arith) i)

-- more lines leave the offers as they are
offers_grow : (n : ℕ) (es : List Entry) (ls more : List Line) → in_rows n es (length ls) ≡ true → map (offer_of (ls ++ more)) es ≡ map (offer_of ls) es
offers_grow n [] ls more h = refl
offers_grow n (e ∷ es) ls more h =
    let p = and_parts (eqb e.first n) (in_rows (n + (e.gives + e.gets)) es (length ls)) h in
    let f = eqb-true e.first n p.0 in
    let l = rows_le (n + (e.gives + e.gets)) es (length ls) p.1 in
    ap (λ o. o ∷ map (offer_of (ls ++ more)) es) (offer_grows ls more e (omega arith)) ∙ ap (λ os. offer_of ls e ∷ os) (offers_grow (n + (e.gives + e.gets)) es ls more p.1)

rows_push : (n : ℕ) (es : List Entry) (m : ℕ) (e : Entry) (k : ℕ) → in_rows n es m ≡ true → e.first ≡ m → k ≡ m + (e.gives + e.gets) → in_rows n (es ++ e ∷ []) k ≡ true
rows_push n [] m e k h f g = and_from _ _ (eq-eqb e.first n (omega (arith, eqb-true n m h))) (eq-eqb (n + (e.gives + e.gets)) k (omega (arith, eqb-true n m h)))
rows_push n (x ∷ es) m e k h f g =
    let p = and_parts (eqb x.first n) (in_rows (n + (x.gives + x.gets)) es m) h in
    and_from _ _ p.0 (rows_push (n + (x.gives + x.gets)) es m e k p.1 f g)

abbrev pub entry : ℕ → ℕ → ℕ → List Line → List Line → Entry
entry m l k give get = record { member = m; limit = l; first = k; gives = length give; gets = length get }

new_offer : (ls give get : List Line) (m l : ℕ) → offer_of ((ls ++ give) ++ get) (entry m l (length ls) give get) ≡ made m l give get
new_offer ls give get m l =
    let eg : take (length give) (drop (length ls) ((ls ++ give) ++ get)) ≡ give =
    ap (λ xs. take (length give) (drop (length ls) xs)) (append_assoc ls give get) ∙ ap (take (length give)) (drop_at ls (give ++ get) (length ls) refl) ∙ take_at give get (length give) refl in
    let ew : take (length get) (drop (length ls + length give) ((ls ++ give) ++ get)) ≡ get =
    ap (take (length get)) (drop_at (ls ++ give) get (length ls + length give) (length-append ls give)) ∙ take_all (length get) get (omega arith) in
    λ i. made m l (eg i) (ew i)

-- the tables after an offer was put at their ends
module _ (es es' : List Entry) (ls ls1 ls2 give get : List Line) (m l k : ℕ) (h : in_rows 0 es (length ls) ≡ true) (ek : k ≡ length ls) (e1 : ls1 ≡ ls ++ give) (e2 : ls2 ≡ ls1 ++ get) (ee : es' ≡ es ++ entry m l k give get ∷ []) where
  pub grown_offers : map (offer_of ls2) es' ≡ map (offer_of ls) es ++ made m l give get ∷ []
  grown_offers =
      ap (λ xs. map (offer_of xs) es') (e2 ∙ ap (λ xs. xs ++ get) e1)
      ∙ ap (map (offer_of ((ls ++ give) ++ get))) (ee ∙ ap (λ n. es ++ entry m l n give get ∷ []) ek)
      ∙ map_push (offer_of ((ls ++ give) ++ get)) es (entry m l (length ls) give get)
      ∙ ap (λ os. os ++ offer_of ((ls ++ give) ++ get) (entry m l (length ls) give get) ∷ []) (ap (λ xs. map (offer_of xs) es) (append_assoc ls give get) ∙ offers_grow 0 es ls (give ++ get) h)
      ∙ ap (λ o. map (offer_of ls) es ++ o ∷ []) (new_offer ls give get m l)

  pub grown_rows : in_rows 0 es' (length ls2) ≡ true
  grown_rows =
      ap (λ xs. in_rows 0 xs (length ls2)) ee
      ∙ rows_push 0 es (length ls) (entry m l k give get) (length ls2) h ek (omega (arith, ap length e2, length-append ls1 get, ap length e1, length-append ls give))

abbrev pub stopped : Entry → Entry
stopped e = record { member = e.member; limit = 0; first = e.first; gives = e.gives; gets = e.gets }

-- a limit is no part of where the lines stand
pub rows_stopped : (n : ℕ) (es : List Entry) (m : ℕ) (k : ℕ) (e : Entry) → ((d : Entry) → e ≡ get_or es k d) → in_rows n (set es k (stopped e)) m ≡ in_rows n es m
rows_stopped n [] m zero e f = refl
rows_stopped n [] m (suc k) e f = refl
rows_stopped n (x ∷ es) m zero e f = ap (λ y. in_rows n (stopped y ∷ es) m) (f x)
rows_stopped n (x ∷ es) m (suc k) e f = ap (λ b. eqb x.first n && b) (rows_stopped (n + (x.gives + x.gets)) es m k e f)

pub offer_at : (ls : List Line) (es : List Entry) (k : ℕ) (e : Entry) → k < length es → ((d : Entry) → e ≡ get_or es k d) → get_or (map (offer_of ls) es) k no_offer ≡ offer_of ls e
offer_at ls es k e l f = get_or-map (offer_of ls) es k e no_offer l ∙ ap (offer_of ls) (sym (f e))

pub offers_stopped : (ls : List Line) (es : List Entry) (k : ℕ) (e : Entry) → k < length es → ((d : Entry) → e ≡ get_or es k d) → map (offer_of ls) (set es k (stopped e)) ≡ set (map (offer_of ls) es) k (withdrawn (get_or (map (offer_of ls) es) k no_offer))
offers_stopped ls es k e l f = map-set (offer_of ls) es k (stopped e) ∙ ap (λ o. set (map (offer_of ls) es) k (withdrawn o)) (sym (offer_at ls es k e l f))
