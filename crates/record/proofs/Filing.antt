-- The record of a closed round and levels: when it is refused, and that it reads back.
use Rattle.std.proofs.Common.{◌≡◌, ℕ, suc, ◌<◌, ◌≤◌, List, [], ◌∷◌, ◌++◌, map, length, get_or, take, drop, ℤ, Some, Ok, Err, Result, IfErr, sym, refl, ap, ◌∙◌, subst, ⊎_elim, map-id, arith}
use Rattle.std.specs.List.{AllByRecursion}
use Rattle.std.proofs.ByRecursion.{All-from_get_or, All-map}
use Rattle.std.proofs.lemmas.List.{get_or_default, get_or-map, get_or_past, length-map, length-take, take_all, take-map}
use Rattle.std.proofs.lemmas.Bool.{cases_lt}
use Rattle.std.proofs.lemmas.Option.{none-some}
use Rattle.tables.specs.Refusals.{when, First, number, refusal}
use Rattle.tables.specs.declared.refusal.Refusal.{Refusal}
use Rattle.tables.specs.declared.refusal.Refusal.TheVariants.{Bounds, Short}
use Rattle.tables.proofs.Firsts.{here, next}
use Rattle.terms.specs.declared.name.Name.{Name}
use Rattle.text.specs.Buffers.{Copied}
use Rattle.text.specs.declared.buffer.Buffer.{Buffer}
use Rattle.text.specs.declared.section.Section.{Section}
use Rattle.worth.specs.Kinds.{Ops}
use Rattle.flow.specs.Arcs.{blank}
use Rattle.network.specs.Networks.{flow_in}
use Rattle.book.specs.Allotments.{Units, Allotment}
use Rattle.book.specs.Arcs.{nodes}
use Rattle.book.specs.Books.{Book, Offer, Any}
use Rattle.book.specs.Rows.{AllWith}
use Rattle.book.specs.declared.line.Line.{Line}
use Rattle.layout.specs.Layout.{head, item, spell}
use Rattle.layout.specs.Records.{Contents, Kind, by_money, by_money_then_weeks, parts, contents_of, level_size, FairLevel, FairAllotment, Valid}
use Rattle.layout.specs.Render.{section, lines_of, render}
use Rattle.layout.specs.Runs.{Reads}
use Rattle.layout.proofs.Lengths.{short_record}
use Rattle.layout.proofs.Recorded.{all_recorded}
use Rattle.layout.proofs.Renders.{reads_records}
use Rattle.reading.specs.Levels.{numbers}
use Rattle.reading.specs.declared.level.Level.{Level}
use Rattle.round.specs.Closed.{closed_book, closed_net, closed_allotment}
use Rattle.round.specs.declared.closed_round.ClosedRound.{ClosedRound}
use Rattle.round.specs.Carrying.{sound_closed}
use Rattle.record.specs.Files.{filed, Files, Roomy}
use Rattle.record.specs.Levels.{Levelled}
use Rattle.record.specs.Writing.{Adds}
use Rattle.round.proofs.Unique.{book_sound}

-- the section of the names with these letters
pub names_section : (which : Section) (names : List Name) (xs : List (List ℕ)) → names ≡ xs → spell (head which) (length names) ∷ names ≡ section which item xs
names_section which names xs e =
    let many = ap length e in
    let same = e ∙ sym (map-id xs) in
    λ i. spell (head which) (many i) ∷ same i

-- lines added to a buffer that was empty
pub drafted : (x : Contents) (before after : Buffer) → before ≡ [] → Adds before after (lines_of x) → after ≡ take 32768 (render x)
drafted x before after empty p = p.text ∙ ap (λ l. take 32768 (l ++ render x)) empty

-- The units of a closed round

all_with_each : {X U : Type 0} (P : X → U → Type 0) (xs : List X) (u : ℕ → U) → ((x : X) (k : ℕ) → P x (u k)) → AllWith P xs u
all_with_each P [] u h = tt
all_with_each P (x ∷ xs) u h = (h x 0, all_with_each P xs (λ k. u (suc k)) (λ y k. h y (suc k)))

small_flow : {W : Type 0} (x : ClosedRound W) (i : ℕ) → flow_in (closed_net x) i ≤ 1000
small_flow x i =
    ⊎_elim
    (λ lt. let s = (sound_closed x).each i lt in omega (arith, s.held, s.small))
    (λ le. let z : flow_in (closed_net x) i ≡ 0 = ap (λ a. a.flow) (get_or_past (closed_net x).arcs i blank le) in omega arith)
    (cases_lt i (length (closed_net x).arcs))

fair_side : (ls : List Line) (u : ℕ → ℕ) → ((t : ℕ) → u t ≤ 1000) → AllWith (λ l n. n ≤ 1000) ls u
fair_side ls u h = all_with_each (λ l n. n ≤ 1000) ls u (λ l t. h t)

fair_units : {W : Type 0} (x : ClosedRound W) → FairAllotment (closed_book x).offers (closed_allotment x)
fair_units x =
    let FairOffer : Offer → Units → Type 0 = λ o u. AllWith (λ l n. n ≤ 1000) o.give u.give × AllWith (λ l n. n ≤ 1000) o.get u.get in
    all_with_each FairOffer (closed_book x).offers (closed_allotment x) (λ o k. (fair_side o.give (closed_allotment x k).give (λ t. small_flow x _), fair_side o.get (closed_allotment x k).get (λ t. small_flow x _)))

-- Levels and the worths that they stand for

any_map : {X Y : Type 0} (f : X → Y) (P : X → Type 0) (Q : Y → Type 0) → ((x : X) → P x → Q (f x)) → (xs : List X) → X → Any P xs → Any Q (map f xs)
any_map f P Q h xs d any =
    let i = any.0 in
    (i, subst (λ n. i < n) (sym (length-map xs f)) any.1, λ e. subst Q (sym (get_or-map f xs i d e any.1)) (h (get_or xs i d) (any.2 d)))

any_unmap : {X Y : Type 0} (f : X → Y) (P : X → Type 0) (Q : Y → Type 0) → ((x : X) → Q (f x) → P x) → (xs : List X) → Any Q (map f xs) → Any P xs
any_unmap f P Q h xs any =
    let i = any.0 in
    let lt : i < length xs = subst (λ n. i < n) (length-map xs f) any.1 in
    (i, lt, λ d. h (get_or xs i d) (subst Q (get_or-map f xs i d (f d) lt) (any.2 (f d))))

numbers_long : (k : Kind) (l : Level) → length (numbers k l) ≡ parts k
numbers_long by_money l = refl
numbers_long by_money_then_weeks l = refl

module _ {W : Type 0} {o : Ops W} {k : Kind} {level : W → Level} {worth : Level → W} (told : Levelled o k level worth) (n : ℕ) (ws first : List W) (is : first ≡ take n ws) where
  pub first_levels : map (λ w. numbers k (level w)) first ≡ take n (map (λ w. numbers k (level w)) ws)
  first_levels = ap (map (λ w. numbers k (level w))) is ∙ sym (take-map (λ w. numbers k (level w)) n ws)

  levels_over : Any (λ w. 1000000 < o.size w) first → Any (λ z. 1000000 < level_size z) (take n (map (λ w. numbers k (level w)) ws))
  levels_over any =
      subst (Any (λ z. 1000000 < level_size z)) first_levels
      (any_map (λ w. numbers k (level w)) (λ w. 1000000 < o.size w) (λ z. 1000000 < level_size z) (λ w lt. subst (λ s. 1000000 < s) (sym (told.sized w)) lt) first o.none any)

  pub worths_over : Any (λ z. 1000000 < level_size z) (take n (map (λ w. numbers k (level w)) ws)) → Any (λ w. 1000000 < o.size w) first
  worths_over any =
      any_unmap (λ w. numbers k (level w)) (λ w. 1000000 < o.size w) (λ z. 1000000 < level_size z) (λ w lt. subst (λ s. 1000000 < s) (told.sized w) lt) first
      (subst (Any (λ z. 1000000 < level_size z)) (sym first_levels) any)

  pub levels_fair : (Any (λ w. 1000000 < o.size w) first → ⊥) → AllByRecursion (FairLevel k) (take n (map (λ w. numbers k (level w)) ws))
  levels_fair none =
      subst (AllByRecursion (FairLevel k)) first_levels (All-map (FairLevel k) (λ w. numbers k (level w)) first
      (All-from_get_or (λ w. FairLevel k (numbers k (level w))) first o.none (λ i lt. (numbers_long k (level (get_or first i o.none)), small i lt))))
    where
      small : (i : ℕ) → i < length first → level_size (numbers k (level (get_or first i o.none))) ≤ 1000000
      small i lt =
          let w = get_or first i o.none in
          ⊎_elim
          (λ over. absurd (none (i, lt, λ d. subst (λ v. 1000000 < o.size v) (get_or_default first i o.none d lt) over)))
          (λ le. omega (arith, told.sized w))
          (cases_lt 1000000 (o.size w))

  few_levels : length first < n → length (map (λ w. numbers k (level w)) ws) < n
  few_levels lt = omega (arith, length-map ws (λ w. numbers k (level w)), ap length is, length-take n ws)

  pub enough_levels : n ≤ length first → n ≤ length (map (λ w. numbers k (level w)) ws)
  enough_levels le = omega (arith, length-map ws (λ w. numbers k (level w)), ap length is, length-take n ws)

  pub long_levels : n ≤ length first → length (take n (map (λ w. numbers k (level w)) ws)) ≡ n
  long_levels le = omega (arith, length-take n (map (λ w. numbers k (level w)) ws), enough_levels le)

-- What file does

-- a copy of the record is what is filed
copied : (k : Kind) (b : Book) (a : Allotment) (zs : List (List ℤ)) (text before after : List ℕ) (r : Result ℕ Refusal) → text ≡ render (filed k b a zs) → (Any (λ z. 1000000 < level_size z) (take (nodes b) zs) → ⊥) → (length zs < nodes b → ⊥) → Reads (render (filed k b a zs)) (filed k b a zs) → Copied text before after r → Files k b a zs before after r
copied k b a zs text before after (Ok n) e over short reads c =
    let whole = all_recorded k b a (take (nodes b) zs) in
    let m = c.outcome.0 in
    record {
      refused = next over (next short (subst (λ t. First (when 12 (length before < length t) ∷ []) (refusal {X = ℕ} (Ok n))) e c.refused));
      outcome = record { length = m ∙ ap length e; page = c.outcome.1 ∙ (λ i. e i ++ drop (sym m i) before); reads = reads; book = whole.book; allotment = whole.allotment };
    }
copied k b a zs text before after (Err f) e over short reads c = record {
  refused = next over (next short (subst (λ t. First (when 12 (length before < length t) ∷ []) (refusal {X = ℕ} (Err f))) e c.refused));
  outcome = c.outcome;
}

-- what is not copied does not fit
too_short : (text page : List ℕ) (e : Refusal) → First (when 12 (length page < length text) ∷ []) (Some (number e)) → length page < length text
too_short text page e f = ⊎_elim (λ lt. lt) (λ le. absurd (none-some (number e) (sym (f.1 (λ lt. omega arith))))) (cases_lt (length page) (length text))

module _ {V W : Type 0} {o : Ops W} {k : Kind} {level : W → Level} {worth : Level → W} (told : Levelled o k level worth) (x : ClosedRound V) (ws first : List W) (is : first ≡ take (nodes (closed_book x)) ws) where
  pub files_over : (page : List ℕ) → Any (λ w. 1000000 < o.size w) first → Files k (closed_book x) (closed_allotment x) (map (λ w. numbers k (level w)) ws) page page (Err Bounds)
  files_over page any = record { refused = here (levels_over told (nodes (closed_book x)) ws first is any); outcome = refl }

  module _ (none : Any (λ w. 1000000 < o.size w) first → ⊥) where
    pub files_short : (page : List ℕ) → length first < nodes (closed_book x) → Files k (closed_book x) (closed_allotment x) (map (λ w. numbers k (level w)) ws) page page (Err Short)
    files_short page lt = record {
      refused = next (λ any. none (worths_over told (nodes (closed_book x)) ws first is any)) (here (few_levels told (nodes (closed_book x)) ws first is lt));
      outcome = refl;
    }

    abbrev whole : Contents
    whole = filed k (closed_book x) (closed_allotment x) (map (λ w. numbers k (level w)) ws)

    filed_valid : nodes (closed_book x) ≤ length first → Valid whole
    filed_valid le =
        let b = closed_book x in
        (all_recorded k b (closed_allotment x) (take (nodes b) (map (λ w. numbers k (level w)) ws))).valid (book_sound b x.round.sound) (fair_units x) (levels_fair told (nodes b) ws first is none) (long_levels told (nodes b) ws first is le)

    -- the record reads back
    filed_reads : nodes (closed_book x) ≤ length first → Reads (render whole) whole
    filed_reads le = (reads_records (render whole) whole).1 (refl, filed_valid le)

    -- the record fits as a whole
    whole_text : (text : List ℕ) → nodes (closed_book x) ≤ length first → text ≡ take 32768 (render (contents_of k (closed_book x) (closed_allotment x) (map (λ w. numbers k (level w)) first))) → text ≡ render whole
    whole_text text le p = p ∙ ap (λ zs. take 32768 (render (contents_of k (closed_book x) (closed_allotment x) zs))) (first_levels told (nodes (closed_book x)) ws first is) ∙ take_all 32768 _ (filed_reads le).0

    pub files_copied : (text : Buffer) (page after : List ℕ) (r : Result ℕ Refusal) → nodes (closed_book x) ≤ length first → text ≡ take 32768 (render (contents_of k (closed_book x) (closed_allotment x) (map (λ w. numbers k (level w)) first))) → Copied text page after r → Files k (closed_book x) (closed_allotment x) (map (λ w. numbers k (level w)) ws) page after r
    files_copied text page after r le p c =
        let b = closed_book x in
        let enough = enough_levels told (nodes b) ws first is le in
        copied k b (closed_allotment x) (map (λ w. numbers k (level w)) ws) text page after r (whole_text text le p) (λ any. none (worths_over told (nodes b) ws first is any)) (λ lt. omega arith) (filed_reads le) c

    -- and into a page of 15,000 bytes
    pub roomy_copied : (text : Buffer) (page after : List ℕ) (r : Result ℕ Refusal) → nodes (closed_book x) ≤ length first → text ≡ take 32768 (render (contents_of k (closed_book x) (closed_allotment x) (map (λ w. numbers k (level w)) first))) → Copied text page after r → IfErr r (Roomy page)
    roomy_copied text page after (Ok n) le p c = tt
    roomy_copied text page after (Err e) le p c = λ room is_page. omega (arith, too_short text page e c.refused, ap length (whole_text text le p), short_record whole (filed_valid le), room)
