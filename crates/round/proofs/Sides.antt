-- Where an offer's lines and arcs stand, and the units on them.
use Rattle.std.proofs.Common.{◌≡◌, ℕ, zero, suc, ◌+◌, ◌<◌, ◌≤◌, true, eqb, List, [], ◌∷◌, map, length, get_or, take, drop, sym, ap, ◌∙◌, subst, arith}
use native.Mathlib.Bridge.{le_prop}
use native.Mathlib.Nat.{ℕ_set}
use mathlib.Core.Logic.{∥∥₁_elim}
use Rattle.std.specs.List.{AllByRecursion}
use Rattle.std.proofs.lemmas.List.{length-map, length-drop, length-take-le, get_or-take, get_or-drop}
use Rattle.std.proofs.ByRecursion.{All-get_or}
use Rattle.std.proofs.lemmas.Bool.{and_parts, eqb-true}
use Rattle.flow.specs.declared.arc.Arc.{Arc}
use Rattle.flow.specs.Arcs.{blank, flow_of}
use Rattle.book.specs.Rows.{sum_with}
use Rattle.book.specs.Books.{Book, Offer, no_offer, offer_at, Fair, FairOffer}
use Rattle.book.specs.Allotments.{Allotment}
use Rattle.book.specs.Arcs.{no_flows, arcs_of, arcs_before}
use Rattle.book.specs.declared.line.Line.{Line}
use Rattle.book.proofs.Filled.{sum_with_alike}
use Rattle.book.proofs.Filled.{length_arcs}
use Rattle.round.specs.Kept.{offer_of, in_rows, Entered}
use Rattle.round.specs.Rounds.{with_offers}
use Rattle.round.specs.Closed.{closed_book, closed_allotment}
use Rattle.round.specs.Questions.{lines_on, units_on, Sided}
use Rattle.round.specs.declared.entry.Entry.{Entry}
use Rattle.round.specs.declared.closed_round.ClosedRound.{ClosedRound}
use Rattle.book.specs.declared.side.Side.{Side}
use Rattle.book.specs.declared.side.Side.TheVariants.{Give, Get}
use Rattle.round.proofs.Rows.{rows_le, gives_length, gets_length, count_rows, offer_at as entry_offer}
use Rattle.round.proofs.Drawn.{rows_at}
use Rattle.round.proofs.Sounds.{few_lines}
use Rattle.round.specs.Carrying.{sound_closed}

before_is : (n : ℕ) (es : List Entry) (ls : List Line) (k : ℕ) (d : Entry) → in_rows n es (length ls) ≡ true → k < length es → n + arcs_before (map (offer_of ls) es) k ≡ (get_or es k d).first + k
before_is n [] ls k d h l = absurd (omega arith)
before_is n (e ∷ es) ls zero d h l = let f = eqb-true e.first n (and_parts (eqb e.first n) (in_rows (n + (e.gives + e.gets)) es (length ls)) h).0 in omega arith
before_is n (e ∷ es) ls (suc k) d h l =
    let p = and_parts (eqb e.first n) (in_rows (n + (e.gives + e.gets)) es (length ls)) h in
    let f = eqb-true e.first n p.0 in
    let m = rows_le (n + (e.gives + e.gets)) es (length ls) p.1 in
    let r = before_is (n + (e.gives + e.gets)) es ls k d p.1 (omega arith) in
    omega (arith, gives_length ls e (omega arith), gets_length ls e (omega arith))

-- an entry that was found
pub entered : (b : Book) (ls : List Line) (es : List Entry) (k : ℕ) (e : Entry) → in_rows 0 es (length ls) ≡ true → k < length es → ((d : Entry) → e ≡ get_or es k d) → Entered (with_offers b (map (offer_of ls) es)) ls k e
entered b ls es k e h l f =
    let os = map (offer_of ls) es in
    let many = length-map es (offer_of ls) in
    let at = subst (λ (x : Entry). x.first + (x.gives + x.gets) ≤ length ls) (sym (f e)) (rows_at 0 es ls k e h l).1 in
    let before = subst (λ (x : Entry). 0 + arcs_before os k ≡ x.first + k) (sym (f e)) (before_is 0 es ls k e h l) in
    record {
      known = omega arith;
      is = entry_offer ls es k e l f;
      within = at;
      starts = omega arith;
      ends = omega (arith, length_arcs (with_offers b os) no_flows, count_rows 0 es ls h);
    }

-- a part of a row of arcs
part_flow : (A : List Arc) (first count t : ℕ) → t < count → flow_of (take count (drop first A)) t ≡ flow_of A (first + t)
part_flow A first count t l = ap (λ a. a.flow) (get_or-take count (drop first A) t blank l ∙ get_or-drop first A t blank)

part_length : (A : List Arc) (first count : ℕ) → first + count ≤ length A → length (take count (drop first A)) ≡ count
part_length A first count l = length-take-le count (drop first A) (omega (arith, length-drop first A))

fair_side : {n m : ℕ} (s : Side) (o : Offer) → FairOffer n m o → AllByRecursion (Fair n) (lines_on s o)
fair_side Give o f = f.gives.fair
fair_side Get o f = f.gets.fair

sides_within : (s : Side) (e : Entry) (ls : List Line) → e.first + (e.gives + e.gets) ≤ length ls → length (lines_on s (offer_of ls e)) ≤ length ls
sides_within Give e ls l = omega (arith, gives_length ls e l)
sides_within Get e ls l = omega (arith, gets_length ls e l)

module _ {W : Type 0} (x : ClosedRound W) where
  -- as many arcs as the book has
  pub arcs_long : length x.arcs ≡ length (arcs_of (closed_book x))
  arcs_long = ∥∥₁_elim x.drawn (ℕ_set (length x.arcs) (length (arcs_of (closed_book x)))) (λ c. sym c.same.long)

  small_flow : (i : ℕ) → i < length x.arcs → flow_of x.arcs i ≤ 1000
  small_flow i l = let s = (sound_closed x).each i l in omega (arith, s.held, s.small)

  module _ (k : ℕ) (e : Entry) (en : Entered (closed_book x) x.round.lines k e) (s : Side) (first : ℕ) where
    -- the lines of a side and a part of the arcs go together, where the side's arcs begin at the first
    pub sided : (ls : List Line) (arcs : List Arc) → ls ≡ lines_on s (offer_of x.round.lines e) → arcs ≡ take (length ls) (drop first x.arcs) → ((t : ℕ) → units_on s (closed_allotment x k) t ≡ flow_of x.arcs (first + t)) → first + length ls ≤ length x.arcs → Sided (closed_book x) (closed_allotment x) k s ls arcs
    sided ls arcs el ea at inside = record {
      known = en.known;
      lines = lines;
      units = λ t l. flows t l ∙ sym (at t);
      moderate = record { long = ap length ea ∙ part_length x.arcs first (length ls) inside; few = few; small = λ t d l. (price t d l, subst (λ n. n ≤ 1000) (sym (flows t l)) (small_flow (first + t) (omega arith))) };
    }
      where
        lines : ls ≡ lines_on s (offer_at (closed_book x) k)
        lines = el ∙ ap (lines_on s) (sym en.is)

        flows : (t : ℕ) → t < length ls → flow_of arcs t ≡ flow_of x.arcs (first + t)
        flows t l = ap (λ xs. flow_of xs t) ea ∙ part_flow x.arcs first (length ls) t l

        few : length ls ≤ 256
        few = omega (arith, ap length el, sides_within s e x.round.lines en.within, few_lines x.round)

        price : (t : ℕ) (d : Line) → t < length ls → (get_or ls t d).price ≤ 1000000
        price t d l =
            ∥∥₁_elim x.round.sound le_prop
            (λ f. let g = All-get_or (FairOffer (length (closed_book x).items) (length (closed_book x).members)) (closed_book x).offers k no_offer en.known f.offers_fair in
            (All-get_or (Fair (length (closed_book x).items)) ls t d l (subst (AllByRecursion (Fair (length (closed_book x).items))) (sym lines) (fair_side s (offer_at (closed_book x) k) g))).price)

-- a sum over a side is one over the units of the allotment
pub side_sum : (f : Line → ℕ → ℕ) (b : Book) (a : Allotment) (k : ℕ) (s : Side) (ls : List Line) (arcs : List Arc) → Sided b a k s ls arcs → sum_with f ls (flow_of arcs) ≡ sum_with f (lines_on s (offer_at b k)) (units_on s (a k))
side_sum f b a k s ls arcs h = sum_with_alike f ls (flow_of arcs) (units_on s (a k)) h.units ∙ ap (λ xs. sum_with f xs (units_on s (a k))) h.lines
