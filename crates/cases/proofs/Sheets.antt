-- The sheets of the chain round, and every record that clearing them comes to.
use Rattle.std.proofs.Common.{◌≡◌, ℕ, zero, suc, ◌≤◌, true, leb, List, [], ◌∷◌, ◌++◌, map, replicate, length, take, drop, ℤ, pos, negsuc, Ok, Err, Result, MatchResult, sym, refl, ap, ◌∙◌, subst, inl, inr, arith}
use borrow.Author.Differences.{ints}
use Rattle.std.proofs.Math.Seq.{take-append_seam}
use Rattle.std.proofs.lemmas.Bool.{ltb-true}
use Rattle.std.proofs.lemmas.List.{length-replicate}
use Rattle.tables.specs.Refusals.{number}
use Rattle.tables.specs.declared.refusal.Refusal.{Refusal}
use Rattle.text.specs.declared.fault.Fault.{Fault}
use Rattle.worth.specs.Money.{money, of_cents}
use Rattle.worth.specs.Integers.{money_laws}
use Rattle.worth.specs.declared.money.Money.{Money}
use Rattle.flow.specs.Groups.{kind}
use Rattle.flow.specs.Steps.{Gainful}
use Rattle.flow.proofs.Enough.{sufficient_holds}
use Rattle.flow.proofs.Optimum.{not_best}
use Rattle.network.specs.Networks.{Net, flow_in, graph}
use Rattle.network.specs.Potentials.{potential, Fitted}
use Rattle.search.specs.Outcomes as outcomes
use Rattle.book.specs.Allotments.{Allowed}
use Rattle.book.specs.Arcs.{net_of, allotment_of}
use Rattle.book.specs.Books.{Book, Sound}
use Rattle.book.specs.Rows.{map_with}
use Rattle.layout.specs.Records.{by_money, Contents, book_of, allotted, contents_of}
use Rattle.layout.specs.Render.{render}
use Rattle.layout.specs.Runs.{Reads}
use Rattle.layout.proofs.Once.{one_outcome}
use Rattle.layout.proofs.Recorded.{all_recorded}
use Rattle.layout.proofs.Renders.{reads_records}
use Rattle.round.specs.Uses as uses
use Rattle.record.specs.Checks.{total_by, result_of}
use Rattle.record.specs.Evidence.{BestBy}
use Rattle.record.specs.Files.{filed}
use Rattle.record.specs.Levels.{Levelled}
use Rattle.record.specs.Sheets.{Sheet, Clears, FiledBest, Clearing}
use Rattle.record.specs.Worths.{amounts_again}
use Rattle.record.specs.declared.passed.OfferResult.{OfferResult}
use Rattle.record.specs.declared.passed.Total.{Total}
use Rattle.record.proofs.Passing.{evidence}
use Rattle.record.proofs.Sheeting as sheeting
use Rattle.cases.specs.Chain.{chain_sheet, sheet_at_70}
use Rattle.cases.specs.Texts.{Passing, ClearingSheet}
use Rattle.cases.proofs.Records.{passing, all, allowed_by, fair_allotment, fair_levels, fitted}
use Rattle.cases.proofs.Rounds.{sound, begins, two, chain_book, chain_run}
use Rattle.cases.proofs.Some.{standing, graph_sound, clear_some}
use Rattle.cases.proofs.Texts.{by_lists}

-- the chain round with the last price, and its records with as many units on each line

abbrev book : ℕ → Book
book last = chain_book two last

abbrev chain : ℕ → ℕ → List (List ℤ) → Contents
chain last units zs = contents_of by_money (book last) (all units) zs

-- money as levels
told : Levelled money by_money (λ w. record { cents = w.cents; weeks = pos 0 }) (λ l. of_cents l.cents)
told = record {
  sized = λ w. refl;
  again = λ l. refl;
  fitting = λ n ws. (λ f. subst (Fitted money n) (sym (amounts_again ws)) f, λ f. subst (Fitted money n) (amounts_again ws) f);
  cleared = λ b n zs c. c;
}

module _ (last : ℕ) (h : leb last 1000000 ≡ true) where
  abbrev b : Book
  b = book last

  book_sound : Sound b
  book_sound = sound (chain_run last h)

  abbrev sheet : Contents
  sheet = chain last 0 []

  sheet_reads : (text : List ℕ) → text ≡ render sheet → Reads text sheet
  sheet_reads text e =
      let zs = replicate 11 (pos 0 ∷ []) in
      let v = (all_recorded by_money b (all 0) zs).valid book_sound (fair_allotment b.offers (all 0) refl) (fair_levels by_money zs refl) refl in
      (reads_records text sheet).1 (e, record { sound = v.sound; units = v.units; levels = tt; levelled = inl refl })

  is_sheet : Sheet sheet
  is_sheet = record { unlevelled = refl; unfilled = (((refl, tt), (refl, tt)), (((refl, tt), (refl, tt)), (((refl, tt), (refl, tt)), tt))); standing = (ltb-true 0 5 refl, (ltb-true 0 3 refl, (ltb-true 0 10 refl, tt))) }

  -- where every record that clearing comes to has so many units on each line
  module _ (text : List ℕ) (reads : Reads text sheet) (units : ℕ) (only : (y : Contents) → Clears by_money b y → (zs : List (List ℤ)) × (y ≡ chain last units zs)) where
    some : (page : List ℕ) → 32768 ≤ length page → (after : List ℕ) × (r : Result ℕ Fault) × Clearing text page after r
    some page l =
        let work = replicate 11 money.none in
        let enough : 11 ≤ length work = omega (arith, length-replicate 11 money.none) in
        let c = clear_some money_laws (net_of b) money.none (begins money (chain_run last h)) work enough in
        there c.0 work c.1 c.2 enough c.3
      where
        there : (t : Net) (work work' : List Money) (r : Result Money Refusal) → 11 ≤ length work → outcomes.Clearing money (net_of b) t work work' r → (after : List ℕ) × (r : Result ℕ Fault) × Clearing text page after r
        there t work work' (Ok sum) m c =
            let y = filed by_money b (uses.allotted b t) (map (λ w. w.cents ∷ []) work') in
            (render y ++ drop (length (render y)) page, Ok (length (render y)), record { sheet = sheet; reads = reads; is = is_sheet; filed = record { contents = y; clears = sheeting.clears money_laws told b t work work' sum book_sound c; length = refl; page = refl } })
        there t work work' (Err e) m c = absurd (let k = c.short in omega arith)

    pub cleared_always : (worth : Total) (offers : List OfferResult) → ((zs : List (List ℤ)) → total_by by_money b (allotted (chain last units zs)) ≡ worth) → ((zs : List (List ℤ)) → map_with result_of b.offers (allotted (chain last units zs)) ≡ offers) → ClearingSheet text worth offers
    cleared_always worth offers is are = record { some = some; every = every }
      where
        every : (page after : List ℕ) (r : Result ℕ Fault) → 32768 ≤ length page → Clearing text page after r → MatchResult r (λ n. Passing (take n after) worth offers) (λ _. ⊥)
        every page after (Ok n) l c =
            let filed : FiledBest by_money b page after n = subst (λ x. FiledBest x.kind (book_of x) page after n) (one_outcome.one_reading text c.sheet sheet c.reads reads) c.filed in
            let y = filed.contents in
            let p = filed.clears.passes in
            let written : take n after ≡ render y = (λ i. take (filed.length i) (filed.page i)) ∙ take-append_seam (render y) (drop n page) in
            let at = only y filed.clears in
            let total : total_by y.kind (book_of y) (allotted y) ≡ worth = ap (λ x. total_by x.kind (book_of x) (allotted x)) at.1 ∙ is at.0 in
            let results : map_with result_of (book_of y).offers (allotted y) ≡ offers = ap (λ x. map_with result_of (book_of x).offers (allotted x)) at.1 ∙ are at.0 in
            subst (λ t. Passing t worth offers) (sym written) (passing (render y) y worth offers p.reads p.allowed p.fits total results)
        every page after (Err f) l (e, inl d) = one_outcome.not_both text sheet (number f.refusal) f.line reads d
        every page after (Err f) l (e, inr (inl d)) = d.not (subst Sheet (one_outcome.one_reading text sheet d.contents reads d.reads) is_sheet)
        every page after (Err f) l (e, inr (inr d)) = omega (arith, d.short.short, d.short.clears.passes.reads.0)

-- with price 160 as many units go along each line, at most 3, and fewer than 3 are not best

threes : (zs : List (List ℤ)) → Allowed (book 160) (allotted (chain 160 3 zs))
threes zs = allowed_by (book 160) (allotted (chain 160 3 zs)) (book_sound 160 refl) refl refl

is_three : (units : ℕ) (zs : List (List ℤ)) → units ≤ 3 → BestBy by_money (book 160) (allotted (chain 160 units zs)) → units ≡ 3
is_three zero zs l best = absurd (omega (arith, ints, best (allotted (chain 160 3 zs)) (threes zs)))
is_three (suc zero) zs l best = absurd (omega (arith, ints, best (allotted (chain 160 3 zs)) (threes zs)))
is_three (suc (suc zero)) zs l best = absurd (omega (arith, ints, best (allotted (chain 160 3 zs)) (threes zs)))
is_three (suc (suc (suc zero))) zs l best = refl
is_three (suc (suc (suc (suc k)))) zs l best = absurd (omega arith)

-- the record with the flows on the lines
abbrev flowing : (ℕ → ℕ) → List (List ℤ) → Contents
flowing f zs = contents_of by_money (book 160) (allotment_of (book 160) f) zs

alike : (f : ℕ → ℕ) (zs : List (List ℤ)) → Allowed (book 160) (allotted (flowing f zs)) → (flowing f zs ≡ chain 160 (f 2) zs) × (f 2 ≤ 3)
alike f zs w =
    let e4 : f 4 ≡ f 2 = omega (arith, w.evenly.0) in
    let e7 : f 7 ≡ f 2 = omega (arith, w.cleared 1 (ltb-true 1 3 refl)) in
    let e5 : f 5 ≡ f 2 = omega (arith, w.evenly.1.0, e7) in
    let e8 : f 8 ≡ f 2 = omega (arith, w.cleared 0 (ltb-true 0 3 refl), e4) in
    let e10 : f 10 ≡ f 2 = omega (arith, w.evenly.1.1.0, e8) in
    ((λ i. contents_of by_money (book 160) (by_lists ((f 2 ∷ [], e4 i ∷ []) ∷ (e5 i ∷ [], e7 i ∷ []) ∷ (e8 i ∷ [], e10 i ∷ []) ∷ [])) zs), omega (arith, w.limits.1.0, e5))

only_threes : (y : Contents) → Clears by_money (book 160) y → (zs : List (List ℤ)) × (y ≡ chain 160 3 zs)
only_threes y c =
    let f = flow_in c.net in
    let own = evidence.0 (render y) y c.passes in
    let a = alike f c.levels (subst (λ x. Allowed (book_of x) (allotted x)) c.filled own.0) in
    let same : y ≡ chain 160 (f 2) c.levels = c.filled ∙ a.0 in
    let three = is_three (f 2) c.levels a.1 (subst (λ x. BestBy x.kind (book_of x) (allotted x)) same own.1) in
    (c.levels, same ∙ ap (λ u. chain 160 u c.levels) three)

pub sheet_cleared : (worth : Total) (offers : List OfferResult) → ((zs : List (List ℤ)) → total_by by_money (book 160) (allotted (chain 160 3 zs)) ≡ worth) → ((zs : List (List ℤ)) → map_with result_of (book 160).offers (allotted (chain 160 3 zs)) ≡ offers) → ClearingSheet chain_sheet worth offers
sheet_cleared = cleared_always 160 refl chain_sheet (sheet_reads 160 refl chain_sheet refl) 3 only_threes

-- with price 70 no cycle is worth more than none, so clear stays at 0 units

idle_at_70 : outcomes.Idle money (net_of (book 70))
idle_at_70 c g =
    let G = kind money money_laws in
    let n = net_of (book 70) in
    let N = graph money n in
    let row = map of_cents (pos 0 ∷ pos 100 ∷ pos 70 ∷ pos 100 ∷ pos 70 ∷ pos 0 ∷ pos 0 ∷ negsuc 79 ∷ negsuc 79 ∷ pos 0 ∷ pos 0 ∷ []) in
    let s = standing money_laws (begins money (chain_run 70 refl)) in
    let f = fitted money n row refl refl refl in
    not_best G N (flow_in n) s.circulation s.within c g (sufficient_holds G N (potential money row) (flow_in n) (graph_sound money_laws n s.sound) s.circulation f.fits)

climb_stays : {s t : Net} {sum : Money} → outcomes.Idle money s → outcomes.Climb money s sum t → t ≡ s
climb_stays idle outcomes.still = refl
climb_stays idle (outcomes.more c i) = absurd (idle i.cycle (subst (λ n. Gainful money (graph money n) (flow_in n) i.cycle) (climb_stays idle c) i.gainful))

only_zeros : (y : Contents) → Clears by_money (book 70) y → (zs : List (List ℤ)) × (y ≡ chain 70 0 zs)
only_zeros y c = (c.levels, c.filled ∙ ap (λ n. contents_of by_money (book 70) (uses.allotted (book 70) n) c.levels) (climb_stays idle_at_70 c.cleared.clears.0))

pub sheet_at_70_cleared : (worth : Total) (offers : List OfferResult) → ((zs : List (List ℤ)) → total_by by_money (book 70) (allotted (chain 70 0 zs)) ≡ worth) → ((zs : List (List ℤ)) → map_with result_of (book 70).offers (allotted (chain 70 0 zs)) ≡ offers) → ClearingSheet sheet_at_70 worth offers
sheet_at_70_cleared = cleared_always 70 refl sheet_at_70 (sheet_reads 70 refl sheet_at_70 refl) 0 only_zeros
