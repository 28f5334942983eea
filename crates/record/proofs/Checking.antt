-- What check finds: whether an allotment is allowed, and what each offer comes to.
use Rattle.std.proofs.Common.{◌≡◌, ℕ, suc, ◌*◌, ◌<◌, ◌≤◌, cond, eqb, ◌≢◌, List, [], ◌∷◌, map, length, ℤ, pos, ◌-ℤ◌, Some, Ok, Err, Result, MatchResult, sym, refl, ap, ◌∙◌, subst, ⊎_elim, arith}
use mathlib.Core.Logic.{∥∥₁_elim}
use native.Mathlib.Bridge.{le_prop}
use Rattle.std.proofs.lemmas.List.{length-map}
use Rattle.std.proofs.lemmas.Bool.{cases_lt, cases_eq}
use Rattle.std.proofs.lemmas.Option.{none-some}
use Rattle.worth.specs.Kinds.{Ops}
use Rattle.worth.specs.Money.{money}
use Rattle.worth.specs.Integers.{money_laws}
use Rattle.tables.specs.Refusals.{when, First}
use Rattle.tables.specs.declared.refusal.Refusal.{Refusal}
use Rattle.tables.proofs.Firsts.{accepted}
use Rattle.flow.specs.Arcs.{arc_at}
use Rattle.flow.specs.Graphs.{Graph, Within, Circulation}
use Rattle.flow.specs.Groups.{kind}
use Rattle.network.specs.Circulations.{Circulates}
use Rattle.network.specs.Networks.{flow_in, graph, value}
use Rattle.network.proofs.Circulations.{circulation, circulates}
use Rattle.book.specs.Allotments.{Units, Allotment, Allowed, Alike, AlikeOn, payoff, weeks_of}
use Rattle.book.specs.Arcs.{net_of, filling, filled}
use Rattle.book.specs.Books.{Book, Offer, Sound, offer_at}
use Rattle.book.specs.Rows.{map_with}
use Rattle.book.proofs.Best.{allowed_is_circulation_lem}
use Rattle.book.proofs.Filled.{sum_with_alike}
use Rattle.book.proofs.Networks.{laid_network, graph_same}
use Rattle.text.specs.Faults.{fault_at}
use Rattle.layout.specs.Records.{Kind, Contents, book_of, allotted, Valid}
use Rattle.layout.specs.Runs.{Reads}
use Rattle.layout.proofs.Renders.{reads_records}
use Rattle.reading.specs.Contents.{contents}
use Rattle.reading.specs.Levels.{numbers}
use Rattle.reading.specs.declared.level.Level.{Level}
use Rattle.reading.specs.declared.record.Record.{Record}
use Rattle.round.specs.Questions.{AnswersPayoff}
use Rattle.round.specs.Rounds.{book}
use Rattle.round.specs.declared.open_round.OpenRound.{OpenRound}
use Rattle.record.specs.Checks.{total_by, result_of, failing, Tested, Answered, Fails}
use Rattle.record.specs.Evidence.{network_of, Passes}
use Rattle.record.specs.Levels.{Levelled}
use Rattle.record.specs.Networks.{Exceeds}
use Rattle.record.specs.declared.passed.Passed.{Passed}
use Rattle.record.specs.declared.passed.Total.{Total}

-- the filled network has the graph of its book
same_graph : (b : Book) (a : Allotment) → graph money (net_of b) ≡ graph money (filled b a)
same_graph b a = graph_same (kind money money_laws) b (filled b a) (laid_network b (filling b a))

-- an allotment is allowed where no flow that it fills in exceeds its capacity and they circulate
pub allowed_from : (b : Book) (a : Allotment) → Sound b → (Exceeds (filled b a) → ⊥) → Circulates (filled b a) → Allowed b a
allowed_from b a s few c =
    let y = flow_in (filled b a) in
    (allowed_is_circulation_lem money b a s).1 (record {
      within = subst (λ (N : Graph _). Within N y) (sym (same_graph b a)) (λ i l. ⊎_elim (λ h. absurd (few (i, l, h))) (λ h. h) (cases_lt (arc_at (filled b a).arcs i).capacity (y i)));
      balanced = subst (λ (N : Graph _). Circulation N y) (sym (same_graph b a)) (circulation money (filled b a) c);
    })

-- and only there
pub not_exceeding : (b : Book) (a : Allotment) → Sound b → Exceeds (filled b a) → Allowed b a → ⊥
not_exceeding b a s (i, l, h) w =
    let y = flow_in (filled b a) in
    let within = subst (λ (N : Graph _). Within N y) (same_graph b a) ((allowed_is_circulation_lem money b a s).0 w).within in
    omega (arith, h, within i l)

pub circulating : (b : Book) (a : Allotment) → Sound b → Allowed b a → Circulates (filled b a)
circulating b a s w = circulates money (filled b a) (subst (λ (N : Graph _). Circulation N (flow_in (filled b a))) (same_graph b a) ((allowed_is_circulation_lem money b a s).0 w).balanced)

-- allotments that are alike come to the same
result_alike : (o : Offer) (u w : Units) → AlikeOn o u w → result_of o u ≡ result_of o w
result_alike o u w h =
    let got = sum_with_alike (λ l n. l.price * n) o.get u.get w.get h.get in
    let given = sum_with_alike (λ l n. l.price * n) o.give u.give w.give h.give in
    let weeks = sum_with_alike (λ l n. cond (eqb l.item 0) 0 n) o.get u.get w.get h.get in
    (λ i. record { payoff = pos (got i) -ℤ pos (given i); weeks = weeks i })

pub results_alike : (os : List Offer) (a c : Allotment) → Alike os a c → map_with result_of os a ≡ map_with result_of os c
results_alike [] a c h = refl
results_alike (o ∷ os) a c h =
    let first = result_alike o (a 0) (c 0) (h 0 (omega arith)) in
    let rest = results_alike os (λ k. a (suc k)) (λ k. c (suc k)) (λ k l. h (suc k) (omega arith)) in
    (λ i. first i ∷ rest i)

-- a round has at most 64 offers
pub few_offers : (r : OpenRound) → length (book r).offers ≤ 64
few_offers r = ∥∥₁_elim r.sound le_prop (λ s. s.offers_few)

-- a record whose network could not be drawn has an allotment that is not allowed
pub undrawn : (x : Contents) (n : ℕ) → Sound (book_of x) → First (when 15 (Exceeds (network_of x)) ∷ []) (Some n) → First (failing x) (Some n)
undrawn x n s f =
    let some : (Exceeds (network_of x) → ⊥) → ⊥ = λ none. none-some n (sym (f.1 none)) in (
      λ _. ⊎_elim (λ (e : n ≡ 15). ap Some e) (λ (d : n ≢ 15). absurd (some (λ h. d (let q = f.0 h in cc)))) (cases_eq n 15),
      λ stable. absurd (some (λ h. stable (not_exceeding (book_of x) (allotted x) s h))),
    )

-- an offer that there is has its payoff
pub paid : (b : Book) (a : Allotment) (k : ℕ) (r : Result (ℤ × ℕ) Refusal) → AnswersPayoff b a k r → k < length b.offers → (p : ℤ × ℕ) × (r ≡ Ok p) × ((p.0 ≡ payoff (offer_at b k) (a k)) × (p.1 ≡ weeks_of (offer_at b k) (a k)))
paid b a k r h known = accepted (λ p. (p.0 ≡ payoff (offer_at b k) (a k)) × (p.1 ≡ weeks_of (offer_at b k) (a k))) (λ _. Unit {0}) r (h.refused.1 (λ le. omega arith)) h.answer

-- at most as many levels as a network has nodes
few_levels : (x : Contents) → Valid x → length x.levels ≤ 272
few_levels x v = ⊎_elim (λ e. omega arith) (λ e. omega (arith, e, v.sound.items_few, v.sound.holdings_few, v.sound.offers_few)) v.levelled

-- and so has what was read
pub levels_few : (r : Record) (ls : List Level) → map (numbers (contents r).kind) ls ≡ (contents r).levels → length ls ≤ 272
levels_few r ls e = let few : length (contents r).levels ≤ 272 = ∥∥₁_elim r.valid le_prop (few_levels (contents r)) in omega (arith, few, ap length e, length-map ls (numbers (contents r).kind))

-- levels come back from the worths that they stand for
levels_again : {W : Type 0} {o : Ops W} {k : Kind} {level : W → Level} {worth : Level → W} → Levelled o k level worth → (ls : List Level) → map (λ w. numbers k (level w)) (map worth ls) ≡ map (numbers k) ls
levels_again told [] = refl
levels_again told (l ∷ ls) = let first = told.again l in let rest = levels_again told ls in (λ i. first i ∷ rest i)

-- so the levels that were read are those of the worths that they stand for
pub levels_read : {W : Type 0} {o : Ops W} {k : Kind} {level : W → Level} {worth : Level → W} → Levelled o k level worth → {j : Kind} → j ≡ k → (ls : List Level) {zs : List (List ℤ)} → map (numbers j) ls ≡ zs → (ws : List W) → ws ≡ map worth ls → map (λ w. numbers k (level w)) ws ≡ zs
levels_read {k = k} {level = level} told ej ls e ws ew = ap (map (λ w. numbers k (level w))) ew ∙ levels_again told ls ∙ ap (λ j. map (numbers j) ls) (sym ej) ∙ e

-- what is read keeps the rules
pub valid_read : (text : List ℕ) (x : Contents) → Reads text x → Valid x
valid_read text x r = ((reads_records text x).0 r).1

-- what check answers of a text that reads
abbrev pub Told : List ℕ → Result Passed Refusal → Type 0
Told text r = MatchResult r (λ p. (y : Contents) × Passes text y × Answered y p) (λ e. Fails text (fault_at 0 e))

-- it is answered so once its contents are tested by their kind
pub checked : {W : Type 0} {o : Ops W} {converts : W → Total → Type 0} (text : List ℕ) (x : Contents) (k : Kind) → x.kind ≡ k → ((b : Book) (a : Allotment) (t : Total) → converts (value o (filled b a)) t → t ≡ total_by k b a) → Reads text x → (r : Result Passed Refusal) → Tested o converts x r → Told text r
checked text x k told is reads (Ok p) t =
    let s = t.outcome in
    (x, record { reads = reads; allowed = s.allowed; fits = s.fits }, record { worth = is (book_of x) (allotted x) p.worth s.worth_is ∙ (λ i. total_by (sym told i) (book_of x) (allotted x)); offers = s.results_are })
checked text x k told is reads (Err e) t = record { contents = x; reads = reads; first = t.refused; line = refl }
