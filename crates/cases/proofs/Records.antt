-- Records, by what they hold: that they read, and what check comes to on them.
use Rattle.std.proofs.Common.{◌≡◌, ℕ, suc, ◌≤◌, Bool, true, ◌&&◌, eqb, leb, List, [], ◌∷◌, length, ℤ, Ok, Err, Result, Some, None, Option, MatchResult, sym, refl, ap, ◌∙◌, subst, inl, inr}
use Rattle.std.proofs.lemmas.Bool.{and_parts, leb-true, eqb-true}
use Rattle.std.specs.List.{AllByRecursion}
use Rattle.std.proofs.lemmas.Option.{none-some}
use Rattle.tables.specs.Refusals.{First, number}
use Rattle.tables.specs.declared.refusal.Refusal.{Refusal}
use Rattle.text.specs.declared.fault.Fault.{Fault}
use Rattle.worth.specs.Kinds.{Ops}
use Rattle.worth.specs.Money.{money}
use Rattle.network.specs.Networks.{Net, flow_in}
use Rattle.network.specs.Potentials.{potential, Fitted}
use Rattle.book.specs.Allotments.{Allotment, Allowed}
use Rattle.book.specs.Arcs.{net_of, nodes, filled}
use Rattle.book.specs.Books.{Book, Offer, Sound}
use Rattle.book.specs.Rows.{AllWith, map_with}
use Rattle.book.specs.declared.line.Line.{Line}
use Rattle.book.proofs.Best.{allowed_is_circulation_lem}
use Rattle.layout.specs.Records.{Kind, parts, Contents, book_of, allotted, level_size, FairLevel, FairAllotment, contents_of}
use Rattle.layout.specs.Render.{render}
use Rattle.layout.specs.Runs.{Reads, Refused}
use Rattle.layout.proofs.Lines.{answer_once}
use Rattle.layout.proofs.Once.{one_outcome}
use Rattle.layout.proofs.Recorded.{all_recorded}
use Rattle.layout.proofs.Renders.{reads_records}
use Rattle.record.specs.Checks.{total_by, result_of, Answered, failing, Checks}
use Rattle.record.specs.Evidence.{LevelsFit, network_of, Passes}
use Rattle.record.specs.declared.passed.Passed.{Passed}
use Rattle.record.specs.declared.passed.OfferResult.{OfferResult}
use Rattle.record.specs.declared.passed.Total.{Total}
use Rattle.cases.specs.Texts.{RecordOf, Passing, Failing}
use Rattle.cases.proofs.Calls.{some_same}
use Rattle.cases.proofs.Tests.{all_below, below, balanced, circulates, inside, within, left_fits, flow_fits, fits}

-- the number that check refuses with, or none, and line 0
abbrev refusal_of : Result Passed Fault → Option ℕ
refusal_of (Ok p) = None
refusal_of (Err f) = Some (number f.refusal)

module _ (text : List ℕ) (x : Contents) (reads : Reads text x) where
  -- a text that reads comes to what its contents come to
  pub one_answer : (o : Option ℕ) → First (failing x) o → (r : Result Passed Fault) → Checks text r → refusal_of r ≡ o
  one_answer o f (Ok p) (y, passes, answered) =
      let e = one_outcome.one_reading text y x passes.reads reads in
      let ps : Passes text x = subst (Passes text) e passes in
      answer_once (failing x) None o ((λ h. absurd (h ps.allowed)), λ _. ((λ h. absurd (h ps.fits)), λ _. refl)) f
  one_answer o f (Err d) (inl h) = absurd (one_outcome.not_both text x (number d.refusal) d.line reads h)
  one_answer o f (Err d) (inr h) = answer_once (failing x) (Some (number d.refusal)) o (subst (λ y. First (failing y) (Some (number d.refusal))) (one_outcome.one_reading text h.contents x h.reads reads) h.first) f

  no_line : (d : Fault) → Checks text (Err d) → d.line ≡ 0
  no_line d (inl h) = absurd (one_outcome.not_both text x (number d.refusal) d.line reads h)
  no_line d (inr h) = h.line

  answered_once : (p : Passed) → Checks text (Ok p) → (p.worth ≡ total_by x.kind (book_of x) (allotted x)) × (p.offers ≡ map_with result_of (book_of x).offers (allotted x))
  answered_once p (y, passes, answered) =
      let e = one_outcome.one_reading text y x passes.reads reads in
      let a : Answered x p = subst (λ z. Answered z p) e answered in
      (a.worth, a.offers)

-- the text is a record of the contents' book
pub record_of : (text : List ℕ) (x : Contents) → Reads text x → RecordOf text x.kind (book_of x)
record_of text x reads = record { some = (x, reads); every = λ y r. let e = one_outcome.one_reading text y x r reads in (ap (λ z. z.kind) e, ap book_of e) }

-- contents that pass
pub passing : (text : List ℕ) (x : Contents) (worth : Total) (offers : List OfferResult) → Reads text x → Allowed (book_of x) (allotted x) → LevelsFit x.kind (network_of x) x.levels → total_by x.kind (book_of x) (allotted x) ≡ worth → map_with result_of (book_of x).offers (allotted x) ≡ offers → Passing text worth offers
passing text x worth offers reads allowed fit w os = record { some = (Ok p, (x, record { reads = reads; allowed = allowed; fits = fit }, record { worth = refl; offers = refl })); every = every }
  where
    p : Passed
    p = record { worth = total_by x.kind (book_of x) (allotted x); offers = map_with result_of (book_of x).offers (allotted x) }

    every : (r : Result Passed Fault) → Checks text r → MatchResult r (λ p. (p.worth ≡ worth) × (p.offers ≡ offers)) (λ _. ⊥)
    every (Ok p) h = let a = answered_once text x reads p h in (a.0 ∙ w, a.1 ∙ os)
    every (Err d) h = none-some (number d.refusal) (sym (one_answer text x reads None ((λ f. absurd (f allowed)), λ _. ((λ f. absurd (f fit)), λ _. refl)) (Err d) h))

-- contents that fail
pub failing_with : (text : List ℕ) (x : Contents) (e : Refusal) (n : ℕ) → Reads text x → First (failing x) (Some (number e)) → number e ≡ n → Failing text n 0
failing_with text x e n reads f is = record { some = (Err (record { refusal = e; line = 0 }), inr (record { contents = x; reads = reads; first = f; line = refl })); every = every }
  where
    every : (r : Result Passed Fault) → Checks text r → MatchResult r (λ _. ⊥) (λ d. (number d.refusal ≡ n) × (d.line ≡ 0))
    every (Ok p) h = none-some (number e) (one_answer text x reads (Some (number e)) f (Ok p) h)
    every (Err d) h = (some_same (number d.refusal) (number e) (one_answer text x reads (Some (number e)) f (Err d) h) ∙ is, no_line text x reads d h)

-- as many units on each line
abbrev pub all : ℕ → Allotment
all units k = record { give = λ t. units; get = λ t. units }

-- a text that is refused in reading
pub refused_with : (text : List ℕ) (e : Refusal) (line n l : ℕ) → Refused text (number e) line → number e ≡ n → line ≡ l → Failing text n l
refused_with text e line n l f is at = record { some = (Err (record { refusal = e; line = line }), inl f); every = every }
  where
    every : (r : Result Passed Fault) → Checks text r → MatchResult r (λ _. ⊥) (λ d. (number d.refusal ≡ n) × (d.line ≡ l))
    every (Ok p) (x, passes, answered) = one_outcome.not_both text x (number e) line passes.reads f
    every (Err d) (inl h) = let o = one_outcome.one_refusal text (number d.refusal) (number e) d.line line h f in (o.0 ∙ is, o.1 ∙ at)
    every (Err d) (inr h) = absurd (one_outcome.not_both text h.contents (number e) line h.reads f)

-- at most 1,000 units on each line
abbrev units_pass : List Line → (ℕ → ℕ) → Bool
units_pass [] x = true
units_pass (l ∷ ls) x = leb (x 0) 1000 && units_pass ls (λ t. x (suc t))

abbrev pub allotment_passes : List Offer → Allotment → Bool
allotment_passes [] a = true
allotment_passes (o ∷ os) a = (units_pass o.give (a 0).give && units_pass o.get (a 0).get) && allotment_passes os (λ k. a (suc k))

fair_side : (ls : List Line) (x : ℕ → ℕ) → units_pass ls x ≡ true → AllWith (λ l n. n ≤ 1000) ls x
fair_side [] x h = tt
fair_side (l ∷ ls) x h = let p = and_parts (leb (x 0) 1000) (units_pass ls (λ t. x (suc t))) h in (leb-true (x 0) 1000 p.0, fair_side ls (λ t. x (suc t)) p.1)

pub fair_allotment : (os : List Offer) (a : Allotment) → allotment_passes os a ≡ true → FairAllotment os a
fair_allotment [] a h = tt
fair_allotment (o ∷ os) a h =
    let p = and_parts (units_pass o.give (a 0).give && units_pass o.get (a 0).get) (allotment_passes os (λ k. a (suc k))) h in
    let q = and_parts (units_pass o.give (a 0).give) (units_pass o.get (a 0).get) p.0 in
    ((fair_side o.give (a 0).give q.0, fair_side o.get (a 0).get q.1), fair_allotment os (λ k. a (suc k)) p.1)

abbrev are_fair : Kind → List (List ℤ) → Bool
are_fair k [] = true
are_fair k (z ∷ zs) = eqb (length z) (parts k) && (leb (level_size z) 1000000 && are_fair k zs)

pub fair_levels : (k : Kind) (zs : List (List ℤ)) → are_fair k zs ≡ true → AllByRecursion (FairLevel k) zs
fair_levels k [] h = tt
fair_levels k (z ∷ zs) h =
    let p = and_parts (eqb (length z) (parts k)) (leb (level_size z) 1000000 && are_fair k zs) h in
    let q = and_parts (leb (level_size z) 1000000) (are_fair k zs) p.1 in
    ((eqb-true (length z) (parts k) p.0, leb-true (level_size z) 1000000 q.0), fair_levels k zs q.1)

-- a record of a sound book, with fair units and levels, reads
pub reading : (text : List ℕ) (k : Kind) (b : Book) (a : Allotment) (zs : List (List ℤ)) → Sound b → allotment_passes b.offers a ≡ true → are_fair k zs ≡ true → length zs ≡ nodes b → text ≡ render (contents_of k b a zs) → Reads text (contents_of k b a zs)
reading text k b a zs s h fair long e = (reads_records text (contents_of k b a zs)).1 (e, (all_recorded k b a zs).valid s (fair_allotment b.offers a h) (fair_levels k zs fair) long)

-- an allotment that fills the network with a circulation within the capacities is allowed
module _ (b : Book) (a : Allotment) (s : Sound b) where
  abbrev flow : ℕ → ℕ
  flow = flow_in (filled b a)

  pub allowed_by : all_below (nodes b) (balanced money (net_of b) flow) ≡ true → all_below (length (net_of b).arcs) (inside money (net_of b) flow) ≡ true → Allowed b a
  allowed_by h k = (allowed_is_circulation_lem money b a s).1 (record { within = within money (net_of b) flow k; balanced = circulates money (net_of b) flow h })

-- levels that fit
module _ {W : Type 0} (o : Ops W) (n : Net) (row : List W) where
  pub fitted : leb n.nodes (length row) ≡ true → all_below (length n.arcs) (λ i. left_fits o n (flow_in n) (potential o row) i && flow_fits o n (flow_in n) (potential o row) i) ≡ true → all_below n.nodes (λ v. leb (o.size (potential o row v)) 1000000) ≡ true → Fitted o n row
  fitted h k l = record {
    enough = leb-true n.nodes (length row) h;
    fits = fits o n (flow_in n) (potential o row) k;
    small = λ v m. leb-true (o.size (potential o row v)) 1000000 (below n.nodes (λ v. leb (o.size (potential o row v)) 1000000) l v m);
  }
