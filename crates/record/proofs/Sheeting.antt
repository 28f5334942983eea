-- Sheets, and the records that clear them.
use Rattle.std.proofs.Common.{◌≡◌, ℕ, ◌<◌, List, [], ◌∷◌, map, length, take, ℤ, Some, Ok, Err, Result, sym, refl, ap, subst, ⊎_elim, arith}
use lib.ListN.{length-map}
use Rattle.std.specs.List.{AllByRecursion}
use Rattle.std.proofs.ByRecursion.{All-append, All-map}
use Rattle.std.proofs.lemmas.Bool.{cases_lt}
use Rattle.tables.specs.Refusals.{when, First, number}
use Rattle.tables.specs.declared.refusal.Refusal.{Refusal}
use Rattle.text.specs.declared.fault.Fault.{Fault}
use Rattle.worth.specs.Kinds.{Ops, Laws}
use Rattle.network.specs.Networks.{Net}
use Rattle.network.specs.Potentials.{Fitted}
use Rattle.search.specs.Outcomes.{Clearing}
use Rattle.book.specs.Allotments.{Allotment, Allowed}
use Rattle.book.specs.Arcs.{nodes, net_of, filled}
use Rattle.book.specs.Books.{Book, Sound}
use Rattle.book.proofs.Each.{all_left, all_right}
use Rattle.layout.specs.Records.{Kind, OfferWithUnits, units_of, offer_of}
use Rattle.layout.specs.Render.{render}
use Rattle.layout.specs.Runs.{Refused}
use Rattle.layout.proofs.Lengths.{short_record}
use Rattle.layout.proofs.Recorded.{all_recorded}
use Rattle.layout.proofs.Renders.{reads_records}
use Rattle.round.specs.Uses.{allotted}
use Rattle.round.proofs.Standing.{cleared_allowed}
use Rattle.reading.specs.Held.{units_in}
use Rattle.reading.specs.Levels.{numbers}
use Rattle.reading.specs.declared.level.Level.{Level}
use Rattle.record.specs.Files.{filed, Files, Roomy}
use Rattle.record.specs.Levels.{Levelled}
use Rattle.record.specs.Sheets.{Unfilled, Clears, PageShort, ClearedRound}
use Rattle.record.proofs.Evident.{none_over, filed_passes}
use Rattle.record.proofs.Filing.{first_levels, worths_over}
use Rattle.record.proofs.Unpaged.{never_paged}

all_from_map : {X Y : Type 0} (P : Y → Type 0) (f : X → Y) (xs : List X) → AllByRecursion P (map f xs) → AllByRecursion (λ x. P (f x)) xs
all_from_map P f [] h = tt
all_from_map P f (x ∷ xs) h = (h.0, all_from_map P f xs h.1)

-- no units in a row, and none on the lines
pub row_zero : (fs : List OfferWithUnits) → AllByRecursion (λ o. Unfilled o.give × Unfilled o.get) fs → AllByRecursion (λ u. u ≡ 0) (units_in fs)
row_zero [] h = tt
row_zero (f ∷ fs) h = All-append (λ u. u ≡ 0) (map units_of f.give) _ (All-map (λ u. u ≡ 0) units_of f.give h.0.0) (All-append (λ u. u ≡ 0) (map units_of f.get) _ (All-map (λ u. u ≡ 0) units_of f.get h.0.1) (row_zero fs h.1))

pub lines_unfilled : (fs : List OfferWithUnits) → AllByRecursion (λ u. u ≡ 0) (units_in fs) → AllByRecursion (λ o. Unfilled o.give × Unfilled o.get) fs
lines_unfilled [] h = tt
lines_unfilled (f ∷ fs) h =
    let rest = all_right (λ u. u ≡ 0) (map units_of f.give) _ h in
    let give = all_from_map (λ u. u ≡ 0) units_of f.give (all_left (λ u. u ≡ 0) (map units_of f.give) _ h) in
    let get = all_from_map (λ u. u ≡ 0) units_of f.get (all_left (λ u. u ≡ 0) (map units_of f.get) _ rest) in
    ((give, get), lines_unfilled fs (all_right (λ u. u ≡ 0) (map units_of f.get) _ rest))

-- limits with and without the units
pub limits_to : (fs : List OfferWithUnits) → AllByRecursion (λ o. 0 < o.limit) fs → AllByRecursion (λ o. 0 < o.limit) (map offer_of fs)
limits_to fs h = All-map (λ o. 0 < o.limit) offer_of fs h

pub limits_from : (fs : List OfferWithUnits) → AllByRecursion (λ o. 0 < o.limit) (map offer_of fs) → AllByRecursion (λ o. 0 < o.limit) fs
limits_from fs h = all_from_map (λ o. 0 < o.limit) offer_of fs h

module _ {W : Type 0} {o : Ops W} (laws : Laws o) {k : Kind} {level : W → Level} {worth : Level → W} (told : Levelled o k level worth) (b : Book) (n : Net) (work work' : List W) (sum : W) (s : Sound b) (c : Clearing o (net_of b) n work work' (Ok sum)) where
  abbrev pub a : Allotment
  a = allotted b n

  abbrev pub zs : List (List ℤ)
  zs = map (λ w. numbers k (level w)) work'

  found : (n ≡ filled b a) × Allowed b a
  found = cleared_allowed laws b n work work' sum s c

  fitted : Fitted o (filled b a) work'
  fitted = subst (λ m. Fitted o m work') found.0 c.1

  pub clears : Clears k b (filed k b a zs)
  clears =
      record {
        net = n;
        levels = take (nodes b) zs;
        cleared = told.cleared b n (take (nodes b) zs) (record { work = work; work' = work'; sum = sum; clears = c; levels = sym (first_levels told (nodes b) work' (take (nodes b) work') refl) });
        filled = refl;
        passes = filed_passes laws told b a work' s found.1 fitted;
        kind = refl;
        book = (all_recorded k b a (take (nodes b) zs)).book;
      }

  -- a record that is filed after clearing passes, and only a short page can be refused
  pub filed_best : (before after : List ℕ) (r : Result ℕ Refusal) → Files k b a zs before after r → ClearedRound k b before after r
  filed_best before after (Ok m) f = record { contents = filed k b a zs; clears = clears; length = f.outcome.length; page = f.outcome.page }
  filed_best before after (Err e) f = (f.outcome, short ((f.refused.1 (λ any. none_over laws told b a work' s fitted (worths_over told (nodes b) work' (take (nodes b) work') refl any))).1 (λ lt. omega (arith, lt, length-map work' (λ w. numbers k (level w)), fitted.enough))))
    where
      short : First (when 12 (length before < length (render (filed k b a zs))) ∷ []) (Some (number e)) → PageShort k b before (number e)
      short g = ⊎_elim (λ lt. let q = g.0 lt in let m : number e ≡ 12 = cc in record { contents = filed k b a zs; clears = clears; short = lt; number = m }) (λ le. let q = g.1 (λ lt. omega arith) in let z : ◌≡◌ {A = ℕ} 0 1 = cc in absurd (omega arith)) (cases_lt (length before) (length (render (filed k b a zs))))

-- clearing a round by a kind that is the sheet's
pub cleared_as : (k j : Kind) (b d : Book) (before after page : List ℕ) (r s : Result ℕ Refusal) → k ≡ j → b ≡ d → page ≡ after → s ≡ r → ClearedRound k b before after r → ClearedRound j d before page s
cleared_as k j b d before after page r s ek eb ep er h = subst (λ (T : Type 0). T) (λ i. ClearedRound (ek i) (eb i) before (sym ep i) (sym er i)) h

-- a page of 15,000 bytes is never too short, since each record fits
pub roomy_short : (k : Kind) (b : Book) (page : List ℕ) (e : Refusal) → PageShort k b page (number e) → Roomy page e
roomy_short k b page e q room is_page =
    let y = q.contents in
    omega (arith, q.short, short_record y ((reads_records (render y) y).0 q.clears.passes.reads).1, room)

-- and reading refuses for other reasons
pub roomy_unread : (text page : List ℕ) (f : Fault) → Refused text (number f.refusal) f.line → Roomy page f.refusal
roomy_unread text page f r room is_page = never_paged text f.line (subst (λ n. Refused text n f.line) (ap number is_page) r)
