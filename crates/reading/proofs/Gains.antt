-- Entries of one sort, one after the other, and the section that lists them.
use Rattle.std.proofs.Common.{◌≡◌, ℕ, suc, ◌+◌, ◌-◌, ◌<◌, ◌≤◌, List, [], ◌∷◌, ◌++◌, replicate, IfOk, Ok, Err, codes, Result, sym, refl, ap, ◌∙◌, subst, arith, MatchResult}
use Rattle.std.proofs.lemmas.List.{length_push}
use Rattle.std.proofs.lemmas.Result.{IfOk-at_ok}
use Rattle.tables.specs.Refusals.{First, refusal}
use Rattle.tables.specs.declared.refusal.Refusal.{Refusal}
use Rattle.text.specs.Faults.{result_at}
use Rattle.text.specs.Readers.{Advanced, Ended}
use Rattle.text.specs.declared.fault.Fault.{Fault}
use Rattle.text.specs.declared.reader.Reader.{Reader}
use Rattle.text.specs.declared.section.Section.TheVariants.{Items}
use Rattle.text.proofs.Faults.{ok_from_at}
use Rattle.layout.specs.Layout.{Slot, head, item, Says, rules, calls_for, with_line, nothing}
use Rattle.layout.specs.Records.{Contents}
use Rattle.layout.specs.Runs.{reads, ComesTo, ends, trails}
use Rattle.reading.specs.Drafts.{so_far, EntriesRead, Halts, Gains, ReadsSection, ReadsItems}
use Rattle.reading.specs.Entries.{section_of, slot_of, many, without}
use Rattle.reading.specs.Kinds.{of_kind}
use Rattle.reading.specs.Reading.{Onward, Stops, Ends}
use Rattle.reading.specs.declared.draft.Draft.{Draft}
use Rattle.reading.specs.declared.entry.Entry.{Entry}
use Rattle.reading.specs.declared.entry.Entry.TheVariants.{Item, Member, Holding, Offer, Level}
use Rattle.reading.specs.declared.kind.Kind.{Kind}
use Rattle.reading.proofs.Dues.{one_due, all_due}
use Rattle.reading.proofs.Steps.{Lies, ruled}

-- n entries were read
abbrev pub Gained : Entry → ℕ → Draft → Draft → Type 0
Gained e n a b = EntriesRead e (replicate n (slot_of e)) a b × (many e (so_far b) ≡ many e (so_far a) + n)

pub none_yet : (e : Entry) (a : Draft) → Gained e 0 a a
none_yet e a = (record { onward = λ due o h. h; only = refl }, omega arith)

-- one entry was read, and what is held besides it
pub one_more : (e : Entry) (a b : Draft) (y : Contents) → ((due : List Slot) → Onward (slot_of e ∷ due) (so_far a) a.reader due y b.reader) → y ≡ so_far b → without e y ≡ without e (so_far a) → many e y ≡ many e (so_far a) + 1 → Gained e 1 a b
one_more e a b y on held only more = (
  record {
    onward = λ due. subst (λ z. Onward (slot_of e ∷ due) (so_far a) a.reader due z b.reader) held (on due);
    only = subst (λ z. without e z ≡ without e (so_far a)) held only;
  },
  subst (λ z. many e z ≡ many e (so_far a) + 1) held more,
)

-- what is held besides the line of an entry
entered : (e : Entry) (c : Says (slot_of e)) (x : Contents) → (without e (with_line (slot_of e) c x) ≡ without e x) × (many e (with_line (slot_of e) c x) ≡ many e x + 1)
entered Item c x = (refl, omega (arith, length_push x.items c))
entered Member c x = (refl, omega (arith, length_push x.members c))
entered Holding c x = (refl, omega (arith, length_push x.holdings c))
entered Offer c x = (refl, omega (arith, length_push x.offers (record { member = c.member; limit = c.limit; give = []; get = [] })))
entered Level c x = (refl, omega (arith, length_push x.levels c))

said_so : {X Y : Type 0} (c : X) (r : Result Y Refusal) → IfOk r (λ _. c ≡ c)
said_so c (Ok y) = refl
said_so c (Err d) = tt

-- the text is refused where a call is that was made with what a line says
pub refused : (e : Entry) (a : Draft) {V Y : Type 0} (Is : List ℕ → V → Type 0) {after : Reader} {v : V} (c : Says (slot_of e)) → Advanced Is a.reader after v → Lies (slot_of e) (so_far a) Is v c → (line : ℕ) → line ≡ a.reader.line → (r : Result Y Refusal) → First (rules (slot_of e) (so_far a) c) (refusal r) → (f : Fault) → Err f ≡ result_at line r → Halts (slot_of e ∷ []) a f
refused e a {Y = Y} Is c adv lies line n r first f q = ruled (slot_of e) (so_far a) Is (λ (_ : Y). c) adv c lies line n r first (said_so c r) (Err f) q

-- an entry of one line, where a call was made with what the line says: it was accepted, or refused and the text with it
module _ (e : Entry) (a b : Draft) {V : Type 0} (Is : List ℕ → V → Type 0) {v : V} (c : Says (slot_of e)) (bare : calls_for (slot_of e) c ≡ []) (adv : Advanced Is a.reader b.reader v) (lies : Lies (slot_of e) (so_far a) Is v c) where
  pub told : {Y : Type 0} (line : ℕ) → line ≡ a.reader.line → (r : Result Y Refusal) → First (rules (slot_of e) (so_far a) c) (refusal r) → IfOk r (λ _. with_line (slot_of e) c (so_far a) ≡ so_far b) → (o : Result Y Fault) → o ≡ result_at line r → MatchResult o (λ _. Gained e 1 a b) (λ f. Halts (slot_of e ∷ []) a f)
  told {Y} line n r first held (Ok y) q =
      let x = so_far a in
      let on = ruled (slot_of e) x Is (λ (_ : Y). c) adv c lies line n r first (said_so c r) (Ok y) q in
      one_more e a b (with_line (slot_of e) c x) (λ due. subst (λ l. Onward (slot_of e ∷ due) x a.reader (l ++ due) (with_line (slot_of e) c x) b.reader) bare (on due)) (IfOk-at_ok (λ _. with_line (slot_of e) c x ≡ so_far b) (ok_from_at line r y q) held) (entered e c x).0 (entered e c x).1
  told {Y} line n r first held (Err f) q = refused e a Is c adv lies line n r first f q

-- an entry after others
pub again : (e : Entry) (k : ℕ) (a b d : Draft) → Gained e k a b → Gained e 1 b d → Gained e (k + 1) a d
again e k a b d (f, m) (g, n) = (
  record {
    onward = λ due. subst (λ l. Onward l (so_far a) a.reader due (so_far d) d.reader) (one_due k (slot_of e) due) (λ o h. f.onward (slot_of e ∷ due) o (g.onward due o h));
    only = g.only ∙ f.only;
  },
  omega arith,
)

-- the text is refused in the next
pub halted : (e : Entry) (n k : ℕ) (a b : Draft) (f : Fault) → Gained e k a b → k < n → Halts (slot_of e ∷ []) b f → Halts (replicate n (slot_of e)) a f
halted e n k a b f (r, _) lt h due = subst (λ l. Stops l (so_far a) a.reader f) (all_due n k lt (slot_of e) due) (r.onward _ _ (h (replicate (n - (k + 1)) (slot_of e) ++ due)))

-- the head of a section calls for its entries, and holds nothing itself
pub headed : (e : Entry) (n : ℕ) (x : Contents) (before after : Reader) → ((due : List Slot) → Onward (head (section_of e) ∷ due) x before (calls_for (head (section_of e)) n ++ due) (with_line (head (section_of e)) n x) after) → (due : List Slot) → Onward (head (section_of e) ∷ due) x before (replicate n (slot_of e) ++ due) x after
headed Item n x before after h = h
headed Member n x before after h = h
headed Holding n x before after h = h
headed Offer n x before after h = h
headed Level n x before after h = h

-- a section, its head and its entries
pub listed : (e : Entry) (n : ℕ) (a b d : Draft) (r : Result (Unit {0}) Fault) → so_far b ≡ so_far a → ((due : List Slot) → Onward (head (section_of e) ∷ due) (so_far a) a.reader (replicate n (slot_of e) ++ due) (so_far b) b.reader) → Gains e n b d r → ReadsSection e a d r
listed e n a b d (Ok u) same on g = record { onward = λ due o h. on due o (g.0.onward due o h); only = g.0.only ∙ ap (without e) same }
listed e n a b d (Err f) same on h = λ due. on due _ (h due)

-- the section of the items, which begins a draft
module _ (k : Kind) (n : ℕ) (some : 1 ≤ n) (before middle : Reader) (on : (due : List Slot) → Onward (head Items ∷ due) (of_kind k nothing) before (replicate n item ++ due) (of_kind k nothing) middle) where
  first : (due : List Slot) → Onward (head Items ∷ due) (of_kind k nothing) before (item ∷ (replicate (n - 1) item ++ due)) (of_kind k nothing) middle
  first due = let e : suc (n - 1) ≡ n = omega arith in subst (λ m. Onward (head Items ∷ due) (of_kind k nothing) before (replicate m item ++ due) (of_kind k nothing) middle) (sym e) (on due)

  -- the first name is not cash
  pub no_cash : (f : Fault) → ((due : List Slot) → Stops (item ∷ due) (of_kind k nothing) middle f) → (due : List Slot) → Stops (head Items ∷ due) (of_kind k nothing) before f
  no_cash f stop due = first due _ (stop (replicate (n - 1) item ++ due))

  -- it is, and the draft begins with it
  module _ (y : Contents) (later : Reader) (cash : (due : List Slot) → Onward (item ∷ due) (of_kind k nothing) middle due (with_line item (codes "cash") (of_kind k nothing)) later) (fresh : y ≡ with_line item (codes "cash") (of_kind k nothing)) where
    to_draft : (due : List Slot) → Onward (head Items ∷ due) (of_kind k nothing) before (replicate (n - 1) item ++ due) y later
    to_draft due = subst (λ x. Onward (head Items ∷ due) (of_kind k nothing) before (replicate (n - 1) item ++ due) x later) (sym fresh) (λ o h. first due o (cash (replicate (n - 1) item ++ due) o h))

    pub not_begun : (f : Fault) → ((due : List Slot) → Stops (replicate (n - 1) item ++ due) y later f) → (due : List Slot) → Stops (head Items ∷ due) (of_kind k nothing) before f
    not_begun f h due = to_draft due _ (h due)

    pub begun : (d : Draft) → ((due : List Slot) → Onward (replicate (n - 1) item ++ due) y later due (so_far d) d.reader) → without Item (so_far d) ≡ without Item y → ReadsItems before (of_kind k nothing) (Ok d)
    begun d g only = (λ due o h. to_draft due o (g due o h), only ∙ ap (without Item) fresh)

-- after the last line
pub at_end : (reader : Reader) (r : Result (Unit {0}) Fault) → Ended reader r → (x : Contents) → Ends x reader r
at_end reader (Ok u) e x = subst (λ t. ComesTo [] x t reader.line (reads x)) (sym e) ends
at_end reader (Err f) h x = subst (λ g. Stops [] x reader g) (sym h.0) (trails h.1)
