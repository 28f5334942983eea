-- The next line of a text, read as a head, a name or a row of numbers.
use Rattle.std.proofs.Common.{◌≡◌, ℕ, cond, eqb, List, ◌∷◌, Ok, Err, Result, sym, refl, ap, ◌∙◌, subst, inl, inr, Bor}
use Rattle.tables.specs.declared.refusal.Refusal.{Refusal}
use Rattle.text.specs.Faults.{fault_at}
use Rattle.text.specs.Lines.{Says}
use Rattle.text.specs.Numbers.{spelt, Notation, Reads}
use Rattle.text.specs.Readers.{Advanced, Halted}
use Rattle.text.specs.Rows.{SpellsRow}
use Rattle.text.specs.Sections.{letter}
use Rattle.text.specs.declared.fault.Fault.{Fault}
use Rattle.text.specs.declared.line.Line.{Line}
use Rattle.text.specs.declared.line.Line.TheVariants as line
use Rattle.text.specs.declared.line.Sort.{Sort}
use Rattle.text.specs.declared.line.Sort.TheVariants as sort
use Rattle.text.specs.declared.reader.Reader.{Reader}
use Rattle.text.specs.declared.section.Section.{Section}
use Rattle.text.specs.declared.section.Section.TheVariants.{Kinds, Items, Members, Holdings, Offers, Levels}
use Rattle.text.proofs.Cuts.{first_once}
use Rattle.reading.specs.Reading.{Missing, ReadNext, NextTaken, IsHead, RowOf}
use Rattle.reading.specs.declared.next.Numbered.{Numbered}

-- what a call takes from the next line, where what it takes is an x just where the line is one
module _ {X : Type 0} {s : Sort} {Taken : Line → Result X Refusal → Type 0} (Q : Line → X → Type 0) (Is : List ℕ → X → Type 0) (takes : (l : Line) (t : Result X Refusal) → Taken l t → Reads (Q l) t) (to : (l : Line) (bytes : List ℕ) → Says s bytes l → (x : X) → Q l x → Is bytes x) (from : (l : Line) (bytes : List ℕ) → Says s bytes l → (x : X) → Is bytes x → (y : X) × Q l y) (some : (bytes : List ℕ) (x : X) → Is bytes x → (l : Line) × Says s bytes l) {before after : Reader} where
  -- no line of the sort comes next, and so no x
  missing : {f : Fault} → Halted (Says s) before after f → Missing Is before f
  missing h = record { fault = h.fault; none = λ x bytes rest at i. let b = some bytes x i in h.none b.0 bytes rest at b.1 }

  -- one does, and is no x
  unread : {f : Fault} (l : Line) → Advanced (Says s) before after l → Taken l (Err f.refusal) → f ≡ fault_at before.line f.refusal → Missing Is before f
  unread {f} l a t e =
      let g = takes l (Err f.refusal) t in
      record {
        fault = e ∙ ap (fault_at before.line) g.0;
        none = λ x bytes rest at i. let b = from l bytes (subst (λ bs. Says s bs l) (first_once a.ended at).0 a.is) x i in g.1 b.0 b.1;
      }

  -- so an x is read
  pub taken : (r : Result (Numbered X) Fault) → NextTaken s Taken before after r → ReadNext Is before after r
  taken (Ok n) t =
      let l = t.outcome.0 in
      let a = t.outcome.1 in
      (t.numbered, record { line_bytes = a.line_bytes; ended = a.ended; is = to l a.line_bytes a.is n.said (takes l (Ok n.said) t.outcome.2); counted = a.counted })
  taken (Err f) t = elim t.outcome [ inl h ↦ missing h | inr p ↦ unread p.0 p.1 p.2 p.3 ]

-- Heads

abbrev by_letter : ℕ → Section
by_letter b = cond (eqb b 75) Kinds (cond (eqb b 73) Items (cond (eqb b 77) Members (cond (eqb b 72) Holdings (cond (eqb b 79) Offers Levels))))

by_its_letter : (s : Section) → by_letter (letter s) ≡ s
by_its_letter Kinds = refl
by_its_letter Items = refl
by_its_letter Members = refl
by_its_letter Holdings = refl
by_its_letter Offers = refl
by_its_letter Levels = refl

letter_once : (s t : Section) → letter s ≡ letter t → s ≡ t
letter_once s t e = sym (by_its_letter s) ∙ ap by_letter e ∙ by_its_letter t

pub head_to : (s : Section) (l : Line) (bytes : List ℕ) → Says sort.Head bytes l → (n : ℕ) → l ≡ line.Head s n → IsHead s bytes n
head_to s l bytes p n e = let q = subst (λ m. Says sort.Head bytes m) e p in (q.bytes_are, q.short)

pub head_from : (s : Section) (l : Line) (bytes : List ℕ) → Says sort.Head bytes l → (n : ℕ) → IsHead s bytes n → (m : ℕ) × (l ≡ line.Head s m)
head_from s (line.Head t m) bytes p n i =
    let e : letter t ∷ 32 ∷ spelt m ≡ letter s ∷ 32 ∷ spelt n = sym p.bytes_are ∙ i.0 in
    let h : letter t ≡ letter s = cc in
    (m, ap (λ u. line.Head u m) (letter_once t s h))
head_from s (line.Name x) bytes p n i = absurd (cc p.sorted)
head_from s (line.Row x) bytes p n i = absurd (cc p.sorted)

pub head_line : (s : Section) (bytes : List ℕ) (n : ℕ) → IsHead s bytes n → (l : Line) × Says sort.Head bytes l
head_line s bytes n i = (line.Head s n, record { sorted = refl; bytes_are = i.0; short = i.1 })

-- Names

pub name_to : (l : Line) (bytes : List ℕ) → Says sort.Name bytes l → (x : Bor (List ℕ)) → l ≡ line.Name x → x.now ≡ bytes
name_to l bytes p x e = let q = subst (λ m. Says sort.Name bytes m) e p in sym q.bytes_are

pub name_from : (l : Line) (bytes : List ℕ) → Says sort.Name bytes l → (x : Bor (List ℕ)) → x.now ≡ bytes → (y : Bor (List ℕ)) × (l ≡ line.Name y)
name_from (line.Head s m) bytes p x i = absurd (cc p.sorted)
name_from (line.Name y) bytes p x i = (y, refl)
name_from (line.Row y) bytes p x i = absurd (cc p.sorted)

pub name_line : (bytes : List ℕ) (x : Bor (List ℕ)) → x.now ≡ bytes → (l : Line) × Says sort.Name bytes l
name_line bytes x e = (line.Name x, record { sorted = refl; bytes_are = sym e; short = tt })

-- Rows

pub row_line : {X : Type 0} (notation : Notation X) (n : ℕ) (at : Bor (List ℕ)) (bytes : List ℕ) (xs : List X) → SpellsRow notation n bytes xs → (l : Line) × Says sort.Row bytes l
row_line notation n at bytes xs i = (line.Row (record { bytes = record { ref_ptr = at.ref_ptr; now = bytes } }), record { sorted = refl; bytes_are = refl; short = tt })

pub row_to : {X : Type 0} (notation : Notation X) (n : ℕ) (l : Line) (bytes : List ℕ) → Says sort.Row bytes l → (xs : List X) → RowOf notation n l xs → SpellsRow notation n bytes xs
row_to notation n l bytes p xs r = let q = subst (λ m. Says sort.Row bytes m) r.is p in subst (λ bs. SpellsRow notation n bs xs) (sym q.bytes_are) r.spells

pub row_from : {X : Type 0} (notation : Notation X) (n : ℕ) (l : Line) (bytes : List ℕ) → Says sort.Row bytes l → (xs : List X) → SpellsRow notation n bytes xs → (ys : List X) × RowOf notation n l ys
row_from notation n (line.Head s m) bytes p xs i = absurd (cc p.sorted)
row_from notation n (line.Name x) bytes p xs i = absurd (cc p.sorted)
row_from notation n (line.Row y) bytes p xs i = (xs, record { row = y; is = refl; spells = subst (λ bs. SpellsRow notation n bs xs) p.bytes_are i })
