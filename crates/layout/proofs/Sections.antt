-- Lines of one sort below each other: what they say is taken off a text that reads, and put before one.
use Rattle.std.proofs.Common.{◌≡◌, ℕ, zero, suc, ◌+◌, List, [], ◌∷◌, ◌++◌, map, length, replicate, None, sym, refl, ap, ◌∙◌, subst, subst₂, append_assoc, append-nil, arith}
use Rattle.std.specs.List.{AllByRecursion}
use Rattle.tables.specs.Refusals.{First}
use Rattle.text.specs.Parts.{Free}
use Rattle.text.specs.declared.section.Section.{Section}
use Rattle.layout.specs.Records.{Contents}
use Rattle.layout.specs.Layout.{Slot, head, word, Says, spell, Fits, rules, calls_for, with_line}
use Rattle.layout.specs.Runs.{Outcome, reads, refused, ComesTo, ends, trails, departs, breaks, keeps}
use Rattle.layout.specs.Render.{ended, section}
use Rattle.layout.proofs.Lines.{head_free}

-- a line is in the layout and breaks no rule
abbrev pub Kept : (s : Slot) → Contents → Says s → Type 0
Kept s x c = Fits s x c × First (rules s x c) None

-- from whichever line on, the text reads as these contents
abbrev pub ReadsFrom : List Slot → Contents → List ℕ → Contents → Type 0
ReadsFrom due x text out = (line : ℕ) → ComesTo due x text line (reads out)

-- a line in front of others
pub cons_text : (l rest more text : List ℕ) (ls : List (List ℕ)) → text ≡ l ++ 10 ∷ rest → rest ≡ ended ls ++ more → text ≡ ended (l ∷ ls) ++ more
cons_text l rest more text ls e f = e ∙ ap (λ m. l ++ 10 ∷ m) f ∙ sym (append_assoc l (10 ∷ ended ls) more)

-- lines in front of others
pub join_text : (text rest more : List ℕ) (ls ms : List (List ℕ)) → text ≡ ended ls ++ rest → rest ≡ ended ms ++ more → text ≡ ended (ls ++ ms) ++ more
join_text text rest more [] ms e f = e ∙ f
join_text text rest more (l ∷ ls) ms e f = cons_text l (ended ls ++ rest) more text (ls ++ ms) (e ∙ append_assoc l (10 ∷ ended ls) rest) (join_text (ended ls ++ rest) rest more ls ms refl f)

-- One line

pub record NextLine (s : Slot) (due : List Slot) (x : Contents) (text : List ℕ) (out : Contents) : Type 0 where
  pub says : Says s
  pub rest : List ℕ
  pub line : ℕ
  pub text_is : text ≡ spell s says ++ 10 ∷ rest
  pub kept : Kept s x says
  pub then : ComesTo (calls_for s says ++ due) (with_line s says x) rest line (reads out)

refused_reads : {A : Type 0} {x : Contents} {n l : ℕ} → refused n l ≡ reads x → A
refused_reads e = let z : ◌≡◌ {A = ℕ} 0 1 = cc in absurd (omega arith)

-- the line that is due in a text that reads
pub take_line : {s : Slot} {due : List Slot} {x : Contents} {text : List ℕ} {line : ℕ} {out : Contents} → ComesTo (s ∷ due) x text line (reads out) → NextLine s due x text out
take_line {s} {due} {x} {text} {line} {out} r = go r refl
  where
    go : {o : Outcome} → ComesTo (s ∷ due) x text line o → o ≡ reads out → NextLine s due x text out
    go (departs f) e = refused_reads e
    go (breaks c r l b) e = refused_reads e
    go (keeps c r l b t) e = record { says = c; rest = r; line = line + 1; text_is = l.ended.is; kept = (l.fits, b); then = subst (λ o. ComesTo (calls_for s c ++ due) (with_line s c x) r (line + 1) o) e t }

-- a line before a text that reads
pub put_line : {s : Slot} {due : List Slot} {x : Contents} {rest : List ℕ} {out : Contents} (c : Says s) → Free 10 (spell s c) → Kept s x c → ReadsFrom (calls_for s c ++ due) (with_line s c x) rest out → ReadsFrom (s ∷ due) x (spell s c ++ 10 ∷ rest) out
put_line {rest = rest} c f k r line = keeps c rest (record { ended = record { is = refl; free = f }; fits = k.0 }) k.1 (r (line + 1))

-- where no line is due, a text that reads is at its end
pub take_end : {x : Contents} {text : List ℕ} {line : ℕ} {out : Contents} → ComesTo [] x text line (reads out) → (x ≡ out) × (text ≡ [])
take_end {x} {text} {line} {out} r = go r refl
  where
    go : {text : List ℕ} {o : Outcome} → ComesTo [] x text line o → o ≡ reads out → (x ≡ out) × (text ≡ [])
    go ends e = (cc, refl)
    go (trails h) e = refused_reads e

-- The words of a kind

pub record NextWords (ws : List (List ℕ)) (due : List Slot) (x : Contents) (text : List ℕ) (out : Contents) : Type 0 where
  pub rest : List ℕ
  pub line : ℕ
  pub text_is : text ≡ ended ws ++ rest
  pub then : ComesTo due x rest line (reads out)

pub take_words : (ws : List (List ℕ)) (due : List Slot) (x : Contents) (text : List ℕ) (line : ℕ) (out : Contents) → ComesTo (map word ws ++ due) x text line (reads out) → NextWords ws due x text out
take_words [] due x text line out r = record { rest = text; line = line; text_is = refl; then = r }
take_words (w ∷ ws) due x text line out r =
    let h = take_line r in
    let t = take_words ws due x h.rest h.line out h.then in
    record { rest = t.rest; line = t.line; text_is = cons_text w h.rest t.rest text ws h.text_is t.text_is; then = t.then }

pub put_words : (ws : List (List ℕ)) (due : List Slot) (x : Contents) (rest : List ℕ) (out : Contents) → AllByRecursion (Free 10) ws → ReadsFrom due x rest out → ReadsFrom (map word ws ++ due) x (ended ws ++ rest) out
put_words [] due x rest out f r = r
put_words (w ∷ ws) due x rest out f r =
    let p = put_line {s = word w} {due = map word ws ++ due} {x = x} {rest = ended ws ++ rest} tt f.0 (tt, refl) (put_words ws due x rest out f.1 r) in
    subst (λ l. ReadsFrom (word w ∷ (map word ws ++ due)) x l out) (sym (append_assoc w (10 ∷ ended ws) rest)) p

-- Lines of one sort, which call for no others

-- `at` is what is held after so many of them; `Whole` says of the whole list that each line was kept, below those above it
pub record Listing (s : Slot) : Type 1 where
  pub leaf : (c : Says s) → calls_for s c ≡ []
  pub at : List (Says s) → Contents
  pub grows : (above : List (Says s)) (c : Says s) → with_line s c (at above) ≡ at (above ++ c ∷ [])
  pub free : (above : List (Says s)) (c : Says s) → Kept s (at above) c → Free 10 (spell s c)
  pub Whole : List (Says s) → Type 0
  pub none : Whole []
  pub grow : (above : List (Says s)) (c : Says s) → Whole above → Kept s (at above) c → Whole (above ++ c ∷ [])
  pub shrink : (above : List (Says s)) (c : Says s) (cs : List (Says s)) → Whole (above ++ c ∷ cs) → Kept s (at above) c

pub record NextLines {s : Slot} (l : Listing s) (above : List (Says s)) (n : ℕ) (due : List Slot) (text : List ℕ) (out : Contents) : Type 0 where
  pub says : List (Says s)
  pub many : length says ≡ n
  pub whole : l.Whole (above ++ says)
  pub rest : List ℕ
  pub line : ℕ
  pub text_is : text ≡ ended (map (spell s) says) ++ rest
  pub then : ComesTo due (l.at (above ++ says)) rest line (reads out)

module _ {s : Slot} (l : Listing s) where
  take_below : (n : ℕ) (due : List Slot) (above : List (Says s)) (text : List ℕ) (line : ℕ) (out : Contents) → l.Whole above → ComesTo (replicate n s ++ due) (l.at above) text line (reads out) → NextLines l above n due text out
  take_below zero due above text line out w r = record {
    says = [];
    many = refl;
    whole = subst l.Whole (sym (append-nil above)) w;
    rest = text;
    line = line;
    text_is = refl;
    then = subst (λ cs. ComesTo due (l.at cs) text line (reads out)) (sym (append-nil above)) r;
  }
  take_below (suc n) due above text line out w r =
      let h = take_line r in
      let c = h.says in
      let T : List Slot → Contents → Type 0 = λ d x. ComesTo (d ++ (replicate n s ++ due)) x h.rest h.line (reads out) in
      let t = take_below n due (above ++ c ∷ []) h.rest h.line out (l.grow above c w h.kept) (subst₂ T (l.leaf c) (l.grows above c) h.then) in
      let e = append_assoc above (c ∷ []) t.says in
      record {
        says = c ∷ t.says;
        many = ap suc t.many;
        whole = subst l.Whole e t.whole;
        rest = t.rest;
        line = t.line;
        text_is = cons_text (spell s c) h.rest t.rest text (map (spell s) t.says) h.text_is t.text_is;
        then = subst (λ cs. ComesTo due (l.at cs) t.rest t.line (reads out)) e t.then;
      }

  put_below : (cs : List (Says s)) (due : List Slot) (above : List (Says s)) (rest : List ℕ) (out : Contents) → l.Whole (above ++ cs) → ReadsFrom due (l.at (above ++ cs)) rest out → ReadsFrom (replicate (length cs) s ++ due) (l.at above) (ended (map (spell s) cs) ++ rest) out
  put_below [] due above rest out w r = subst (λ cs. ReadsFrom due (l.at cs) rest out) (append-nil above) r
  put_below (c ∷ cs) due above rest out w r =
      let e = sym (append_assoc above (c ∷ []) cs) in
      let k = l.shrink above c cs w in
      let t = put_below cs due (above ++ c ∷ []) rest out (subst l.Whole e w) (subst (λ cs. ReadsFrom due (l.at cs) rest out) e r) in
      let T : List Slot → Contents → Type 0 = λ d x. ReadsFrom (d ++ (replicate (length cs) s ++ due)) x (ended (map (spell s) cs) ++ rest) out in
      let p = put_line {due = replicate (length cs) s ++ due} {x = l.at above} {rest = ended (map (spell s) cs) ++ rest} c (l.free above c k) k (subst₂ T (sym (l.leaf c)) (sym (l.grows above c)) t) in
      subst (λ m. ReadsFrom (s ∷ (replicate (length cs) s ++ due)) (l.at above) m out) (sym (append_assoc (spell s c) (10 ∷ ended (map (spell s) cs)) rest)) p

  pub take_lines : (n : ℕ) (due : List Slot) (text : List ℕ) (line : ℕ) (out : Contents) → ComesTo (replicate n s ++ due) (l.at []) text line (reads out) → NextLines l [] n due text out
  take_lines n due text line out r = take_below n due [] text line out l.none r

  pub put_lines : (cs : List (Says s)) (due : List Slot) (rest : List ℕ) (out : Contents) → l.Whole cs → ReadsFrom due (l.at cs) rest out → ReadsFrom (replicate (length cs) s ++ due) (l.at []) (ended (map (spell s) cs) ++ rest) out
  put_lines cs due rest out w r = put_below cs due [] rest out w r

  -- a section: its head, and lines of sort s, as many as it counts
  pub record NextSection (which : Section) (due : List Slot) (text : List ℕ) (out : Contents) : Type 0 where
    pub says : List (Says s)
    pub head_kept : Kept (head which) (l.at []) (length says)
    pub whole : l.Whole says
    pub rest : List ℕ
    pub line : ℕ
    pub text_is : text ≡ ended (section which s says) ++ rest
    pub then : ComesTo due (l.at says) rest line (reads out)

  module _ (which : Section) (calls : (n : ℕ) → calls_for (head which) n ≡ replicate n s) (stays : (n : ℕ) → with_line (head which) n (l.at []) ≡ l.at []) where
    pub take_section : (due : List Slot) (text : List ℕ) (line : ℕ) (out : Contents) → ComesTo (head which ∷ due) (l.at []) text line (reads out) → NextSection which due text out
    take_section due text line out r =
        let h = take_line r in
        let T : List Slot → Contents → Type 0 = λ d x. ComesTo (d ++ due) x h.rest h.line (reads out) in
        let t = take_lines h.says due h.rest h.line out (subst₂ T (calls h.says) (stays h.says) h.then) in
        record {
          says = t.says;
          head_kept = subst (Kept (head which) (l.at [])) (sym t.many) h.kept;
          whole = t.whole;
          rest = t.rest;
          line = t.line;
          text_is = cons_text (spell (head which) (length t.says)) h.rest t.rest text (map (spell s) t.says) (h.text_is ∙ ap (λ n. spell (head which) n ++ 10 ∷ h.rest) (sym t.many)) t.text_is;
          then = t.then;
        }

    pub put_section : (cs : List (Says s)) (due : List Slot) (rest : List ℕ) (out : Contents) → Kept (head which) (l.at []) (length cs) → l.Whole cs → ReadsFrom due (l.at cs) rest out → ReadsFrom (head which ∷ due) (l.at []) (ended (section which s cs) ++ rest) out
    put_section cs due rest out h w r =
        let T : List Slot → Contents → Type 0 = λ d x. ReadsFrom (d ++ due) x (ended (map (spell s) cs) ++ rest) out in
        let t = put_lines cs due rest out w r in
        let p = put_line {due = due} {x = l.at []} {rest = ended (map (spell s) cs) ++ rest} (length cs) (head_free which (length cs)) h (subst₂ T (sym (calls (length cs))) (sym (stays (length cs))) t) in
        subst (λ m. ReadsFrom (head which ∷ due) (l.at []) m out) (sym (append_assoc (spell (head which) (length cs)) (10 ∷ ended (map (spell s) cs)) rest)) p
