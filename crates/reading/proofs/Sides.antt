-- The lines of an offer's sides, one after the other.
use Rattle.std.proofs.Common.{◌≡◌, ℕ, ◌+◌, ◌-◌, ◌<◌, ◌≤◌, List, [], ◌∷◌, ◌++◌, map, length, replicate, IfOk, Ok, Err, Option, Result, sym, refl, ap, ◌∙◌, subst, inl, inr, append_assoc, append-nil, arith}
use Rattle.std.specs.List.{ContainsAt as Has, AllByRecursion}
use Rattle.std.proofs.ByRecursion.{All-push}
use Rattle.std.proofs.lemmas.List.{length-map, length-append, length_push, map_push}
use Rattle.tables.specs.Refusals.{Row, when, First, refusal}
use Rattle.tables.specs.Tables.{Added}
use Rattle.tables.proofs.Entries.{grew}
use Rattle.tables.specs.declared.refusal.Refusal.{Refusal}
use Rattle.text.specs.Faults.{result_at}
use Rattle.text.specs.Numbers.{unsigned}
use Rattle.text.specs.Readers.{Advanced}
use Rattle.text.specs.Rows.{SpellsRow}
use Rattle.text.specs.declared.fault.Fault.{Fault}
use Rattle.text.specs.declared.reader.Reader.{Reader}
use Rattle.book.specs.Books.{Distinct, Loop, Fair, item_of}
use Rattle.book.specs.declared.line.Line.{Line}
use Rattle.layout.specs.Layout.{Slot, give, get, HeadOfOffer, line_rules, rules, giving, getting, with_offers}
use Rattle.layout.specs.Records.{LineWithUnits, Contents, line_of, units_of}
use Rattle.layout.proofs.Kept.{last_push, on_last_push}
use Rattle.layout.proofs.Lists.{none_apart, apart_push, loop_push}
use Rattle.reading.specs.Offers.{line_said, as_line, FairBelow, Part, give_lines, get_lines, slot, offer_with, with_part, Within, LineAdded, LinesRead, LinesStop}
use Rattle.reading.specs.Reading.{Missing, Onward, Stops, LineRead}
use Rattle.reading.specs.declared.side.FilledLine.{FilledLine}
use Rattle.reading.proofs.Dues.{one_due, all_due}
use Rattle.reading.proofs.Tested.{give_row, get_row, no_row, tested}

-- a last rule that cannot be broken
without_last : (rows : List Row) (n : ℕ) (P : Type 0) (o : Option ℕ) → (P → ⊥) → First (rows ++ when n P ∷ []) o → First rows o
without_last [] n P o f h = h.1 f
without_last (when k Q ∷ rows) n P o f h = (h.0, λ g. without_last rows n P o f (h.1 g))

-- nothing is given, so that no line loops with it
no_loop : (gs ls : List Line) → [] ≡ gs → Loop gs ls → ⊥
no_loop [] ls e h = omega (arith, h.1)
no_loop (g ∷ gs) ls e h = omega (arith, ap length e)

-- no line of the part comes next
pub no_line : (p : Part) (x : Contents) (h : HeadOfOffer) (ls : List LineWithUnits) {before : Reader} {f : Fault} → Missing (SpellsRow unsigned 4) before f → (due : List Slot) → Stops (slot p ∷ due) (with_part p x h ls) before f
no_line give_lines x h ls m = no_row give_row (with_part give_lines x h ls) m
no_line (get_lines gs) x h ls m = no_row get_row (with_part (get_lines gs) x h ls) m

-- what was read of a line, as a line more of its part
give_added : (x : Contents) (h : HeadOfOffer) (ls : List LineWithUnits) (before after : Reader) (o : Result FilledLine Fault) → LineRead give line_said (with_part give_lines x h ls) before after o → LineAdded give_lines x h ls before after o
give_added x h ls before after (Ok l) r =
    subst (λ os. (due : List Slot) → Onward (give ∷ due) (with_part give_lines x h ls) before due (with_offers x os) after) (on_last_push (giving (line_said l)) x.offers (offer_with give_lines h ls)) r
give_added x h ls before after (Err f) r = r

get_added : (gs : List LineWithUnits) (x : Contents) (h : HeadOfOffer) (ls : List LineWithUnits) (before after : Reader) (o : Result FilledLine Fault) → LineRead get line_said (with_part (get_lines gs) x h ls) before after o → LineAdded (get_lines gs) x h ls before after o
get_added gs x h ls before after (Ok l) r =
    subst (λ os. (due : List Slot) → Onward (get ∷ due) (with_part (get_lines gs) x h ls) before due (with_offers x os) after) (on_last_push (getting (line_said l)) x.offers (offer_with (get_lines gs) h ls)) r
get_added gs x h ls before after (Err f) r = r

-- numbers that were tested as a line below others
module _ (items : ℕ) (gs above : List Line) (ns : List ℕ) (r : Result FilledLine Refusal) where
  abbrev Passes : Type 0
  Passes = (x : Contents) (ls : List LineWithUnits) → length x.items ≡ items → map line_of ls ≡ above → First (line_rules x ls (as_line ns) ++ when 8 (Loop gs ((as_line ns).line ∷ [])) ∷ []) (refusal r)

  give_rules : (x : Contents) (h : HeadOfOffer) (ls : List LineWithUnits) → Within give_lines x items gs → map line_of ls ≡ above → Passes → First (rules give (with_part give_lines x h ls) (as_line ns)) (refusal r)
  give_rules x h ls w e t =
      let y = with_part give_lines x h ls in
      let l = as_line ns in
      subst (λ o. First (line_rules y o.give l) (refusal r)) (sym (last_push x.offers (offer_with give_lines h ls))) (without_last (line_rules y ls l) 8 (Loop gs (l.line ∷ [])) (refusal r) (no_loop gs (l.line ∷ []) w.1) (t y ls w.0 e))

  get_rules : (given : List LineWithUnits) (x : Contents) (h : HeadOfOffer) (ls : List LineWithUnits) → Within (get_lines given) x items gs → map line_of ls ≡ above → Passes → First (rules get (with_part (get_lines given) x h ls) (as_line ns)) (refusal r)
  get_rules given x h ls w e t =
      let y = with_part (get_lines given) x h ls in
      let l = as_line ns in
      subst (λ o. First (line_rules y o.get l ++ when 8 (Loop (map line_of o.give) (l.line ∷ [])) ∷ []) (refusal r)) (sym (last_push x.offers (offer_with (get_lines given) h ls))) (subst (λ g. First (line_rules y ls l ++ when 8 (Loop g (l.line ∷ [])) ∷ []) (refusal r)) (sym w.1) (t y ls w.0 e))

  pub one_line : {before after : Reader} → Advanced (SpellsRow unsigned 4) before after ns → (line : ℕ) → line ≡ before.line → Passes → IfOk r (λ l. line_said l ≡ as_line ns) → (o : Result FilledLine Fault) → o ≡ result_at line r → (p : Part) (x : Contents) (h : HeadOfOffer) (ls : List LineWithUnits) → Within p x items gs → map line_of ls ≡ above → LineAdded p x h ls before after o
  one_line {before} {after} a line n t same o e give_lines x h ls w q = give_added x h ls before after o (tested give_row (with_part give_lines x h ls) line_said ns a line n r (give_rules x h ls w q t) same o e)
  one_line {before} {after} a line n t same o e (get_lines given) x h ls w q = get_added given x h ls before after o (tested get_row (with_part (get_lines given) x h ls) line_said ns a line n r (get_rules given x h ls w q t) same o e)

-- the lines of a part, one after the other
module _ (items : ℕ) (gs : List Line) where
  -- none is read yet
  pub begin : (lines : List Line) (units : List ℕ) (before : Reader) → lines ≡ [] → LinesRead items gs 0 lines units units before before
  begin lines units before e = record {
    said = [];
    many = refl;
    lines_are = sym e;
    units_are = append-nil units;
    fair = subst (AllByRecursion (Fair items)) (sym e) tt;
    apart = subst (λ ls. Distinct (map item_of ls)) (sym e) none_apart;
    no_loop = subst (λ ls. Loop gs ls → ⊥) (sym e) (λ h. omega (arith, (h.2 (record { item = 0; limit = 0; price = 0 })).1.1));
    onward = λ p x h due w o r. r;
  }

  module _ {n k : ℕ} {lines above : List Line} {units units' : List ℕ} {before middle : Reader} (d : LinesRead items gs k lines units units' before middle) (lt : k < n) (same : above ≡ lines) where
    -- one more
    pub again : {after : Reader} {lines' : List Line} {units'' : List ℕ} (l : FilledLine) → length units + n ≤ 256 → FairBelow items gs above l.line → ((p : Part) (x : Contents) (h : HeadOfOffer) (ls : List LineWithUnits) → Within p x items gs → map line_of ls ≡ above → (due : List Slot) → Onward (slot p ∷ due) (with_part p x h ls) middle due (with_part p x h (ls ++ line_said l ∷ [])) after) → (r q : Result (Unit {0}) Refusal) → Added 256 lines lines' (l.line ∷ []) r → Added 256 units' units'' (l.units ∷ []) q → LinesRead items gs (k + 1) lines' units units'' before after
    again {after} {lines'} {units''} l few fair reads r q a b =
        let ls = d.said in
        let many = d.many in
        let grown : lines' ≡ lines ++ l.line ∷ [] = grew 256 lines lines' (l.line ∷ []) r a (omega (arith, ap length d.lines_are, length-map ls line_of)) in
        let more : units'' ≡ units' ++ l.units ∷ [] = grew 256 units' units'' (l.units ∷ []) q b (omega (arith, ap length d.units_are, length-append units (map units_of ls), length-map ls units_of)) in
        record {
          said = ls ++ line_said l ∷ [];
          many = omega (arith, length_push ls (line_said l));
          lines_are = map_push line_of ls (line_said l) ∙ ap (λ xs. xs ++ l.line ∷ []) d.lines_are ∙ sym grown;
          units_are = ap (λ us. units ++ us) (map_push units_of ls (line_said l)) ∙ sym (append_assoc units (map units_of ls) (l.units ∷ [])) ∙ ap (λ us. us ++ l.units ∷ []) d.units_are ∙ sym more;
          fair = subst (AllByRecursion (Fair items)) (sym grown) (All-push (Fair items) lines l.line d.fair fair.fair);
          apart = subst (λ xs. Distinct (map item_of xs)) (sym grown) (apart_push item_of lines l.line d.apart (subst (λ ls. Has (map item_of ls) l.line.item → ⊥) same fair.apart));
          no_loop = subst (λ xs. Loop gs xs → ⊥) (sym grown) (λ h. elim (loop_push gs lines l.line h) [ inl p ↦ d.no_loop p | inr p ↦ fair.no_loop p ]);
          onward = λ p x h due w. subst (λ ss. Onward ss (with_part p x h []) before due (with_part p x h (ls ++ line_said l ∷ [])) after) (one_due k (slot p) due) (λ o z. d.onward p x h (slot p ∷ due) w o (reads p x h ls w (d.lines_are ∙ sym same) due o z));
        }

    -- the text is refused at the next
    pub stopped : (f : Fault) → ((p : Part) (x : Contents) (h : HeadOfOffer) (ls : List LineWithUnits) → Within p x items gs → map line_of ls ≡ above → (due : List Slot) → Stops (slot p ∷ due) (with_part p x h ls) middle f) → LinesStop items gs n before f
    stopped f stop p x h due w = subst (λ ss. Stops ss (with_part p x h []) before f) (all_due n k lt (slot p) due) (d.onward p x h _ w _ (stop p x h d.said w (d.lines_are ∙ sym same) (replicate (n - (k + 1)) (slot p) ++ due)))
