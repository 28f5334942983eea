-- A text reads as contents exactly when it is their record and they keep the rules.
use Rattle.std.proofs.Common.{◌≡◌, ℕ, ◌≤◌, ◌⊎◌, List, [], ◌∷◌, ◌++◌, map, length, codes, sym, refl, ap, ◌∙◌, subst, inl, inr, append-nil, arith}
use Rattle.std.specs.List.{AllByRecursion}
use Rattle.tables.proofs.Firsts.{not_first}
use Rattle.text.specs.Parts.{Free}
use Rattle.text.specs.declared.section.Section.{Section}
use Rattle.text.specs.declared.section.Section.TheVariants.{Kinds, Items, Members, Holdings, Offers, Levels}
use Rattle.book.specs.declared.holding.Holding.{Holding}
use Rattle.layout.specs.Records.{Kind, by_money, by_money_then_weeks, words, parts, kind_of, OfferWithUnits, Contents, FairLevel}
use Rattle.layout.specs.Layout.{Slot, head, word, item, member, holding, level, Says, spell, nothing, heads}
use Rattle.layout.specs.Runs.{ComesTo, ends, reads, Reads}
use Rattle.layout.specs.Render.{ended, section, kind_section, offers_lines, offers_section, render, ReadsRecords, OneText}
use Rattle.layout.proofs.Lines.{head_free}
use Rattle.layout.proofs.Lists.{at_most, free_name}
use Rattle.layout.proofs.Sections.{Kept, ReadsFrom, cons_text, join_text, take_line, put_line, take_end, take_words, put_words, take_section, put_section}
use Rattle.layout.proofs.Kept.{holds, short, ItemsWhole, MembersWhole, HoldingsWhole, items_list, members_list, holdings_list, levels_list}
use Rattle.layout.proofs.Wholes.{SectionsWhole, valid_from_sections, sections_from_valid}
use Rattle.layout.proofs.Lengths.{short_record}
use Rattle.layout.proofs.Offers.{OffersWhole, take_offers, put_offers}

-- From a text that reads

-- the kind with as many parts as the head of K counts
kind_parts : (n : ℕ) → (n ≡ 1) ⊎ (n ≡ 2) → n ≡ parts (kind_of n)
kind_parts n (inl e) = e ∙ ap (λ m. parts (kind_of m)) (sym e)
kind_parts n (inr e) = e ∙ ap (λ m. parts (kind_of m)) (sym e)

-- a section that was read, and what follows it
record SectionRead (which : Section) (s : Slot) (x : Contents) (Whole : List (Says s) → Type 0) (Then : List (Says s) → List ℕ → Type 0) (text : List ℕ) : Type 0 where
  says : List (Says s)
  kept : Kept (head which) x (length says)
  whole : Whole says
  rest : List ℕ
  text_is : text ≡ ended (section which s says) ++ rest
  then : Then says rest

-- the section of offers
record OffersRead (x : Contents) (n m : ℕ) (Then : List OfferWithUnits → List ℕ → Type 0) (text : List ℕ) : Type 0 where
  says : List OfferWithUnits
  kept : Kept (head Offers) x (length says)
  whole : OffersWhole n m says
  rest : List ℕ
  text_is : text ≡ ended (offers_section says) ++ rest
  then : Then says rest

-- from each section on, up to the contents read
abbrev LevelsOn : Contents → Kind → List (List ℕ) → List (List ℕ) → List Holding → List OfferWithUnits → List ℕ → Type 0
LevelsOn out k items members hs os text = SectionRead Levels level (holds k items members hs os []) (AllByRecursion (FairLevel k)) (λ zs rest. (holds k items members hs os zs ≡ out) × (rest ≡ [])) text

abbrev OffersOn : Contents → Kind → List (List ℕ) → List (List ℕ) → List Holding → List ℕ → Type 0
OffersOn out k items members hs text = OffersRead (holds k items members hs [] []) (length items) (length members) (LevelsOn out k items members hs) text

abbrev HoldingsOn : Contents → Kind → List (List ℕ) → List (List ℕ) → List ℕ → Type 0
HoldingsOn out k items members text = SectionRead Holdings holding (holds k items members [] [] []) (HoldingsWhole (length items) (length members)) (OffersOn out k items members) text

abbrev MembersOn : Contents → Kind → List (List ℕ) → List ℕ → Type 0
MembersOn out k items text = SectionRead Members member (holds k items [] [] [] []) MembersWhole (HoldingsOn out k items) text

abbrev ItemsOn : Contents → Kind → List ℕ → Type 0
ItemsOn out k text = SectionRead Items item (holds k [] [] [] [] []) ItemsWhole (MembersOn out k) text

module _ (out : Contents) (k : Kind) where
  read_levels : (items members : List (List ℕ)) (hs : List Holding) (os : List OfferWithUnits) (text : List ℕ) (line : ℕ) → ComesTo (head Levels ∷ []) (holds k items members hs os []) text line (reads out) → LevelsOn out k items members hs os text
  read_levels items members hs os text line r =
      let t = take_section (levels_list k items members hs os) Levels (λ n. refl) (λ n. refl) [] text line out r in
      record { says = t.says; kept = t.head_kept; whole = t.whole; rest = t.rest; text_is = t.text_is; then = take_end t.then }

  module _ (items members : List (List ℕ)) (few_items : length items ≤ 16) (few_members : length members ≤ 32) where
    read_offers : (hs : List Holding) (text : List ℕ) (line : ℕ) → ComesTo (head Offers ∷ head Levels ∷ []) (holds k items members hs [] []) text line (reads out) → OffersOn out k items members hs text
    read_offers hs text line r =
        let h = take_line r in
        let t = take_offers k items members hs few_items few_members h.says (head Levels ∷ []) [] h.rest h.line out (tt, omega arith) h.then in
        record {
          says = t.says;
          kept = subst (Kept (head Offers) (holds k items members hs [] [])) (sym t.many) h.kept;
          whole = t.whole;
          rest = t.rest;
          text_is = cons_text (spell (head Offers) (length t.says)) h.rest t.rest text (offers_lines t.says) (h.text_is ∙ ap (λ n. spell (head Offers) n ++ 10 ∷ h.rest) (sym t.many)) t.text_is;
          then = read_levels items members hs t.says t.rest t.line t.then;
        }

    read_holdings : (text : List ℕ) (line : ℕ) → ComesTo (head Holdings ∷ head Offers ∷ head Levels ∷ []) (holds k items members [] [] []) text line (reads out) → HoldingsOn out k items members text
    read_holdings text line r =
        let t = take_section (holdings_list k items members few_items few_members) Holdings (λ n. refl) (λ n. refl) (head Offers ∷ head Levels ∷ []) text line out r in
        record { says = t.says; kept = t.head_kept; whole = t.whole; rest = t.rest; text_is = t.text_is; then = read_offers t.says t.rest t.line t.then }

  read_members : (items : List (List ℕ)) → length items ≤ 16 → (text : List ℕ) (line : ℕ) → ComesTo (head Members ∷ head Holdings ∷ head Offers ∷ head Levels ∷ []) (holds k items [] [] [] []) text line (reads out) → MembersOn out k items text
  read_members items few text line r =
      let t = take_section (members_list k items) Members (λ n. refl) (λ n. refl) (head Holdings ∷ head Offers ∷ head Levels ∷ []) text line out r in
      record { says = t.says; kept = t.head_kept; whole = t.whole; rest = t.rest; text_is = t.text_is; then = read_holdings items t.says few (at_most (length t.says) 32 (not_first t.head_kept.1)) t.rest t.line t.then }

  read_items : (text : List ℕ) (line : ℕ) → ComesTo (head Items ∷ head Members ∷ head Holdings ∷ head Offers ∷ head Levels ∷ []) (holds k [] [] [] [] []) text line (reads out) → ItemsOn out k text
  read_items text line r =
      let t = take_section (items_list k) Items (λ n. refl) (λ n. refl) (head Members ∷ head Holdings ∷ head Offers ∷ head Levels ∷ []) text line out r in
      record { says = t.says; kept = t.head_kept; whole = t.whole; rest = t.rest; text_is = t.text_is; then = read_members t.says (at_most (length t.says) 16 (not_first t.head_kept.1)) t.rest t.line t.then }

-- the text is that of the contents, whose sections keep the rules
abbrev IsRecord : List ℕ → Contents → Type 0
IsRecord text x = (text ≡ render x) × SectionsWhole x

-- lines in front of the last ones
last_text : (text rest : List ℕ) (ls ms : List (List ℕ)) → text ≡ ended ls ++ rest → rest ≡ ended ms → text ≡ ended (ls ++ ms)
last_text text rest ls ms e f = join_text text rest [] ls ms e (f ∙ sym (append-nil (ended ms))) ∙ append-nil (ended (ls ++ ms))

from_items : (out : Contents) (k : Kind) (text rest : List ℕ) → text ≡ ended (kind_section k) ++ rest → ItemsOn out k rest → IsRecord text out
from_items out k text rest e i =
    let m = i.then in
    let h = m.then in
    let o = h.then in
    let z = o.then in
    subst (IsRecord text) z.then.0 ((
      last_text text rest (kind_section k) _ e
          (last_text rest i.rest (section Items item i.says) _ i.text_is
          (last_text i.rest m.rest (section Members member m.says) _ m.text_is
          (last_text m.rest h.rest (section Holdings holding h.says) _ h.text_is
          (last_text h.rest o.rest (offers_section o.says) _ o.text_is
          (z.text_is ∙ ap (λ r. ended (section Levels level z.says) ++ r) z.then.1 ∙ append-nil _))))),
      record {
        items_kept = i.kept;
        items = i.whole;
        members_kept = m.kept;
        members = m.whole;
        holdings_kept = h.kept;
        holdings = h.whole;
        offers_kept = o.kept;
        offers = o.whole;
        levels_kept = z.kept;
        levels = z.whole;
      },
    ))

record_from_reading : (text : List ℕ) (x : Contents) → ComesTo heads nothing text 1 (reads x) → IsRecord text x
record_from_reading text x r =
    let h = take_line r in
    let k = kind_of h.says in
    let n = kind_parts h.says h.kept.0.0 in
    let w = take_words (words k) (head Items ∷ head Members ∷ head Holdings ∷ head Offers ∷ head Levels ∷ []) (holds k [] [] [] [] []) h.rest h.line x h.then in
    from_items x k text w.rest (cons_text (spell (head Kinds) (parts k)) h.rest w.rest text (words k) (h.text_is ∙ ap (λ m. spell (head Kinds) m ++ 10 ∷ h.rest) n) w.text_is) (read_items x k w.rest w.line w.then)

-- To a text that reads

join : (ls ms : List (List ℕ)) → ended ls ++ ended ms ≡ ended (ls ++ ms)
join ls ms = last_text (ended ls ++ ended ms) (ended ms) ls ms refl refl

words_free : (k : Kind) → AllByRecursion (Free 10) (words k)
words_free by_money = (free_name (codes "money") refl, tt)
words_free by_money_then_weeks = (free_name (codes "money") refl, (free_name (codes "weeks") refl, tt))

kind_again : (k : Kind) → kind_of (parts k) ≡ k
kind_again by_money = refl
kind_again by_money_then_weeks = refl

kind_kept : (k : Kind) → Kept (head Kinds) nothing (parts k)
kind_kept by_money = ((inl refl, (short 1 (omega arith), tt)), refl)
kind_kept by_money_then_weeks = ((inr refl, (short 2 (omega arith), tt)), refl)

-- the lines of the section of the kind, before others
put_kind : (k : Kind) (due : List Slot) (rest : List ℕ) (out : Contents) → ReadsFrom due (holds k [] [] [] [] []) rest out → ReadsFrom (head Kinds ∷ due) nothing (ended (kind_section k) ++ rest) out
put_kind k due rest out r =
    let p = put_words (words k) due (holds k [] [] [] [] []) rest out (words_free k) r in
    let q = subst (λ j. ReadsFrom (map word (words j) ++ due) (holds j [] [] [] [] []) (ended (words k) ++ rest) out) (sym (kind_again k)) p in
    let t = put_line {s = head Kinds} {due = due} {x = nothing} {rest = ended (words k) ++ rest} (parts k) (head_free Kinds (parts k)) (kind_kept k) q in
    subst (λ text. ReadsFrom (head Kinds ∷ due) nothing text out) (cons_text (spell (head Kinds) (parts k)) (ended (words k) ++ rest) rest _ (words k) refl refl) t

module _ (x : Contents) (w : SectionsWhole x) where
  few_items : length x.items ≤ 16
  few_items = at_most (length x.items) 16 (not_first w.items_kept.1)

  few_members : length x.members ≤ 32
  few_members = at_most (length x.members) 32 (not_first w.members_kept.1)

  -- the lines from each section on
  abbrev from_levels : List (List ℕ)
  from_levels = section Levels level x.levels

  abbrev from_offers : List (List ℕ)
  from_offers = offers_section x.offers ++ from_levels

  abbrev from_holdings : List (List ℕ)
  from_holdings = section Holdings holding x.holdings ++ from_offers

  abbrev from_members : List (List ℕ)
  from_members = section Members member x.members ++ from_holdings

  put_levels : ReadsFrom (head Levels ∷ []) (holds x.kind x.items x.members x.holdings x.offers []) (ended from_levels) x
  put_levels = subst (λ text. ReadsFrom (head Levels ∷ []) (holds x.kind x.items x.members x.holdings x.offers []) text x) (append-nil (ended from_levels)) (put_section (levels_list x.kind x.items x.members x.holdings x.offers) Levels (λ n. refl) (λ n. refl) x.levels [] [] x w.levels_kept w.levels (λ line. ends))

  put_offers_section : ReadsFrom (head Offers ∷ head Levels ∷ []) (holds x.kind x.items x.members x.holdings [] []) (ended from_offers) x
  put_offers_section =
      let p = put_offers x.kind x.items x.members x.holdings few_items few_members x.offers (head Levels ∷ []) [] (ended from_levels) x w.offers put_levels in
      let t = put_line {s = head Offers} {due = head Levels ∷ []} {x = holds x.kind x.items x.members x.holdings [] []} {rest = ended (offers_lines x.offers) ++ ended from_levels} (length x.offers) (head_free Offers (length x.offers)) w.offers_kept p in
      subst (λ text. ReadsFrom (head Offers ∷ head Levels ∷ []) (holds x.kind x.items x.members x.holdings [] []) text x) (cons_text (spell (head Offers) (length x.offers)) _ (ended from_levels) _ (offers_lines x.offers) refl refl ∙ join (offers_section x.offers) from_levels) t

  put_holdings : ReadsFrom (head Holdings ∷ head Offers ∷ head Levels ∷ []) (holds x.kind x.items x.members [] [] []) (ended from_holdings) x
  put_holdings = subst (λ text. ReadsFrom (head Holdings ∷ head Offers ∷ head Levels ∷ []) (holds x.kind x.items x.members [] [] []) text x) (join (section Holdings holding x.holdings) from_offers) (put_section (holdings_list x.kind x.items x.members few_items few_members) Holdings (λ n. refl) (λ n. refl) x.holdings (head Offers ∷ head Levels ∷ []) (ended from_offers) x w.holdings_kept w.holdings put_offers_section)

  put_members : ReadsFrom (head Members ∷ head Holdings ∷ head Offers ∷ head Levels ∷ []) (holds x.kind x.items [] [] [] []) (ended from_members) x
  put_members = subst (λ text. ReadsFrom (head Members ∷ head Holdings ∷ head Offers ∷ head Levels ∷ []) (holds x.kind x.items [] [] [] []) text x) (join (section Members member x.members) from_holdings) (put_section (members_list x.kind x.items) Members (λ n. refl) (λ n. refl) x.members (head Holdings ∷ head Offers ∷ head Levels ∷ []) (ended from_holdings) x w.members_kept w.members put_holdings)

  put_items : ReadsFrom (head Items ∷ head Members ∷ head Holdings ∷ head Offers ∷ head Levels ∷ []) (holds x.kind [] [] [] [] []) (ended (section Items item x.items ++ from_members)) x
  put_items = subst (λ text. ReadsFrom (head Items ∷ head Members ∷ head Holdings ∷ head Offers ∷ head Levels ∷ []) (holds x.kind [] [] [] [] []) text x) (join (section Items item x.items) from_members) (put_section (items_list x.kind) Items (λ n. refl) (λ n. refl) x.items (head Members ∷ head Holdings ∷ head Offers ∷ head Levels ∷ []) (ended from_members) x w.items_kept w.items put_members)

  reading_from_record : ReadsFrom heads nothing (render x) x
  reading_from_record = subst (λ text. ReadsFrom heads nothing text x) (join (kind_section x.kind) (section Items item x.items ++ from_members)) (put_kind x.kind (head Items ∷ head Members ∷ head Holdings ∷ head Offers ∷ head Levels ∷ []) (ended (section Items item x.items ++ from_members)) x put_items)

pub reads_records : ReadsRecords
reads_records text x = (
  λ r. let p = record_from_reading text x r.1 in (p.0, valid_from_sections x p.1),
  λ (e, v). let w = sections_from_valid x v in subst (λ t. Reads t x) (sym e) (omega (arith, short_record x v), reading_from_record x w 1),
)

pub one_text : OneText
one_text text other x r q = ((reads_records text x).0 r).0 ∙ sym ((reads_records other x).0 q).0
