use Rattle.std.proofs.Common.{◌≡◌, ℕ, ◌+◌, ◌<◌, List, map, length, get_or, take, sym, ap, ◌∙◌, subst, subst₂, rules, arith}
use Rattle.std.specs.List.{ContainsAt as Has, enumerate_from}
use Rattle.std.proofs.lemmas.Bool.Decides.{Decides-like}
use Rattle.std.proofs.lemmas.Iterator.{YieldsList-from_slice, cases_from_any}
use Rattle.std.proofs.lemmas.Iterator.Consumers.{YieldsList-from_enumerate}
use Rattle.std.proofs.lemmas.List.{get_or-map, get_or-take, get_or_default, length-map, length-take, take-map}
use Rattle.std.proofs.lemmas.List.FromFn.{length-enumerate_from, get_or-enumerate_from}
use Rattle.book.specs.Books.{no_line, Any, Twice, item_of}
use Rattle.book.specs.declared.line.Line.{Line}
use Rattle.terms.proofs.Tests.{any_decides}
use Rattle.terms.proofs.lines.is_doubled.Goals as goal

module _ (ls : List Line) where
  abbrev js : List ℕ
  js = map item_of ls

  -- the item of a numbered line stands before it
  abbrev Again : ℕ × Line → Type 0
  Again p = Has (map item_of (take p.0 ls)) p.1.item

  -- an earlier entry with the same number
  abbrev Earlier : ℕ → Type 0
  Earlier j = (i : ℕ) × (i < j) × ((d : ℕ) → get_or js i d ≡ get_or js j d)

  module _ (j : ℕ) (z : Line) (l : j < length ls) where
    same : map item_of (take (0 + j) ls) ≡ take j js
    same = let e : 0 + j ≡ j = omega arith in sym (take-map item_of (0 + j) ls) ∙ ap (λ k. take k js) e

    item : (get_or ls j z).item ≡ get_or js j 0
    item = sym (get_or-map item_of ls j z 0 l)

    long : j < length js
    long = omega (arith, length-map ls item_of)

    found : Again (0 + j, get_or ls j z) → Earlier j
    found a =
        let h = subst₂ Has same item a in
        let lt : h.0 < j = omega (arith, h.1, length-take j js) in
        (h.0, lt, λ d. sym (get_or-take j js h.0 d lt) ∙ h.2 d ∙ get_or_default js j 0 d long)

    missed : Earlier j → Again (0 + j, get_or ls j z)
    missed (i, lt, h) = subst₂ Has (sym same) (sym item) (i, omega (arith, lt, long, length-take j js), λ d. get_or-take j js i d lt ∙ h d ∙ get_or_default js j d 0 long)

  twice : Any Again (enumerate_from 0 ls) → Twice js
  twice (j, l, h) =
      let lt : j < length ls = omega (arith, length-enumerate_from 0 ls) in
      let f = found j no_line lt (subst Again (get_or-enumerate_from 0 ls j (0, no_line) lt) (h (0, no_line))) in
      (j, long j no_line lt, f.0, f.1, f.2)

  again : Twice js → Any Again (enumerate_from 0 ls)
  again (j, l, i, lo, e) =
      let lt : j < length ls = omega (arith, length-map ls item_of) in
      (j, omega (arith, length-enumerate_from 0 ls), λ d. subst Again (sym (get_or-enumerate_from 0 ls j d lt)) (missed j d.1 lt (i, lo, e)))

pub returns : goal.returns
returns c =
    let ls = c.args.ls.now in
    Decides-like c.any.result (twice ls) (again ls) (any_decides (Again ls) _ _ (cases_from_any _ _ _ (Again ls) (λ p. Again ls p → ⊥) c.any.ensures.ran (YieldsList-from_enumerate (YieldsList-from_slice ls (cc)) (cc)) (λ x q k. search rules) (λ x q k. search rules)))
