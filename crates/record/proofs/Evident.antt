-- A record that is filed with levels that fit passes.
use Rattle.std.proofs.Common.{◌≡◌, ℕ, ◌<◌, ◌≤◌, List, map, take, drop, ℤ, Ok, Err, Result, sym, refl, ◌∙◌, subst, arith}
use Rattle.std.proofs.Math.Seq.{take-append_seam}
use Rattle.std.proofs.lemmas.List.{get_or-take, length-take-le}
use Rattle.tables.specs.declared.refusal.Refusal.{Refusal}
use Rattle.worth.specs.Kinds.{Ops, Laws}
use Rattle.flow.specs.Groups.{kind}
use Rattle.flow.specs.Graphs as graphs
use Rattle.network.specs.Networks.{Net, flow_in, graph}
use Rattle.network.specs.Potentials.{potential, Fitted}
use Rattle.book.specs.Allotments.{Allotment, Allowed}
use Rattle.book.specs.Arcs.{nodes, filled}
use Rattle.book.specs.Books.{Book, Any, Sound}
use Rattle.book.proofs.Sizes.{graph_sound}
use Rattle.layout.specs.Records.{Kind}
use Rattle.layout.specs.Render.{render}
use Rattle.reading.specs.Levels.{numbers}
use Rattle.reading.specs.declared.level.Level.{Level}
use Rattle.record.specs.Evidence.{LevelsFit, Passes}
use Rattle.record.specs.Files.{filed, Files, Evident}
use Rattle.record.specs.Levels.{Levelled}
use Rattle.record.proofs.Filing.{first_levels, levels_fair, long_levels}
use Rattle.record.proofs.Passing.{same_graph, fits_alike, passes}

module _ {W : Type 0} {o : Ops W} (laws : Laws o) where
  -- only the first potentials count
  fitted_first : (b : Book) (a : Allotment) (row : List W) → Sound b → Fitted o (filled b a) row → Fitted o (filled b a) (take (nodes b) row)
  fitted_first b a row s f =
      let G = kind o laws in
      let N = graph o (filled b a) in
      let there : (v : ℕ) → v < nodes b → potential o row v ≡ potential o (take (nodes b) row) v = λ v l. sym (get_or-take (nodes b) row v o.none l) in
      record {
        enough = omega (arith, length-take-le (nodes b) row f.enough);
        fits = fits_alike G N (potential o row) (potential o (take (nodes b) row)) (flow_in (filled b a)) (subst graphs.Sound (same_graph G b a) (graph_sound o b s)) there f.fits;
        small = λ v l. subst (λ w. o.size w ≤ 1000000) (there v l) (f.small v l);
      }

  module _ {k : Kind} {level : W → Level} {worth : Level → W} (told : Levelled o k level worth) (b : Book) (a : Allotment) (row : List W) (s : Sound b) where
    abbrev zs : List (List ℤ)
    zs = map (λ w. numbers k (level w)) row

    abbrev first : List W
    first = take (nodes b) row

    -- none of the first levels is too large
    pub none_over : Fitted o (filled b a) row → Any (λ w. 1000000 < o.size w) first → ⊥
    none_over f (i, l, over) = omega (arith, over o.none, (fitted_first b a row s f).small i (omega (arith, length-take-le (nodes b) row f.enough, l)))

    pub filed_passes : Allowed b a → Fitted o (filled b a) row → Passes (render (filed k b a zs)) (filed k b a zs)
    filed_passes w f =
        let fair = levels_fair told (nodes b) row first refl (none_over f) in
        let long = long_levels told (nodes b) row first refl (omega (arith, length-take-le (nodes b) row f.enough)) in
        passes k b a (take (nodes b) zs) s w fair long (subst (λ ls. LevelsFit k (filled b a) ls) (first_levels told (nodes b) row first refl) ((told.fitting (filled b a) first).0 (fitted_first b a row s f)))

    pub evident : (n : Net) (before after : List ℕ) (r : Result ℕ Refusal) → Files k b a zs before after r → Evident o k b a n row zs after r
    evident n before after (Ok m) h fills w f =
        let text : take m after ≡ render (filed k b a zs) = (λ i. take (h.outcome.length i) (h.outcome.page i)) ∙ take-append_seam (render (filed k b a zs)) (drop m before) in
        subst (λ t. Passes t (filed k b a zs)) (sym text) (filed_passes w (subst (λ m. Fitted o m row) fills f))
    evident n before after (Err e) h fills w f = tt
