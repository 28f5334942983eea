-- Lists of arcs that differ in nothing but their flows are the same network.
use Rattle.std.proofs.Common.{◌≡◌, ℕ, ◌<◌, ◌≤◌, List, length, set, sym, refl, ap, ◌∙◌, subst, subst₂, ⊎_elim, arith}
use Rattle.std.proofs.lemmas.List.{get_or_past, length-set, get_or-set_same, get_or-set_other}
use Rattle.std.proofs.lemmas.Bool.{cases_lt, cases_eq}
use Rattle.flow.specs.Groups.{Kind}
use Rattle.flow.specs.Arcs.{blank, arc_at, SameArc, SameArcs, net}
use Rattle.flow.specs.declared.arc.Arc.{Arc}

pub same_arc_refl : (a : Arc) → SameArc a a
same_arc_refl a = record { from = refl; to = refl; capacity = refl; price = refl; weeks = refl }

pub same_refl : (ls : List Arc) → SameArcs ls ls
same_refl ls = record { long = refl; each = λ i l. same_arc_refl (arc_at ls i) }

pub same_trans : (ls ms ks : List Arc) → SameArcs ls ms → SameArcs ms ks → SameArcs ls ks
same_trans ls ms ks p q = record {
  long = p.long ∙ q.long;
  each = λ i l. let a = p.each i l in let b = q.each i (subst (λ n. i < n) p.long l) in record { from = a.from ∙ b.from; to = a.to ∙ b.to; capacity = a.capacity ∙ b.capacity; price = a.price ∙ b.price; weeks = a.weeks ∙ b.weeks };
}

-- past the end both are blank
pub same_all : (ls ms : List Arc) → SameArcs ls ms → (i : ℕ) → SameArc (arc_at ls i) (arc_at ms i)
same_all ls ms s i = ⊎_elim (s.each i) past (cases_lt i (length ls))
  where
    past : length ls ≤ i → SameArc (arc_at ls i) (arc_at ms i)
    past h =
        let e = s.long in
        subst₂ SameArc (sym (get_or_past ls i blank h)) (sym (get_or_past ms i blank (omega arith))) (same_arc_refl blank)

-- an arc with flow k
abbrev pub with_flow : Arc → ℕ → Arc
with_flow a k = record { from = a.from; to = a.to; capacity = a.capacity; flow = k; price = a.price; weeks = a.weeks }

same_with : (a : Arc) (k : ℕ) → SameArc a (with_flow a k)
same_with a k = record { from = refl; to = refl; capacity = refl; price = refl; weeks = refl }

pub pushed_same : (ls : List Arc) (j k : ℕ) → j < length ls → SameArcs ls (set ls j (with_flow (arc_at ls j) k))
pushed_same ls j k l = record { long = sym (length-set ls j (with_flow (arc_at ls j) k)); each = each }
  where
    each : (i : ℕ) → i < length ls → SameArc (arc_at ls i) (arc_at (set ls j (with_flow (arc_at ls j) k)) i)
    each i h = ⊎_elim (λ e. subst₂ SameArc (ap (arc_at ls) (sym e)) (sym (ap (arc_at (set ls j (with_flow (arc_at ls j) k))) e ∙ get_or-set_same ls j (with_flow (arc_at ls j) k) blank l)) (same_with (arc_at ls j) k)) (λ d. subst (SameArc (arc_at ls i)) (sym (get_or-set_other ls j i (with_flow (arc_at ls j) k) blank d)) (same_arc_refl (arc_at ls i))) (cases_eq i j)

module _ {W : Type 0} (G : Kind W) where
  -- the same network
  pub net_same : (n : ℕ) (ls ms : List Arc) → SameArcs ls ms → net G.ops n ls ≡ net G.ops n ms
  net_same n ls ms s = λ j. record {
    nodes = n;
    arcs = s.long j;
    frm = λ i. (same_all ls ms s i).from j;
    to = λ i. (same_all ls ms s i).to j;
    capacity = λ i. (same_all ls ms s i).capacity j;
    unit = λ i. G.ops.unit ((same_all ls ms s i).price j) ((same_all ls ms s i).weeks j);
  }
