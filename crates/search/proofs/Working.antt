-- The first entries of a work table, and the rest.
use Rattle.std.proofs.Common.{◌≡◌, ℕ, zero, suc, ◌-◌, ◌<◌, ◌≤◌, List, [], ◌∷◌, ◌++◌, length, get_or, drop, replicate, None, Ok, Option, sym, ap, ◌∙◌, subst, subst₂, ⊎_elim, arith, length-append, length-drop, Some}
use Rattle.std.specs.List.{FoldsTo}
use lib.ListN.{length-replicate, get_or-replicate}
use Rattle.std.proofs.lemmas.List.{get_or_append_left, get_or-append_right, get_or-drop, get_or_past}
use Rattle.std.proofs.lemmas.Bool.{cases_lt}
use Rattle.worth.specs.Kinds.{Ops}
use Rattle.flow.specs.Groups.{Le}
use Rattle.network.specs.Networks.{Net, Sound, graph}
use Rattle.flow.specs.declared.step.Step.{Step}
use Rattle.search.specs.Links.{link}
use Rattle.search.specs.Outcomes.{Improving, Beyond}
use Rattle.network.specs.Potentials.{potential, Fitted}

pub none_yet : (n v : ℕ) → link (replicate n None) v ≡ None
none_yet n v = ⊎_elim (λ l. get_or-replicate n v None None l) (λ l. get_or_past (replicate n None) v None (omega (arith, length-replicate {A = Option Step} n None))) (cases_lt v n)

module _ {W : Type 0} (o : Ops W) where
  module _ (n : Net) (sound : Sound n) (work ys : List W) (k : ℕ) (is : k ≡ n.nodes) (enough : n.nodes ≤ length work) (long : length ys ≡ k) where
    first_at : (v : ℕ) → v < n.nodes → potential o (ys ++ drop k work) v ≡ potential o ys v
    first_at v h = get_or_append_left ys (drop k work) o.none v (omega arith)

    pub beyond : Beyond o n.nodes work (ys ++ drop k work)
    beyond = record {
      enough = enough;
      long = length-append ys (drop k work) ∙ (let q = length-drop k work in omega arith);
      rest = λ v h. get_or-append_right ys (drop k work) k v o.none long (omega arith) ∙ get_or-drop k work (v - k) o.none ∙ ap (λ i. get_or work i o.none) (omega arith);
    }

    pub fitted : Fitted o n ys → Fitted o n (ys ++ drop k work)
    fitted f = record {
      enough = let b = beyond.enough in let l = beyond.long in omega arith;
      fits = λ i l. (λ r. subst₂ (λ a b. Le o (o.plus a ((graph o n).unit i)) b) (sym (first_at ((graph o n).frm i) (sound.each i l).from_in)) (sym (first_at ((graph o n).to i) (sound.each i l).to_in)) ((f.fits i l).0 r), λ r. subst₂ (λ a b. Le o b (o.plus a ((graph o n).unit i))) (sym (first_at ((graph o n).frm i) (sound.each i l).from_in)) (sym (first_at ((graph o n).to i) (sound.each i l).to_in)) ((f.fits i l).1 r));
      small = λ v h. subst (λ a. o.size a ≤ 1000000) (sym (first_at v h)) (f.small v h);
    }

    pub widened : (after : Net) (part : List W) (r : Option W) → Improving o n after part ys (Ok r) → Improving o n after work (ys ++ drop k work) (Ok r)
    widened after part (Some x) w = (w.0, λ v h. first_at v h ∙ w.1 v h, beyond)
    widened after part None w = (w.0, fitted w.1, beyond, w.3)

-- a work table with just one entry for each node has none beyond
pub beyond_none : {W : Type 0} (o : Ops W) (nodes : ℕ) (work work' : List W) → length work ≡ nodes → length work' ≡ length work → Beyond o nodes work work'
beyond_none o nodes work work' e f = record { enough = omega arith; long = f; rest = λ v h. get_or_past work' v o.none (omega arith) ∙ sym (get_or_past work v o.none (omega arith)) }

-- a row written by calls that each gave a
pub filled : {F A : Type 0} (R : F → A → F → Type 0) (a : A) → ((f : F) (x : A) (f' : F) → R f x f' → x ≡ a) → (xs : List A) (f last : F) → FoldsTo R f xs last → (v : ℕ) → get_or xs v a ≡ a
filled R a h [] f last r v = get_or_past [] v a (omega arith)
filled R a h (x ∷ xs) f last r zero = h f x r.0 r.1
filled R a h (x ∷ xs) f last r (suc v) = filled R a h xs r.0 last r.2 v
