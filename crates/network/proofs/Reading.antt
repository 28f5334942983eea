-- What is known of an arc that a walk over a network gives.
use Rattle.std.proofs.Common.{◌≡◌, ℕ, ◌<◌, ◌≤◌, List, [], ◌∷◌, ◌++◌, length, get_or, sym, ap, ◌∙◌, subst, arith, length-append, append_assoc}
use Rattle.std.proofs.Math.Seq.{get_or-append_seam}
use Rattle.std.proofs.lemmas.List.{get_or_read}
use Rattle.flow.specs.declared.arc.Arc.{Arc}
use Rattle.flow.specs.Arcs.{arc_at, blank}
use Rattle.network.specs.Networks.{Net, Sound, SoundArc}

-- a walk has given the arcs seen, and has those left to come
pub record Walk (n : Net) (seen left : List Arc) : Type 0 where
  pub all : seen ++ left ≡ n.arcs

-- a is the arc after those seen
pub record Next (n : Net) (seen : List Arc) (a : Arc) : Type 0 where
  pub here : length seen < length n.arcs
  pub is : a ≡ arc_at n.arcs (length seen)

module _ {n : Net} {seen left left' : List Arc} {a : Arc} (walk : Walk n seen left) (next : left ≡ a ∷ left') where
  around : n.arcs ≡ seen ++ a ∷ left'
  around = sym walk.all ∙ ap (λ l. seen ++ l) next

  pub came : Next n seen a
  came = record {
    here = omega (arith, ap length around, length-append seen (a ∷ left'));
    is = sym (ap (λ l. arc_at l (length seen)) around ∙ get_or-append_seam seen a left' blank);
  }

  pub onward : Walk n (seen ++ a ∷ []) left'
  onward = record { all = append_assoc seen (a ∷ []) left' ∙ sym around }

-- a walk at its end has given each arc
pub ended : {n : Net} {seen left : List Arc} → Walk n seen left → left ≡ [] → length seen ≡ length n.arcs
ended {seen = seen} {left = left} walk over = omega (arith, ap length walk.all, length-append seen left, ap length over)

pub sound_arc : {n : Net} {seen : List Arc} {a : Arc} → Sound n → Next n seen a → SoundArc n.nodes a
sound_arc {n = n} {seen = seen} sound next = subst (SoundArc n.nodes) (sym next.is) (sound.each (length seen) next.here)

pub sound_at : {n : Net} {a : Arc} → Sound n → (k : ℕ) → k < length n.arcs → a ≡ get_or n.arcs k a → SoundArc n.nodes a
sound_at {n = n} {a = a} sound k here is = subst (SoundArc n.nodes) (sym (get_or_read n.arcs k a here is blank)) (sound.each k here)

-- what is sound among n nodes is sound among more
pub among_more : (n m : ℕ) (a : Arc) → n ≤ m → SoundArc n a → SoundArc m a
among_more n m a h s = record { from_in = omega arith; to_in = omega arith; small = s.small; held = s.held; low = s.low; high = s.high; light = s.light }
