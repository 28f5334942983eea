-- Arcs with other flows on them, and rows of worths with their first entries written over.
use Rattle.std.proofs.Common.{◌≡◌, ℕ, zero, suc, ◌<◌, ◌≤◌, List, [], ◌∷◌, length, sym, refl, ap, subst, arith}
use Rattle.worth.specs.Kinds.{Ops}
use Rattle.flow.specs.declared.arc.Arc.{Arc}
use Rattle.flow.specs.Arcs.{with_flow, arc_at, flow_of, SameArc, SameArcs}
use Rattle.network.specs.Potentials.{potential}

-- flow u i on arc i
abbrev pub flown : List Arc → (ℕ → ℕ) → List Arc
flown [] u = []
flown (a ∷ ls) u = with_flow (u 0) a ∷ flown ls (λ i. u (suc i))

flown_long : (ls : List Arc) (u : ℕ → ℕ) → length (flown ls u) ≡ length ls
flown_long [] u = refl
flown_long (a ∷ ls) u = ap suc (flown_long ls (λ i. u (suc i)))

flown_at : (ls : List Arc) (u : ℕ → ℕ) (i : ℕ) → i < length ls → arc_at (flown ls u) i ≡ with_flow (u i) (arc_at ls i)
flown_at [] u i l = absurd (omega arith)
flown_at (a ∷ ls) u zero l = refl
flown_at (a ∷ ls) u (suc i) l = flown_at ls (λ i. u (suc i)) i (let m : suc i < suc (length ls) = l in omega arith)

pub flown_flow : (ls : List Arc) (u : ℕ → ℕ) (i : ℕ) → i < length ls → flow_of (flown ls u) i ≡ u i
flown_flow ls u i l = ap (λ a. a.flow) (flown_at ls u i l)

pub flown_same : (ls : List Arc) (u : ℕ → ℕ) → SameArcs ls (flown ls u)
flown_same ls u = record { long = sym (flown_long ls u); each = λ i l. subst (SameArc (arc_at ls i)) (sym (flown_at ls u i l)) (record { from = refl; to = refl; capacity = refl; price = refl; weeks = refl }) }

-- no flow on any arc of a list, and none past its end
pub still : (ls : List Arc) → (i : ℕ) → flow_of (flown ls (λ i. 0)) i ≡ 0
still [] i = refl
still (a ∷ ls) zero = refl
still (a ∷ ls) (suc i) = still ls i

module _ {W : Type 0} where
  -- f v in the place of entry v, of the first n
  abbrev pub written : ℕ → (ℕ → W) → List W → List W
  written zero f xs = xs
  written (suc n) f [] = []
  written (suc n) f (x ∷ xs) = f 0 ∷ written n (λ v. f (suc v)) xs

  pub written_long : (n : ℕ) (f : ℕ → W) (xs : List W) → length (written n f xs) ≡ length xs
  written_long zero f xs = refl
  written_long (suc n) f [] = refl
  written_long (suc n) f (x ∷ xs) = ap suc (written_long n (λ v. f (suc v)) xs)

  pub written_at : (o : Ops W) (n : ℕ) (f : ℕ → W) (xs : List W) (v : ℕ) → n ≤ length xs → v < n → potential o (written n f xs) v ≡ f v
  written_at o zero f xs v h l = absurd (omega arith)
  written_at o (suc n) f [] v h l = absurd (omega arith)
  written_at o (suc n) f (x ∷ xs) zero h l = refl
  written_at o (suc n) f (x ∷ xs) (suc v) h l = written_at o n (λ v. f (suc v)) xs v (let m : suc n ≤ suc (length xs) = h in omega arith) (omega arith)

  pub written_rest : (o : Ops W) (n : ℕ) (f : ℕ → W) (xs : List W) (v : ℕ) → n ≤ v → potential o (written n f xs) v ≡ potential o xs v
  written_rest o zero f xs v h = refl
  written_rest o (suc n) f [] v h = refl
  written_rest o (suc n) f (x ∷ xs) zero h = absurd (omega arith)
  written_rest o (suc n) f (x ∷ xs) (suc v) h = written_rest o n (λ v. f (suc v)) xs v (omega arith)
