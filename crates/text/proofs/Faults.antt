-- Results with a line beside the refusal.
use Rattle.std.proofs.Common.{◌≡◌, ℕ, List, Some, None, Ok, Err, Option, Result, MatchResult, sym, refl, ap, ◌∙◌, subst}
use Rattle.std.specs.Option.{ok_or}
use Rattle.tables.specs.declared.refusal.Refusal.{Refusal}
use Rattle.tables.specs.declared.refusal.Refusal.TheVariants.{Layout}
use Rattle.text.specs.Faults.{fault_at, result_at}
use Rattle.text.specs.Numbers.{Reads}
use Rattle.text.specs.Parts.{Free, FirstAt, Cut}
use Rattle.text.specs.declared.fault.Fault.{Fault}
use Rattle.text.specs.declared.parts.Parts.{Parts}

-- what was read, without the line
pub ok_from_at : {X : Type 0} (line : ℕ) (r : Result X Refusal) (x : X) → Ok x ≡ result_at line r → r ≡ Ok x
ok_from_at line (Ok y) x e = cc
ok_from_at line (Err d) x e = cc

-- what was refused, with the line
pub err_from_at : {X : Type 0} (line : ℕ) (r : Result X Refusal) (f : Fault) → Err f ≡ result_at line r → (r ≡ Err f.refusal) × (f ≡ fault_at line f.refusal)
err_from_at line (Ok y) f e = absurd (cc e)
err_from_at line (Err d) f e = let h : f ≡ fault_at line d = cc in (ap (λ g. Err g.refusal) (sym h), h ∙ ap (λ g. fault_at line g.refusal) (sym h))

-- where nothing was read, the fault is a departure from the layout at that line
pub layout_fault : {X : Type 0} (P : X → Type 0) (line : ℕ) (r : Result X Refusal) (f : Fault) → Err f ≡ result_at line r → Reads P r → (f ≡ fault_at line Layout) × ((x : X) → P x → ⊥)
layout_fault P line (Ok y) f e h = absurd (cc e)
layout_fault P line (Err d) f e h = (let g : f ≡ fault_at line d = cc in g ∙ ap (fault_at line) h.0, h.1)

-- a cut, where a missing separator is a departure from the layout at that line
pub cut_at_line : (b : ℕ) (bytes : List ℕ) (line : ℕ) (o : Option Parts) (r : Result Parts Fault) → Cut b bytes o → r ≡ result_at line (ok_or o Layout) → MatchResult r (λ p. FirstAt b bytes p.before.now p.after.now) (λ f. (f ≡ fault_at line Layout) × Free b bytes)
cut_at_line b bytes line None r h e = subst (λ r. MatchResult r (λ p. FirstAt b bytes p.before.now p.after.now) (λ f. (f ≡ fault_at line Layout) × Free b bytes)) (sym e) (refl, h)
cut_at_line b bytes line (Some p) r h e = subst (λ r. MatchResult r (λ p. FirstAt b bytes p.before.now p.after.now) (λ f. (f ≡ fault_at line Layout) × Free b bytes)) (sym e) h
