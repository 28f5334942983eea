-- What a name says.
use Rattle.std.specs.Prelude.{◌≡◌, ℕ, ◌-◌, ◌≤◌, List, ◌++◌, length, take, drop, replicate}
use Rattle.std.proofs.Common.{ap, ◌∙◌, sym, arith, take-append-drop}
use Rattle.std.proofs.lemmas.List.{length-take-le}
use Rattle.terms.specs.declared.name.Name.TheInside.{Inside}

-- the letters of a name
abbrev pub letters : Inside → List ℕ
letters n = take n.len n.bytes

-- the bytes past the letters are 0
abbrev pub Padded : Inside → Type 0
Padded n = (length n.bytes ≡ 12) × (n.len ≤ 12) × (drop n.len n.bytes ≡ replicate (12 - n.len) 0)

-- the bytes and the count of these letters
abbrev pub padded : List ℕ → Inside
padded s = record { bytes = s ++ replicate (12 - length s) 0; len = length s }

-- which are the name's own
pub padded_again : (n : Inside) → Padded n → padded (letters n) ≡ n
padded_again n p =
    let long = length-take-le n.len n.bytes (omega (arith, p)) in
    let rest = ap (λ k. replicate (12 - k) 0) long ∙ sym p.2 in
    let b = ap (λ xs. take n.len n.bytes ++ xs) rest ∙ take-append-drop n.len n.bytes in
    λ i. record { bytes = b i; len = long i }
