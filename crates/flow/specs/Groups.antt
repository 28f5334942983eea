-- A kind of worth as an ordered group: multiples, order and sums.
use Rattle.std.specs.Prelude.{◌≡◌, ℕ, zero, suc, true, false}
use Rattle.worth.specs.Kinds.{Ops, Laws, repeated}

-- the operations of a kind together with their laws, as lemmas take them
pub record Kind (W : Type 0) : Type 0 where
  pub ops : Ops W
  pub laws : Laws ops

-- operations and laws put together
abbrev pub kind : {W : Type 0} (o : Ops W) → Laws o → Kind W
kind o l = record { ops = o; laws = l }

module _ {W : Type 0} (G : Ops W) where
  -- w added n times
  abbrev pub times : ℕ → W → W
  times n w = repeated G.none G.plus n w

  -- x is less than y
  abbrev pub Lt : W → W → Type 0
  Lt x y = G.less x y ≡ true

  -- x is at most y
  abbrev pub Le : W → W → Type 0
  Le x y = G.less y x ≡ false

  -- f 0 + .. + f (n - 1)
  abbrev pub total : ℕ → (ℕ → W) → W
  total zero f = G.none
  total (suc n) f = G.plus (total n f) (f n)
