-- The sections of a record and the letters that open them.
use Rattle.std.specs.Prelude.{◌≡◌, ℕ, Result}
use Rattle.tables.specs.declared.refusal.Refusal.{Refusal}
use Rattle.text.specs.Numbers.{Reads}
use Rattle.text.specs.declared.section.Section.{Section}
use Rattle.text.specs.declared.section.Section.TheVariants.{Kinds, Items, Members, Holdings, Offers, Levels}

-- K, I, M, H, O and L
abbrev pub letter : Section → ℕ
letter Kinds = 75
letter Items = 73
letter Members = 77
letter Holdings = 72
letter Offers = 79
letter Levels = 76

-- the section that the letter opens, or a departure from the layout where it opens no section
abbrev pub Opened : ℕ → Result Section Refusal → Type 0
Opened b r = Reads (λ s. letter s ≡ b) r
