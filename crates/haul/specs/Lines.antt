-- The lines that are read and the lines that are written.
use Rattle.std.specs.Prelude.{◌≡◌, ℕ, min, List, ◌∷◌, ◌++◌, ℤ, pos, negsuc, Some, codes, decimal, Result, FitsSigned}
use Rattle.std.specs.Int.{w64}
use Rattle.std.specs.Str.Parse.{IsNumeral, without_leading_sign, signed_digits_value}
use Rattle.std.specs.Fmt.{signed_decimal}
use Rattle.tables.specs.declared.refusal.Refusal.{Refusal}
use Rattle.tables.specs.Refusals.{number, refusal}
use Rattle.flow.specs.declared.arc.Arc.{Arc}
use Rattle.network.specs.Networks.{Net}
use Rattle.flow.specs.Arcs.{fresh}
use Rattle.haul_table.specs.Roads.{Roaded}
use Rattle.haul.specs.declared.reading.Fields.{Fields}
use Rattle.haul.specs.declared.writing.Line.{Line}
use Rattle.haul.specs.declared.writing.Line.TheVariants.{Leg, Money, Weeks, Level, Refused}

-- a word that writes the number z in decimal
pub record Number (word : List ℕ) (z : ℤ) : Type 0 where
  pub numeral : IsNumeral 10 (without_leading_sign word)
  pub fits : FitsSigned w64 (signed_digits_value 10 word)
  pub is : z ≡ signed_digits_value 10 word

-- a text that begins with the number z and a space
pub record Begins (text : List ℕ) (z : ℤ) (rest : List ℕ) : Type 0 where
  pub word : List ℕ
  pub whole : text ≡ word ++ (32 ∷ rest)
  pub number : Number word z

-- a line of five numbers with one space between each two
pub record Written (line : List ℕ) (x : Fields) : Type 0 where
  pub after_from : List ℕ
  pub after_to : List ℕ
  pub after_room : List ℕ
  pub after_price : List ℕ
  pub from : Begins line x.from after_from
  pub to : Begins after_from x.to after_to
  pub room : Begins after_to x.room after_room
  pub price : Begins after_room x.price after_price
  pub weeks : Number after_price x.weeks

-- a number of a field that has none below 0: what is outside of it stays outside its bounds
abbrev pub clamped : ℤ → ℕ
clamped (pos n) = min n 4294967295
clamped (negsuc n) = 4294967295

-- the arc of a row of numbers
abbrev pub arc_of : Fields → Arc
arc_of x = fresh (clamped x.from) (clamped x.to) (clamped x.room) x.price (clamped x.weeks)

-- a line adds its road; it is refused with 13 where it is not five numbers
pub record Taken (before after : Net) (line : List ℕ) (r : Result ℕ Refusal) : Type 0 where
  pub road : (x : Fields) → Written line x → Roaded before after (arc_of x) r
  pub other : ((x : Fields) → Written line x → ⊥) → (refusal r ≡ Some 13) × (after ≡ before)

-- the text of a line
abbrev pub spelled : Line → List ℕ
spelled (Leg number flow) = codes "leg " ++ (decimal number ++ (codes " " ++ decimal flow))
spelled (Money cents) = codes "money " ++ signed_decimal cents
spelled (Weeks count) = codes "weeks " ++ signed_decimal count
spelled (Level node cents count) = codes "level " ++ (decimal node ++ (codes " " ++ (signed_decimal cents ++ (codes " " ++ signed_decimal count))))
spelled (Refused e line) = codes "refused " ++ (decimal (number e) ++ (codes " " ++ decimal line))
