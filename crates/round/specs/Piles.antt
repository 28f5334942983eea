-- The kinds of worth that are piled up from money and weeks.
use Rattle.worth.specs.Kinds.{Ops}
use Rattle.worth.specs.Money.{money}
use Rattle.worth.specs.Weeks.{weeks}
use Rattle.worth.specs.Lexicographic.{pile}
use Rattle.worth.specs.declared.money.Money.{Money}
use Rattle.worth.specs.declared.weeks.Weeks.{Weeks}
use Rattle.worth.specs.declared.lexicographic.Lexicographic.{Lexicographic}

-- money, weeks, or two such kinds piled up, the first of which decides
pub data Piled : Type 0 where
  money_alone : Piled
  weeks_alone : Piled
  piled : Piled → Piled → Piled

-- the worths of such a kind
abbrev pub worths : Piled → Type 0
worths money_alone = Money
worths weeks_alone = Weeks
worths (piled a b) = Lexicographic (worths a) (worths b)

-- and its operations
abbrev pub ops_of : (kind : Piled) → Ops (worths kind)
ops_of money_alone = money
ops_of weeks_alone = weeks
ops_of (piled a b) = pile (ops_of a) (ops_of b)
