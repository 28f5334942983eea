-- Refusals with the line that they were met at.
use Rattle.std.specs.Prelude.{ℕ, List, ◌++◌, Ok, Err, codes, decimal, Result}
use Rattle.tables.specs.Refusals.{described}
use Rattle.tables.specs.declared.refusal.Refusal.{Refusal}
use Rattle.text.specs.declared.fault.Fault.{Fault}

-- a refusal at a line
abbrev pub fault_at : ℕ → Refusal → Fault
fault_at line e = record { refusal = e; line = line }

-- the text of a fault: its line, and its refusal's number and name
abbrev pub fault_described : Fault → List ℕ
fault_described f = codes "line " ++ (decimal f.line ++ (codes ": refused, " ++ described f.refusal))

-- the same result, a refusal with the line beside it
abbrev pub result_at : {X : Type 0} → ℕ → Result X Refusal → Result X Fault
result_at line (Ok x) = Ok x
result_at line (Err e) = Err (fault_at line e)
