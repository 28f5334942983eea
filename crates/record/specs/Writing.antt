-- What the writers of a record add to a buffer.
use Rattle.std.specs.Prelude.{◌≡◌, ℕ, List, ◌++◌, map, take}
use Rattle.text.specs.declared.buffer.Buffer.{Buffer}
use Rattle.layout.specs.Records.{LineWithUnits}
use Rattle.layout.specs.Layout.{give, spell}
use Rattle.layout.specs.Render.{ended}

-- lines after what was there, as far as they fit into 32,768 bytes
pub record Adds (before after : Buffer) (lines : List (List ℕ)) : Type 0 where
  pub text : after ≡ take 32768 (before ++ ended lines)

-- the lines of a side, with the units on them; those of both sides are spelt alike
abbrev pub side_lines : List LineWithUnits → List (List ℕ)
side_lines ls = map (spell give) ls
