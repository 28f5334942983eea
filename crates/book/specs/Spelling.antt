-- How the names of items and members are spelt.
use Rattle.std.specs.Prelude.{◌≡◌, ℕ, ◌≤◌, Bool, true, ◌&&◌, ◌||◌, List, length, ◌==◌, nat_le}
use Rattle.std.specs.List.{list_all}

-- a to z, 0 to 9 and the hyphen
abbrev pub name_byte : ℕ → Bool
name_byte b = (nat_le 97 b && nat_le b 122) || ((nat_le 48 b && nat_le b 57) || b == 45)

-- each byte is one of a name
abbrev pub name_bytes : List ℕ → Bool
name_bytes = list_all name_byte

-- a name has 1 to 12 bytes
abbrev pub Spelt : List ℕ → Type 0
Spelt s = (1 ≤ length s) × (length s ≤ 12) × (name_bytes s ≡ true)
