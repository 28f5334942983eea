-- Two kinds of worth piled up.
use Rattle.std.specs.Prelude.{◌*◌, max, Bool, true, false, cond}
use Rattle.worth.specs.Kinds.{Ops}
use Rattle.worth.specs.declared.lexicographic.Lexicographic.{Lexicographic}

-- the first decides, and the second where the first is equal
abbrev pub before : {A B : Type 0} → Ops A → Ops B → Lexicographic A B → Lexicographic A B → Bool
before a b x y = cond (a.less x.first y.first) true (cond (a.less y.first x.first) false (b.less x.second y.second))

-- a worth of each kind, piled up
abbrev pub pair : {A B : Type 0} → A → B → Lexicographic A B
pair x y = record { first = x; second = y }

-- part by part; the size is the larger of the two
abbrev pub pile : {A B : Type 0} → Ops A → Ops B → Ops (Lexicographic A B)
pile a b = record {
  none = pair a.none b.none;
  plus = λ x y. pair (a.plus x.first y.first) (b.plus x.second y.second);
  neg = λ x. pair (a.neg x.first) (b.neg x.second);
  less = before a b;
  times = λ n x. pair (a.times n x.first) (b.times n x.second);
  size = λ x. max (a.size x.first) (b.size x.second);
  unit = λ p w. pair (a.unit p w) (b.unit p w);
  height = a.height * b.height;
}
