-- What may be wrong with the lines of an offer.
use Rattle.std.specs.Prelude.{ℕ, ◌<◌, ◌⊎◌, List}
use Rattle.book.specs.Books.{Any}
use Rattle.book.specs.declared.line.Line.{Line}

-- some line of either side has the property
abbrev pub EitherSide : (Line → Type 0) → List Line → List Line → Type 0
EitherSide P give get = Any P give ⊎ Any P get

-- not a limit, which is 1 to 1,000
abbrev pub Out : ℕ → Type 0
Out n = (n < 1) ⊎ (1000 < n)
