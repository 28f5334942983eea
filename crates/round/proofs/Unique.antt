-- What is true of a round's book is true in one way at most.
use native.Mathlib.Bridge.{le_prop}
use mathlib.Core.Logic.{∥∥₁_elim}
use Rattle.std.proofs.Props.{props}
use Rattle.book.specs.Books.{Book, Sound}

sound_prop : (b : Book) → IsProp (Sound b)
sound_prop b = hlevel (props, le_prop)

pub book_sound : (b : Book) → ∥ Sound b ∥₁ → Sound b
book_sound b s = ∥∥₁_elim s (sound_prop b) (λ p. p)
