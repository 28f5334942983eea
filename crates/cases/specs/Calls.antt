-- Calls made one after another, and what they come back with.
use Rattle.std.specs.Prelude.{◌≡◌, ℕ, List, [], ◌∷◌, ℤ, Ok, Err, Result}
use Rattle.tables.specs.Refusals.{number}
use Rattle.tables.specs.declared.refusal.Refusal.{Refusal}
use Rattle.flow.specs.declared.arc.Arc.{Arc}
use Rattle.network.specs.Networks.{Net}
use Rattle.book.specs.Books.{Book}
use Rattle.book.specs.declared.line.Line.{Line}
use Rattle.round.specs.Rounds.{fresh}
use Rattle.round.specs.Naming.{TakesItem, TakesMember}
use Rattle.round.specs.Holdings.{Holds}
use Rattle.round.specs.Offering.{made, TakesOffer}
use Rattle.round.specs.Closed.{Closes}
use Rattle.round.specs.Questions.{AnswersPayoff}
use Rattle.round.specs.Uses.{allotted}
use Rattle.haul_table.specs.Roads.{empty, Roaded}

-- what a call comes back with: the number of what it made, nothing, or the number of a refusal
pub data Answer : Type 0 where
  numbered : ℕ → Answer
  done : Answer
  refused : ℕ → Answer

-- the answer of a call that numbers what it makes
abbrev pub with_number : Result ℕ Refusal → Answer
with_number (Ok k) = numbered k
with_number (Err e) = refused (number e)

-- the answer of a call that makes nothing
abbrev pub with_nothing : Result (Unit {0}) Refusal → Answer
with_nothing (Ok x) = done
with_nothing (Err e) = refused (number e)

-- calls one after another on what the calls before have left, each with its answer; `Does` is what one call does
pub data Run {S C : Type 0} (Does : S → C → Answer → S → Type 0) : S → List C → List Answer → S → Type 0 where
  stopped : {s : S} → Run Does s [] [] s
  went : {s t u : S} {c : C} {cs : List C} {a : Answer} {told : List Answer} → Does s c a t → Run Does t cs told u → Run Does s (c ∷ cs) (a ∷ told) u

-- the calls can come back with these answers; and however they go they come back with them, and P holds of what they leave
pub record Lead {S C : Type 0} (Does : S → C → Answer → S → Type 0) (s : S) (calls : List C) (answers : List Answer) (P : S → Type 0) : Type 0 where
  pub some : (t : S) × Run Does s calls answers t
  pub every : (told : List Answer) (t : S) → Run Does s calls told t → (told ≡ answers) × P t

-- the calls of an open round that build one
pub data Call : Type 0 where
  item : List ℕ → Call
  member : List ℕ → Call
  hold : ℕ → ℕ → ℕ → Call
  offer : ℕ → ℕ → List Line → List Line → Call

-- what each does to the book, as its own contract says
abbrev pub Calls : Book → Call → Answer → Book → Type 0
Calls b (item s) a t = (r : Result ℕ Refusal) × TakesItem b t s r × (a ≡ with_number r)
Calls b (member s) a t = (r : Result ℕ Refusal) × TakesMember b t s r × (a ≡ with_number r)
Calls b (hold m i units) a t = (r : Result (Unit {0}) Refusal) × Holds b t (record { member = m; item = i; units = units }) r × (a ≡ with_nothing r)
Calls b (offer m limit give get) a t = (r : Result ℕ Refusal) × TakesOffer b t (made m limit give get) r × (a ≡ with_number r)

-- from open on the calls come back so, and P holds of the book that they leave
abbrev pub Built : List Call → List Answer → (Book → Type 0) → Type 0
Built calls answers P = Lead Calls fresh calls answers P

-- a round with this book can be closed, and P holds of the book and the network that it then has
pub record Close (b : Book) (P : Book → Net → Type 0) : Type 0 where
  pub some : (after : Book) × (n : Net) × Closes b after n
  pub every : (after : Book) (n : Net) → Closes b after n → P after n

-- the same of a round that is closed after the calls
abbrev pub ClosedWith : List Call → List Answer → (Book → Net → Type 0) → Type 0
ClosedWith calls answers P = Built calls answers (λ b. Close b P)

-- and where P speaks of its network alone
abbrev pub Closed : List Call → List Answer → (Net → Type 0) → Type 0
Closed calls answers P = ClosedWith calls answers (λ b n. P n)

-- a closed round with this book and this network can answer payoff of offer k, and however it answers, it answers p
pub record Pays (b : Book) (n : Net) (k : ℕ) (p : ℤ × ℕ) : Type 0 where
  pub some : (r : Result (ℤ × ℕ) Refusal) × AnswersPayoff b (allotted b n) k r
  pub every : (r : Result (ℤ × ℕ) Refusal) → AnswersPayoff b (allotted b n) k r → r ≡ Ok p

-- what road does to a haul table, as its contract says
abbrev pub Roads : Net → Arc → Answer → Net → Type 0
Roads n a answer t = (r : Result ℕ Refusal) × Roaded n t a r × (answer ≡ with_number r)

-- on a new haul table the calls of road come back so, and P holds of its network
abbrev pub Hauled : List Arc → List Answer → (Net → Type 0) → Type 0
Hauled roads answers P = Lead Roads empty roads answers P
