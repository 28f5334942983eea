-- Sheets, and what clearing one does.
use Rattle.std.specs.Prelude.{◌≡◌, ℕ, ◌<◌, ◌⊎◌, List, [], ◌∷◌, ◌++◌, map, length, take, drop, ℤ, Ok, Result, MatchResult}
use Rattle.std.specs.List.{AllByRecursion}
use Rattle.worth.specs.Kinds.{Ops}
use Rattle.worth.specs.Money.{money}
use Rattle.worth.specs.Weeks.{weeks}
use Rattle.worth.specs.Lexicographic.{pile}
use Rattle.network.specs.Networks.{Net}
use Rattle.search.specs.Outcomes as outcomes
use Rattle.tables.specs.Refusals.{number}
use Rattle.tables.specs.declared.refusal.Refusal.{Refusal}
use Rattle.text.specs.declared.fault.Fault.{Fault}
use Rattle.book.specs.Arcs.{nodes, net_of}
use Rattle.book.specs.Books.{Book}
use Rattle.layout.specs.Records.{Kind, by_money, by_money_then_weeks, LineWithUnits, Contents, book_of, contents_of}
use Rattle.layout.specs.Render.{render}
use Rattle.layout.specs.Runs.{Reads, Refused}
use Rattle.round.specs.Uses.{allotted}
use Rattle.record.specs.Evidence.{Passes}

-- no units on any line of a side
abbrev pub Unfilled : List LineWithUnits → Type 0
Unfilled ls = AllByRecursion (λ l. l.units ≡ 0) ls

-- a sheet: no levels, no units, and no withdrawn offer
pub record Sheet (x : Contents) : Type 0 where
  pub unlevelled : length x.levels ≡ 0
  pub unfilled : AllByRecursion (λ o. Unfilled o.give × Unfilled o.get) x.offers
  pub standing : AllByRecursion (λ o. 0 < o.limit) x.offers

-- from a round's network, on which nothing flows, clear comes to the network n and leaves the levels zs: the numbers of the first entries of
-- its work table, one for each node
pub record ClearedTo {W : Type 0} (o : Ops W) (numbers : W → List ℤ) (b : Book) (n : Net) (zs : List (List ℤ)) : Type 0 where
  pub work : List W
  pub work' : List W
  pub sum : W
  pub clears : outcomes.Clearing o (net_of b) n work work' (Ok sum)
  pub levels : zs ≡ map numbers (take (nodes b) work')

-- by the kind
abbrev pub ClearedToBy : Kind → Book → Net → List (List ℤ) → Type 0
ClearedToBy by_money = ClearedTo money (λ w. w.cents ∷ [])
ClearedToBy by_money_then_weeks = ClearedTo (pile money weeks) (λ w. w.first.cents ∷ w.second.count ∷ [])

-- y is the record, of this kind and round, of an allotment and levels that clear comes to, and it passes
pub record Clears (k : Kind) (b : Book) (y : Contents) : Type 0 where
  pub net : Net
  pub levels : List (List ℤ)
  pub cleared : ClearedToBy k b net levels
  pub filled : y ≡ contents_of k b (allotted b net) levels
  pub passes : Passes (render y) y
  pub kind : y.kind ≡ k
  pub book : book_of y ≡ b

-- such a record is at the start of the page, whose other bytes stay, and its length is answered
pub record FiledBest (k : Kind) (b : Book) (before after : List ℕ) (n : ℕ) : Type 0 where
  pub contents : Contents
  pub clears : Clears k b contents
  pub length : n ≡ length (render contents)
  pub page : after ≡ render contents ++ drop n before

-- the page is shorter than some such record (12)
pub record PageShort (k : Kind) (b : Book) (page : List ℕ) (n : ℕ) : Type 0 where
  pub contents : Contents
  pub clears : Clears k b contents
  pub short : length page < length (render contents)
  pub number : n ≡ 12

-- what clearing a round and filing it does; where it is refused nothing changes
abbrev pub ClearedRound : Kind → Book → List ℕ → List ℕ → Result ℕ Refusal → Type 0
ClearedRound k b before after r = MatchResult r (λ n. FiledBest k b before after n) (λ e. (after ≡ before) × PageShort k b before (number e))

-- the text is a sheet, which is cleared and filed
pub record Cleared (text before after : List ℕ) (n : ℕ) : Type 0 where
  pub sheet : Contents
  pub reads : Reads text sheet
  pub is : Sheet sheet
  pub filed : FiledBest sheet.kind (book_of sheet) before after n

-- the text reads but is no sheet (16); no line is to blame
pub record NoSheet (text : List ℕ) (f : Fault) : Type 0 where
  pub contents : Contents
  pub reads : Reads text contents
  pub not : Sheet contents → ⊥
  pub number : number f.refusal ≡ 16
  pub line : f.line ≡ 0

-- it is a sheet, but the page is too short; no line is to blame
pub record NoPage (text page : List ℕ) (f : Fault) : Type 0 where
  pub sheet : Contents
  pub reads : Reads text sheet
  pub is : Sheet sheet
  pub short : PageShort sheet.kind (book_of sheet) page (number f.refusal)
  pub line : f.line ≡ 0

-- what clearing a sheet does; where it is refused nothing changes
abbrev pub Clearing : List ℕ → List ℕ → List ℕ → Result ℕ Fault → Type 0
Clearing text before after r = MatchResult r (λ n. Cleared text before after n) (λ f. (after ≡ before) × (Refused text (number f.refusal) f.line ⊎ (NoSheet text f ⊎ NoPage text before f)))
