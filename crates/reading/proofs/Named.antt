-- The lines of names, and the names that a round takes.
use Rattle.std.proofs.Common.{◌≡◌, ℕ, ◌<◌, ◌≤◌, ◌⊎◌, List, length, IfOk, Some, Ok, Err, codes, Option, Result, sym, refl, ap, ◌∙◌, subst, inl, inr, arith, Bor}
use mathlib.Core.Logic.{∥∥₁_elim}
use native.Mathlib.Bridge.{le_prop}
use Rattle.tables.specs.Refusals.{First, number}
use Rattle.tables.specs.declared.refusal.Refusal.{Refusal}
use Rattle.tables.specs.declared.refusal.Refusal.TheVariants.{Layout, Spelling}
use Rattle.tables.proofs.Firsts.{here, next}
use Rattle.book.specs.Books.{Book}
use Rattle.book.specs.Spelling.{Spelt}
use Rattle.round.specs.Rounds.{book}
use Rattle.round.specs.declared.open_round.OpenRound.{OpenRound}
use Rattle.round.specs.Naming.{naming, TakesItem, TakesMember}
use Rattle.layout.specs.Layout.{word, item, member, rules, with_line}
use Rattle.layout.specs.Records.{Contents}
use Rattle.reading.specs.Held.{held}
use Rattle.reading.specs.Reading.{SameTested}
use Rattle.reading.specs.declared.kind.Kind.{Kind}
use Rattle.reading.specs.declared.level.Level.{Level}
use Rattle.reading.proofs.Steps.{Lies, Judged}

-- the bytes of a line are the name
abbrev pub IsName : List ℕ → Bor (List ℕ) → Type 0
IsName bytes name = name.now ≡ bytes

-- each name can be referred to
pub referred : (at : Bor (List ℕ)) (name : List ℕ) → (v : Bor (List ℕ)) × IsName name v
referred at name = (record { ref_ptr = at.ref_ptr; now = name }, refl)

-- the word of a kind, or another
pub word_judged : (w : List ℕ) (x : Contents) (name : Bor (List ℕ)) (r : Result (Unit {0}) Refusal) → SameTested name.now w Layout r → Judged (word w) x IsName name (λ _. tt) r
word_judged w x name (Ok u) e = (record { spells = λ bytes i. sym i ∙ e; fits = tt }, refl)
word_judged w x name (Err d) (e, not) = inl (e, λ _ _ i. not i)

-- the first item is cash, or another name
pub cash_judged : (x : Contents) → length x.items ≡ 0 → (name : Bor (List ℕ)) (r : Result (Unit {0}) Refusal) → SameTested name.now (codes "cash") Spelling r → Judged item x IsName name (λ _. codes "cash") r
cash_judged x none name (Ok u) e = (record { spells = λ bytes i. sym i ∙ e; fits = tt }, next ill (next (λ h. omega (arith, h.1)) refl))
  where
    ill : (Spelt (codes "cash") → ⊥) ⊎ ((length x.items ≡ 0) × (codes "cash" ≡ codes "cash" → ⊥)) → ⊥
    ill (inl f) = f (omega arith, omega arith, refl)
    ill (inr (z, g)) = g refl
cash_judged x none name (Err d) (e, not) = inr (name.now, record { spells = λ bytes i. sym i; fits = tt }, subst (λ d. First (rules item x name.now) (Some (number d))) (sym e) (here (inr (none, not))))

-- a round has an item, cash
pub some_item : (r : OpenRound) → 1 ≤ length (book r).items
some_item r = ∥∥₁_elim r.sound le_prop (λ s. omega (arith, s.cash.0))

-- where there is room, a list of names refuses what the rules do
pub member_rules : (x : Contents) (name : List ℕ) (o : Option ℕ) → length x.members < 32 → First (naming 32 x.members name) o → First (rules member x name) o
member_rules x name o few f = f.1 (λ h. omega arith)

pub item_rules : (x : Contents) (name : List ℕ) (o : Option ℕ) → 1 ≤ length x.items → length x.items < 16 → First (naming 16 x.items name) o → First (rules item x name) o
item_rules x name o some few f =
    let v = f.1 (λ h. omega arith) in
    (λ p. v.0 (ill p), λ g. v.1 (λ p. g (inl p)))
  where
    ill : (Spelt name → ⊥) ⊎ ((length x.items ≡ 0) × (name ≡ codes "cash" → ⊥)) → Spelt name → ⊥
    ill (inl f) = f
    ill (inr (z, g)) = absurd (omega arith)

-- a name on a line
pub item_lies : (x : Contents) (name : Bor (List ℕ)) → Lies item x IsName name name.now
item_lies x name = record { spells = λ bytes i. sym i; fits = tt }

pub member_lies : (x : Contents) (name : Bor (List ℕ)) → Lies member x IsName name name.now
member_lies x name = record { spells = λ bytes i. sym i; fits = tt }

-- a name that was taken is held
pub item_held : (k : Kind) (us : List ℕ) (ls : List Level) (b after : Book) (name : List ℕ) (r : Result ℕ Refusal) → TakesItem b after name r → IfOk r (λ _. with_line item name (held k b us ls) ≡ held k after us ls)
item_held k us ls b after name (Ok n) t = ap (λ c. held k c us ls) (sym t.outcome.1)
item_held k us ls b after name (Err d) t = tt

pub member_held : (k : Kind) (us : List ℕ) (ls : List Level) (b after : Book) (name : List ℕ) (r : Result ℕ Refusal) → TakesMember b after name r → IfOk r (λ _. with_line member name (held k b us ls) ≡ held k after us ls)
member_held k us ls b after name (Ok n) t = ap (λ c. held k c us ls) (sym t.outcome.1)
member_held k us ls b after name (Err d) t = tt
