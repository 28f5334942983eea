use Rattle.std.proofs.Common.{◌≡◌, ℕ, ◌≤◌, true, List, map, length, Some, None, Option, arith, MatchOption}
use Rattle.std.proofs.lemmas.List.{length-map}
use Rattle.tables.specs.Tables.{Found}
use Rattle.book.specs.Books.{Book}
use Rattle.book.specs.declared.line.Line.{Line}
use Rattle.round.specs.Kept.{offer_of, in_rows, Entered}
use Rattle.round.specs.Rounds.{book, with_offers}
use Rattle.round.specs.declared.entry.Entry.{Entry}
use Rattle.round.proofs.Sides.{entered}
use Rattle.round.proofs.open_round.OpenRound.entry.Goals as goal

either : (b : Book) (ls : List Line) (es : List Entry) (k : ℕ) (r : Option Entry) → in_rows 0 es (length ls) ≡ true → Found es k r → MatchOption r (length (map (offer_of ls) es) ≤ k) (Entered (with_offers b (map (offer_of ls) es)) ls k)
either b ls es k None h f = omega (arith, length-map es (offer_of ls))
either b ls es k (Some e) h f = entered b ls es k e h f.0 f.1

pub returns : goal.returns
returns c =
    let r = c.args.self.now in
    either (book r) r.lines r.offers c.args.offer c.get.result r.rows c.get.ensures
