use Rattle.std.proofs.Common.{length, Ok, refl, ap, arith}
use Rattle.std.proofs.lemmas.List.{length-append}
use Rattle.tables.proofs.Entries.{grew}
use mathlib.Core.Logic.{∥∥₁_map}
use Rattle.std.proofs.lemmas.Result.{err_from_is_err_and}
use Rattle.round.specs.Offering.{made}
use Rattle.round.specs.Rounds.{book}
use Rattle.round.proofs.Calls.{went_in, fits, offer_taken}
use Rattle.round.proofs.Sounds.{sound_offer}
use Rattle.round.proofs.Standing.{round_law}
use Rattle.round.proofs.open_round.OpenRound.offer.Goals as goal

pub returns-in_err-test : goal.returns-in_err-test
returns-in_err-test c =
    let p = err_from_is_err_and c.from_residual.result c.from_residual.ensures.1 in
    rw (p.1, p.2) (record { outcome = record { refused = c.in_err-test.ensures; outcome = refl }; law = round_law })

pub unwrap-requires : goal.unwrap-requires
unwrap-requires c =
    let r = c.args.self.now in
    let room = fits (book r) r.offers r.lines c.args.give.now c.args.get.now c.args.member c.args.limit r.rows c.in_ok-test.ensures in
    went_in 256 r.lines c.extend.new.self c.args.give.now c.extend.result c.extend.ensures (omega arith)

pub unwrap-requires-2 : goal.unwrap-requires-2
unwrap-requires-2 c =
    let r = c.args.self.now in
    let room = fits (book r) r.offers r.lines c.args.give.now c.args.get.now c.args.member c.args.limit r.rows c.in_ok-test.ensures in
    let more = grew 256 r.lines c.extend.new.self c.args.give.now c.extend.result c.extend.ensures (omega arith) in
    went_in 256 c.extend.new.self c.extend-2.new.self c.args.get.now c.extend-2.result c.extend-2.ensures (omega (arith, ap length more, length-append r.lines c.args.give.now))

pub unwrap-requires-3 : goal.unwrap-requires-3
unwrap-requires-3 c =
    let r = c.args.self.now in
    let room = fits (book r) r.offers r.lines c.args.give.now c.args.get.now c.args.member c.args.limit r.rows c.in_ok-test.ensures in
    went_in 64 r.offers c.push.new.self _ c.push.result c.push.ensures (omega arith)

pub invariant_of-self : goal.invariant_of-self
invariant_of-self c =
    let r = c.args.self.now in
    let give = c.args.give.now in
    let get = c.args.get.now in
    let m = c.args.member in
    let l = c.args.limit in
    let taken = offer_taken (book r) r.offers r.lines give get m l r.rows c.in_ok-test.ensures c.push.new.self c.extend.new.self c.extend-2.new.self c.len-first.result
    c.extend.result c.extend-2.result c.push.result c.len-first.ensures.count c.extend.ensures c.extend-2.ensures c.push.ensures c.len-n.result c.len-n.ensures.count in
    record { sound = ∥∥₁_map r.sound (sound_offer (book r) _ (made m l give get) (Ok c.len-n.result) taken.1); rows = taken.0 }

pub returns : goal.returns
returns c =
    let r = c.args.self.now in
    let taken = offer_taken (book r) r.offers r.lines c.args.give.now c.args.get.now c.args.member c.args.limit r.rows c.in_ok-test.ensures c.push.new.self c.extend.new.self c.extend-2.new.self c.len-first.result
    c.extend.result c.extend-2.result c.push.result c.len-first.ensures.count c.extend.ensures c.extend-2.ensures c.push.ensures c.len-n.result c.len-n.ensures.count in
    record { outcome = taken.1; law = round_law }
