use Rattle.std.proofs.Common.{◌+◌, ◌≤◌, [], ◌∷◌, ◌++◌, length, ap, ◌∙◌, arith}
use Rattle.std.proofs.lemmas.List.{take_all}
use Rattle.book.specs.Arcs.{holding_arcs, no_flows}
use Rattle.round.proofs.Sounds.{few_holdings}
use Rattle.round.proofs.Calls.{went_in}
use Rattle.round.proofs.Drawn.{holding_room, holding_more}
use Rattle.round.proofs.open_round.OpenRound.add_holdings.Goals as goal

pub unwrap-requires : goal.unwrap-requires
unwrap-requires c =
    let hs = c.as_slice-h-items.result.now in
    let room : length c.args.arcs.now + length hs ≤ 448 = omega (arith, ap length c.as_slice-h-items.ensures, few_holdings c.args.self.now) in
    went_in 448 c.loop-k.arcs c.push.new.self (c.new-arc.result ∷ []) c.push.result c.push.ensures
    (omega (arith, holding_room c.len-items.result hs c.loop-k.k c.args.arcs.now c.loop-k.arcs c.loop-k-test.true room c.loop-k.invariant))

pub loop-k-preserved : goal.loop-k-preserved
loop-k-preserved c =
    let hs = c.as_slice-h-items.result.now in
    let room : length c.args.arcs.now + length hs ≤ 448 = omega (arith, ap length c.as_slice-h-items.ensures, few_holdings c.args.self.now) in
    holding_more c.len-items.result hs c.loop-k.k c.args.arcs.now c.loop-k.arcs c.loop-k-test.true room c.loop-k.invariant c.push.new.self c.new-arc.result c.push.result c.new-arc.ensures c.push.ensures

pub returns : goal.returns
returns c =
    let start = c.args.arcs.now in
    let hs = c.as_slice-h-items.result.now in
    c.loop-k.invariant ∙ ap (λ xs. start ++ holding_arcs c.len-items.result xs no_flows.held) (take_all c.loop-k.k hs (omega arith) ∙ c.as_slice-h-items.ensures)
    ∙ ap (λ n. start ++ holding_arcs n c.args.self.now.holdings no_flows.held) c.len-items.ensures.count
