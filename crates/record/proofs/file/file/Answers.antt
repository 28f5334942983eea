use Rattle.std.proofs.Common.{◌<◌, ◌≤◌, length, take, ap, ◌∙◌, subst}
use Rattle.std.proofs.lemmas.Bool.Decides.{not_from_Decides}
use Rattle.std.proofs.lemmas.List.{take_min}
use Rattle.round.specs.Closed.{closed_book, closed_net, closed_allotment}
use Rattle.record.proofs.Evident.{evident}
use Rattle.record.proofs.Filing.{files_over, files_short, files_copied, roomy_copied}
use Rattle.record.proofs.Passing.{evidence}
use Rattle.round.proofs.Unique.{book_sound}
use Rattle.record.proofs.file.file.Goals as goal

pub returns-then-is_over : goal.returns-then-is_over
returns-then-is_over g c =
    let ws = c.args.levels.now in
    let is = ap (λ n. take n ws) c.min.ensures ∙ take_min _ ws ∙ ap (λ n. take n ws) c.counts-nodes.ensures.0 in
    record { outcome = files_over g.met.W.Levelled.told c.args.round.now ws (take c.min.result ws) is c.args.page.now (c.is_over.ensures.0 c.if-is_over.true); roomy = λ room e. cc; evident = λ fills w f. tt; law = evidence }

pub returns-then-first-nodes : goal.returns-then-first-nodes
returns-then-first-nodes g c =
    let ws = c.args.levels.now in
    let first = (take c.min.result ws) in
    let is = ap (λ n. take n ws) c.min.ensures ∙ take_min _ ws ∙ ap (λ n. take n ws) c.counts-nodes.ensures.0 in
    record { outcome = files_short g.met.W.Levelled.told c.args.round.now ws first is (not_from_Decides _ c.is_over.ensures c.if-is_over.false) c.args.page.now (subst (λ n. length first < n) c.counts-nodes.ensures.0 c.if-first-nodes.true); roomy = λ room e. cc; evident = λ fills w f. tt; law = evidence }

pub returns : goal.returns
returns g c =
    let ws = c.args.levels.now in
    let first = (take c.min.result ws) in
    let is = ap (λ n. take n ws) c.min.ensures ∙ take_min _ ws ∙ ap (λ n. take n ws) c.counts-nodes.ensures.0 in
    let none = not_from_Decides _ c.is_over.ensures c.if-is_over.false in
    let enough = subst (λ n. n ≤ length first) c.counts-nodes.ensures.0 c.if-first-nodes.false in
    let round = c.args.round.now in
    let outcome = files_copied g.met.W.Levelled.told round ws first is none c.of.result.text c.args.page.now c.copy_to.new.page c.copy_to.result enough c.of.ensures c.copy_to.ensures in
    record {
      outcome = outcome;
      roomy = roomy_copied g.met.W.Levelled.told round ws first is none c.of.result.text c.args.page.now c.copy_to.new.page c.copy_to.result enough c.of.ensures c.copy_to.ensures;
      evident = evident g.met.W.Worth.lawful g.met.W.Levelled.told (closed_book round) (closed_allotment round) ws (book_sound (closed_book round) round.round.sound) (closed_net round) c.args.page.now c.copy_to.new.page c.copy_to.result outcome;
      law = evidence;
    }
