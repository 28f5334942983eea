use Rattle.std.proofs.Common.{◌≡◌, rules}
use Rattle.text.specs.declared.line.Line.TheVariants as line
use Rattle.reading.specs.Reading.{IsHead}
use Rattle.reading.proofs.Nexts.{taken, head_to, head_from, head_line}
use Rattle.reading.proofs.next.next_head.Goals as goal

pub returns : goal.returns
returns c =
    let s = c.args.section in
    taken (λ l n. l ≡ line.Head s n) (IsHead s) (λ l t p. search rules) (head_to s) (head_from s) (head_line s) _ c.next.ensures
