use Rattle.std.proofs.Common.{◌≡◌, rules}
use Rattle.text.specs.declared.line.Line.TheVariants as line
use Rattle.reading.proofs.Nexts.{taken, name_to, name_from, name_line}
use Rattle.reading.proofs.next.next_name.Goals as goal

pub returns : goal.returns
returns c =
    taken (λ l n. l ≡ line.Name n) (λ bytes name. name.now ≡ bytes) (λ l t p. search rules) name_to name_from name_line _ c.next.ensures
