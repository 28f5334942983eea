use Rattle.std.proofs.Common.{rules}
use Rattle.answers.proofs.Whole.{taken}
use Rattle.answers.proofs.input.read_text.Goals as goal

pub returns : goal.returns
returns g c = taken (g.R.Read.remaining c.args.input) 32769 c.read_to_end.new.buf.items (search rules)
