use Rattle.std.proofs.Common.{sym, ◌∙◌, rules}
use Rattle.text.specs.NumbersLemmas.{decimal_spelt}
use Rattle.text.proofs.Puts.{put_same}
use Rattle.text.proofs.buffer.Buffer.number.Goals as goal

pub returns-clause-put : goal.returns-clause-put
returns-clause-put c = put_same (c.as_bytes.ensures.value ∙ c.format.ensures.text ∙ decimal_spelt c.args.n (search rules)) c.put.ensures

pub returns-clause-decimal : goal.returns-clause-decimal
returns-clause-decimal c = sym (decimal_spelt c.args.n (search rules))
