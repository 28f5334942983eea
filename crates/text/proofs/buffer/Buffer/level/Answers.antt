use Rattle.std.proofs.Common.{sym, ap, ◌∙◌, w64}
use Rattle.std.specs.Fmt.{signed_decimal}
use Rattle.std.proofs.lemmas.Int.{to_z-of_z}
use Rattle.text.specs.NumbersLemmas.{signed_decimal_spelt}
use Rattle.text.proofs.Puts.{put_same}
use Rattle.text.proofs.buffer.Buffer.level.Goals as goal

pub returns-clause-put : goal.returns-clause-put
returns-clause-put c =
    let z = c.args.z in
    put_same (c.as_bytes.ensures.value ∙ c.format.ensures.text ∙ ap signed_decimal (to_z-of_z w64 z c.ranges.z) ∙ signed_decimal_spelt z c.ranges.z) c.put.ensures

pub returns-clause-decimal : goal.returns-clause-decimal
returns-clause-decimal c = sym (signed_decimal_spelt c.args.z c.ranges.z)
