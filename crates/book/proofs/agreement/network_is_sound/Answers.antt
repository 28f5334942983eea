use Rattle.book.proofs.Sizes.{network_is_sound_lem, flowing_is_sound}
use Rattle.book.proofs.agreement.network_is_sound.Goals as goal

pub returns : goal.returns
returns c = record { network_is_sound = network_is_sound_lem; flowing = flowing_is_sound }
