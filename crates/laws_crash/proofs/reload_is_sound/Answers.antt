use Rattle.laws_crash.proofs.Steps.{reload_is_sound}
use Rattle.laws_crash.proofs.reload_is_sound.Goals as goal

pub returns : goal.returns
returns c = reload_is_sound
