use Rattle.cell_got.proofs.LowerSound.{lower_sound}
use Rattle.cell_got.proofs.lowered_is_sound.Goals as goal

pub returns : goal.returns
returns c = lower_sound
