use Rattle.cell_image.proofs.RoundTrip.{read_again}
use Rattle.cell_image.proofs.SoundRules.{ruled}
use Rattle.cell_assemble.proofs.image.image_of_source.Goals as goal

-- what a source is assembled to can be written, so its image is read as the object again
pub image_of-requires : goal.image_of-requires
image_of-requires c = read_again c.in_ok-object.object (ruled c.in_ok-object.object c.in_ok-object.ensures.writable)
