use Rattle.cell_image.proofs.Pointer.{pointer_writable}
use Rattle.cell_image.proofs.pointer_is_writable.Goals as goal

pub returns : goal.returns
returns c = pointer_writable
