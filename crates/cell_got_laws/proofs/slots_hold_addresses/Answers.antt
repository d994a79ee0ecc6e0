use Rattle.cell_got_laws.proofs.Sites.{slots_hold}
use Rattle.cell_got_laws.proofs.slots_hold_addresses.Goals as goal

pub returns : goal.returns
returns c = slots_hold
