use Rattle.cell_laws.proofs.Recovered.{swap_accepted}
use Rattle.cell_laws.proofs.recovery.its_swap_is_accepted.Goals as goal

pub returns : goal.returns
returns c sources w t cells said d budget sound h all b = swap_accepted sources sound w h t cells all said d budget b
