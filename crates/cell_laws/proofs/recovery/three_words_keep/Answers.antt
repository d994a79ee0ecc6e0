use Rattle.cell_laws.proofs.KeptAgain.{kept_by_words}
use Rattle.cell_laws.proofs.recovery.three_words_keep.Goals as goal

pub returns : goal.returns
returns c w t entry h live named = kept_by_words w h t live entry named
