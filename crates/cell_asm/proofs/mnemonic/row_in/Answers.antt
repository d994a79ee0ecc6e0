use Rattle.cell_asm.proofs.Facts.{◌∙◌, Bor, List, ℕ}
use Rattle.cell_asm.proofs.ReadingLemmas.{row_found}
use Rattle.cell_asm.proofs.mnemonic.row_in.Goals as goal

pub returns : goal.returns
returns g c = c.find_row.ensures ∙ row_found (λ (row : Bor (List ℕ) × _). (row.0.now, row.1)) c.args.text.now c.args.rows.now
