use Rattle.cell_asm.proofs.Facts.{◌∙◌, ap, Bor, List, ℕ, find, bytes_eq, option_map, said, Mnemonic}
use Rattle.cell_asm.proofs.ReadingLemmas.{row_found, map_twice}
use Rattle.cell_asm.proofs.mnemonic.mnemonic_in.Goals as goal

pub returns : goal.returns
returns c =
    ap (option_map said) c.find_row.ensures
    ∙ map_twice said (λ (row : Bor (List ℕ) × Mnemonic). row.1) (find (λ row. bytes_eq c.args.text.now row.0.now) c.args.rows.now)
    ∙ row_found (λ (row : Bor (List ℕ) × Mnemonic). (row.0.now, said row.1)) c.args.text.now c.args.rows.now
