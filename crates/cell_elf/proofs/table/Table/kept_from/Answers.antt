use Rattle.std.proofs.Common.{List, ℕ, subst, arith}
use Rattle.cell_file.specs.Cover.{IsSkip}
use Rattle.cell_elf.proofs.Skipping.{skips_rows}
use Rattle.cell_elf.proofs.table.Table.kept_from.Goals as goal

pub returns-clause-passed : goal.returns-clause-passed
returns-clause-passed c =
    skips_rows c.args.self.now.file.bytes.now c.args.self.now.header c.args.number c.at-skipped.result c.place.result c.min.result c.place.ensures.place
    (subst (λ (file : List ℕ). IsSkip file c.place.result c.at-skipped.result) c.args.self.now.skips_are c.at-skipped.ensures)
    (omega (arith, c.min.ensures, c.from.ensures))
