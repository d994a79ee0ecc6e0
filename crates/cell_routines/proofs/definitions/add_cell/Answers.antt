use Rattle.std.proofs.Common.{◌++◌, ◌∷◌, [], subst, arith, ◌+◌, take}
use Rattle.cell_world.specs.declared.state.NewCell.{NewCell}
use Rattle.cell_xfer.specs.Named.{AnswersAs}
use Rattle.cell_routines.specs.Begins.{definition_rows}
use Rattle.cell_routines.proofs.DefinitionRows.{one_more, rows_more}
use Rattle.cell_routines.proofs.definitions.add_cell.Goals as goal

pub loop-symbol-preserved : goal.loop-symbol-preserved
loop-symbol-preserved c =
    let cell = c.args.cell.now in
    let symbols = c.as_slice-symbol-items.result.now in
    let i = c.loop-symbol.symbol-index in
    let s = c.symbol-item.result in
    let added = subst (λ (d : NewCell). AnswersAs c.add_symbol.new.table (c.loop-symbol.table ++ definition_rows d (s ∷ []))) c.in_ok-entries.ensures (c.in_ok-add_symbol.ensures {u = tt}) in
    one_more c.args.table.now c.loop-symbol.table c.add_symbol.new.table (definition_rows cell (take i symbols)) (definition_rows cell (s ∷ [])) (definition_rows cell (take (i + 1) symbols)) c.loop-symbol.invariant added
    (rows_more cell symbols i s (omega arith) c.symbol-item.is)
