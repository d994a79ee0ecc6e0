use Rattle.std.specs.Prelude.{map}
use Rattle.cell_routines.specs.Begins.{begin_as}
use Rattle.cell_routines.proofs.Steps.{begins_low, follows_words}
use Rattle.cell_routines.proofs.begins.begins_of.Goals as goal

pub returns-clause-begins : goal.returns-clause-begins
returns-clause-begins c =
    follows_words c.in_ok-table.table c.args.cells.now c.args.words.now (λ begins. map begin_as begins.items) c.begins_by.result c.in_ok-table.ensures c.begins_by.ensures

pub returns-clause-low : goal.returns-clause-low
returns-clause-low c =
    begins_low c.args.cells.now c.requires (λ begins. begins.items) c.args.words.now c.begins_by.result
    (follows_words c.in_ok-table.table c.args.cells.now c.args.words.now (λ begins. map begin_as begins.items) c.begins_by.result c.in_ok-table.ensures c.begins_by.ensures)
