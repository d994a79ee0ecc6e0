use Rattle.std.proofs.Common.{◌∙◌, sym}
use Rattle.cell_space.proofs.Finding.{rival_elsewhere}
use Rattle.cell_space.proofs.lookup.rival_in.Goals as goal

pub returns-else-has : goal.returns-else-has
returns-else-has c =
    rival_elsewhere c.args.namespaces.now c.args.path.now.ns c.args.word.now.kind c.args.word.now.text.now c.args.other c.args.cells.now (sym c.has.ensures ∙ c.if-has.false)
