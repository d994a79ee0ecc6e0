use Rattle.std.proofs.Common.{sym, ◌∙◌, ap, ℕ}
use Rattle.std.specs.Prelude.{Option}
use Rattle.cell_world.specs.declared.refusal.Refusal.TheVariants.{Unknown}
use Rattle.cell_world.specs.Outcome.{found}
use Rattle.cell_world.specs.Commands.UnloadCommand.{cell_word}
use Rattle.cell_machine.specs.Machine.{world_of}
use Rattle.cell_unload.proofs.Naming.{by_spaces, unknown_is}
use Rattle.cell_unload.proofs.named.named_cell.Goals as goal

pub returns-in-Some : goal.returns-in-Some
returns-in-Some c =
    let m = c.args.machine.now in
    by_spaces (world_of m) m.spaces.cells (sym c.requires.joined.called) c.args.name.now
    ∙ ap (λ (o : Option ℕ). found o (Unknown (cell_word c.args.name.now))) (sym c.in-Some.ensures)

pub returns-in-None : goal.returns-in-None
returns-in-None c =
    let m = c.args.machine.now in
    unknown_is (cell_word c.args.name.now) c.unknown_cell.result c.unknown_cell.ensures _
    (by_spaces (world_of m) m.spaces.cells (sym c.requires.joined.called) c.args.name.now
    ∙ ap (λ (o : Option ℕ). found o (Unknown (cell_word c.args.name.now))) (sym c.in-None.ensures))
