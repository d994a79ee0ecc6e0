use Rattle.std.proofs.Common.{◌∙◌, ap, sym, Bor, map, ℕ}
use Rattle.std.specs.Prelude.{◌==◌}
use Rattle.cell_world.specs.declared.state.NewCell.{NewCell}
use Rattle.cell_load.proofs.Empty.{empty_if}
use Rattle.cell_change.proofs.Nobody.{nobody_changes}
use Rattle.cell_change.proofs.affected.cells_for.Goals as goal

pub returns-then-is_empty-2 : goal.returns-then-is_empty-2
returns-then-is_empty-2 c =
    let long = c.args.machine.now.soft.ok.0 in
    ap (map (λ (x : Bor NewCell). x.now)) c.new.ensures.items
    ∙ sym (nobody_changes c.args.old.now.cells.now c.args.machine.now.soft.items (empty_if c.args.old.now.cells.now (sym c.is_empty.ensures ∙ c.if-is_empty.true)) (empty_if c.args.machine.now.soft.items (ap (λ (n : ℕ). n == 0) (sym long) ∙ (sym c.is_empty-then-is_empty.ensures ∙ c.if-is_empty-2.true)))
    c.args.machine.now.graph.rows c.args.machine.now.cells.items)
