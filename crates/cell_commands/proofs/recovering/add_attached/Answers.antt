use Rattle.std.proofs.Common.{◌∙◌, ap, Bor, not, ◌∷◌, [], map}
use Rattle.std.proofs.lemmas.List.{map-append}
use Rattle.cell_world.specs.declared.state.NewCell.{NewCell}
use Rattle.cell_commands.proofs.AttachedCells.{attached_is, no_more, one_more}
use Rattle.cell_commands.proofs.recovering.add_attached.Goals as goal

pub returns-in_ok-push : goal.returns-in_ok-push
returns-in_ok-push c d i same =
    one_more d c.args.cell.now same (attached_is d c.group.result (c.group.ensures d i same) ∙ ap not (c.is_none.ensures ∙ ap not c.if-is_none.true)) (map (λ x. x.now) c.args.cells.now.items) _
    (ap (map (λ (x : Bor NewCell). x.now)) c.in_ok-push.ensures.items ∙ map-append (λ (x : Bor NewCell). x.now) c.args.cells.now.items (c.args.cell ∷ []))

pub returns-else-is_none : goal.returns-else-is_none
returns-else-is_none c d i same =
    no_more d (attached_is d c.group.result (c.group.ensures d i same) ∙ ap not (c.is_none.ensures ∙ ap not c.if-is_none.false)) (map (λ x. x.now) c.args.cells.now.items)
