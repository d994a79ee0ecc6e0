use Rattle.std.proofs.Common.{◌∙◌, ◌++◌, ◌∷◌, [], List, ap, append_assoc, map, sym}
use Rattle.cell_world.specs.World.{Alias}
use Rattle.cell_space.specs.declared.cell.SpaceCell.{SpaceCell}
use Rattle.cell_space.proofs.cell.into_names.Goals as goal

pub loop-cell-preserved : goal.loop-cell-preserved
loop-cell-preserved c =
    let steps = (c.in-Some.ensures {u = tt}).steps.0 in
    let rest : List SpaceCell = c.next.new.self.rest.items in
    ap (λ (names : List (List Alias)). names ++ map (λ d. d.names) rest) (c.in_ok-push.ensures {u = tt}).items
    ∙ append_assoc c.loop-cell.names.items (c.in-Some.cell.names ∷ []) (map (λ d. d.names) rest)
    ∙ ap (λ (cells : List SpaceCell). c.loop-cell.names.items ++ map (λ d. d.names) cells) (sym steps)
    ∙ c.loop-cell.invariant
