use Rattle.std.proofs.Common.{◌∙◌, ◌∷◌, [], ◌++◌, ap, arith, drop, map, refl}
use Rattle.cell_world.specs.World.{Alias}
use Rattle.cell_world.specs.declared.line.DumpLine.{DumpLine}
use Rattle.cell_view.specs.Whole.{alias_shown}
use Rattle.cell_view.proofs.Behind.{mapped_over, none_left}
use Rattle.cell_view.proofs.all_cells.add_names_from.Goals as goal

pub loop-place-preserved : goal.loop-place-preserved
loop-place-preserved c =
    let row : Alias = record { name = c.at-symbol.result.0.now; symbol = c.at-symbol.result.1 } in
    mapped_over (alias_shown c.args.cell) c.args.names.now c.loop-place.place row c.loop-place.lines.items _ (c.args.lines.now.items ++ map (alias_shown c.args.cell) (drop c.args.first c.args.names.now)) c.at-symbol.ensures
    (c.in_ok-push.ensures.items ∙ ap (λ (x : DumpLine). c.loop-place.lines.items ++ x ∷ []) c.in_ok-alias_line.ensures) c.loop-place.invariant

pub returns : goal.returns
returns c = none_left (map (alias_shown c.args.cell)) refl c.args.names.now c.loop-place.place c.loop-place.lines.items _ (omega arith) c.loop-place.invariant
