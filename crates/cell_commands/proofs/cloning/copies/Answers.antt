use Rattle.std.proofs.Common.{◌∙◌, ◌<◌, ap, sym, subst, arith, get_or, length, List, [], ◌∷◌, ◌++◌, map, take}
use Rattle.std.specs.Prelude.{filter}
use Rattle.std.proofs.lemmas.List.{map-append}
use Rattle.std.proofs.lemmas.List.Elements.{filter-append}
use Rattle.cell_num.specs.Lists.{In}
use Rattle.cell_machine.specs.Machine.{world_of}
use Rattle.cell_machine.proofs.Joined.{cell_at, placed_in}
use Rattle.cell_world.specs.declared.state.NewCell.{NewCell}
use Rattle.cell_world.specs.Commands.Asked.{is_in_space}
use Rattle.cell_world.specs.World.{Cell, World}
use Rattle.cell_change.specs.declared.request.CellCopy.{CellCopy}
use Rattle.cell_commands.specs.Cloning.{copy_to}
use Rattle.cell_commands.proofs.cloning.copies.Goals as goal

pub add_copy-requires-clause-there : goal.add_copy-requires-clause-there
add_copy-requires-clause-there c =
    let m = c.args.machine.now in
    let x = c.index-present-place.result in
    let lt : c.loop-place.place < length m.cells.items = omega (arith, c.loop-place-test.true, ap length c.as_slice-present.ensures.value) in
    let at = cell_at m c.requires c.loop-place.place x lt (c.index-present-place.is ∙ ap (λ (cs : List NewCell). get_or cs c.loop-place.place x) c.as_slice-present.ensures.value) in
    subst (λ (y : NewCell). In y m.cells.items) at.placed (placed_in m c.requires at.cell at.there)

pub loop-place-preserved : goal.loop-place-preserved
loop-place-preserved c =
    let m = c.args.machine.now in
    let w : World = world_of m in
    let x = c.index-present-place.result in
    let lt : c.loop-place.place < length m.cells.items = omega (arith, c.loop-place-test.true, ap length c.as_slice-present.ensures.value) in
    let at = cell_at m c.requires c.loop-place.place x lt (c.index-present-place.is ∙ ap (λ (cs : List NewCell). get_or cs c.loop-place.place x) c.as_slice-present.ensures.value) in
    let is_here = is_in_space c.args.from in
    (c.in_ok-add_copy.ensures {u = tt}) at.cell at.there at.placed
    ∙ (ap (λ (cs : List CellCopy). cs ++ map (copy_to c.args.to) (filter is_here (at.cell ∷ []))) c.loop-place.invariant
    ∙ (sym (map-append (copy_to c.args.to) (filter is_here (take c.loop-place.place w.cells)) (filter is_here (at.cell ∷ [])))
    ∙ (ap (map (copy_to c.args.to)) (sym (filter-append is_here (take c.loop-place.place w.cells) (at.cell ∷ [])))
    ∙ ap (λ (cs : List Cell). map (copy_to c.args.to) (filter is_here cs)) (sym at.next))))
