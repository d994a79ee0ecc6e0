use Rattle.std.proofs.Common.{List, arith, subst}
use Rattle.cell_world.specs.Before.{AreBefore}
use Rattle.cell_space.specs.Keys.{number_in}
use Rattle.cell_space.specs.declared.cell.SpaceCell.{SpaceCell}
use Rattle.cell_space.proofs.Holding.{ok_more}
use Rattle.cell_space.proofs.Renaming.{name_set, place_inside, place_lacks, place_number_is}
use Rattle.cell_space.proofs.rows.add_name.Goals as goal

pub index_mut-requires : goal.index_mut-requires
index_mut-requires c =
    let are = subst (λ (cells : List SpaceCell). AreBefore number_in c.args.number cells c.cells_before-place.result) c.deref.ensures.value c.cells_before-place.ensures in
    let lt = place_inside c.args.number c.args.name.now c.args.cells.now.items c.requires.rising c.cells_before-place.result are c.requires.lacks in
    omega arith

pub add_name-requires : goal.add_name-requires
add_name-requires c =
    let are = subst (λ (cells : List SpaceCell). AreBefore number_in c.args.number cells c.cells_before-place.result) c.deref.ensures.value c.cells_before-place.ensures in
    place_lacks c.args.number c.args.name.now c.args.cells.now.items c.requires.rising c.cells_before-place.result are c.requires.lacks c.index_mut.result.now c.index_mut.ensures.value

pub returns-clause-added : goal.returns-clause-added
returns-clause-added c =
    let are = subst (λ (cells : List SpaceCell). AreBefore number_in c.args.number cells c.cells_before-place.result) c.deref.ensures.value c.cells_before-place.ensures in
    let cells = c.args.cells.now.items in
    let lt = place_inside c.args.number c.args.name.now cells c.requires.rising c.cells_before-place.result are c.requires.lacks in
    let number = place_number_is c.args.number c.args.name.now cells c.requires.rising c.cells_before-place.result are c.requires.lacks c.index_mut.result.now c.index_mut.ensures.value in
    ok_more c.add_name.result _ _ (name_set c.args.number (record { name = c.args.name.now; symbol = c.args.symbol }) cells c.cells_before-place.result c.index_mut.result.now c.add_name.new.self c.requires.rising lt c.index_mut.ensures.value number) c.add_name.ensures.added
