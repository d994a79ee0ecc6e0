use Rattle.std.proofs.Common.{[], ◌∷◌, arith, ◌+◌, take}
use Rattle.cell_routines.specs.Placed.{addresses_by}
use Rattle.cell_routines.proofs.DefinitionRows.{one_more}
use Rattle.cell_routines.proofs.Standing.{addresses_more}
use Rattle.cell_routines.proofs.addresses.add_addresses.Goals as goal

pub loop-place-preserved : goal.loop-place-preserved
loop-place-preserved c =
    let cell = c.args.cell.now in
    let names = c.args.names.now in
    let i = c.loop-place.place in
    let row = c.at-symbol.result in
    one_more c.args.table.now c.loop-place.table c.add.new.self (addresses_by cell (take i names)) ((row.0.now, c.address_in.result) ∷ []) (addresses_by cell (take (i + 1) names)) c.loop-place.invariant
    (c.in_ok-add.ensures {u = tt}).added
    (addresses_more cell names i row.0.now row.1 c.address_in.result (omega arith) c.at-symbol.ensures c.address_in.ensures)
