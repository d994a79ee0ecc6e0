use Rattle.std.proofs.Common.{◌≡◌, ◌<◌, List, None, length, map, refl, subst, sym}
use Rattle.std.specs.Prelude.{All}
use Rattle.std.proofs.lemmas.Result.{err_from_is_err_and}
use Rattle.cell_object.specs.declared.object.Object.{Object}
use Rattle.cell_world.specs.Gather.{source_of}
use Rattle.cell_described.specs.Faults.{cells_fault}
use Rattle.cell_described.specs.Placing.{FailsToPlace}
use Rattle.cell_described.specs.Taken.{all_free}
use Rattle.cell_described.proofs.Assembled.{all_described, unfound, unplaced}
use Rattle.cell_described.proofs.Founds.{all_there}
use Rattle.cell_described.proofs.describing.describe.Goals as goal

pub returns-in_err-cells : goal.returns-in_err-cells
returns-in_err-cells c = λ file rows w space.
    let p = err_from_is_err_and c.from_residual.result c.from_residual.ensures.1 in
    rw (p.1, p.2)
    (unfound (map source_of c.args.depot.now) file rows c.args.cells.items c.args.bounds.base c.args.bounds.pages w space c.in_err-cells.field-0.0 (c.in_err-cells.ensures {u = tt}))

pub place_cells-requires-clause-there : goal.place_cells-requires-clause-there
place_cells-requires-clause-there c =
    let found = c.in_ok-cells.ensures {u = tt} in
    let objects = c.in_ok-cells.field-0.objects.items in
    let cells = c.in_ok-cells.field-0.cells.items in
    subst (λ (os : List Object). All (λ f. f.object < length os) cells) (sym c.deref.ensures.value) (all_there (map source_of c.args.depot.now) objects cells found.held)

pub returns-in_err-cells-2 : goal.returns-in_err-cells-2
returns-in_err-cells-2 c = λ file rows w space.
    let p = err_from_is_err_and c.from_residual-in_err-cells-2.result c.from_residual-in_err-cells-2.ensures.1 in
    let objects = c.in_ok-cells.field-0.objects.items in
    let cells = c.in_ok-cells.field-0.cells.items in
    let fail = c.in_err-cells-2.field-0.0 in
    rw (p.1, p.2)
    (unplaced (map source_of c.args.depot.now) file rows c.args.cells.items c.args.bounds.base c.args.bounds.pages w space objects cells (c.in_ok-cells.ensures {u = tt}) fail
    (subst (λ (os : List Object). FailsToPlace os (all_free c.args.bounds.base c.args.bounds.pages) cells fail) c.deref.ensures.value (c.in_err-cells-2.ensures {u = tt})))

pub returns : goal.returns
returns c = λ file rows w space.
    let objects = c.in_ok-cells.field-0.objects.items in
    let cells = c.in_ok-cells.field-0.cells.items in
    let placed = c.in_ok-cells-2.ensures {u = tt} in
    all_described (map source_of c.args.depot.now) file rows c.args.cells.items c.args.bounds.base c.args.bounds.pages w space objects cells (c.in_ok-cells.ensures {u = tt})
    (record { cells = c.in_ok-cells-2.cells; objects = c.in_ok-cells.field-0.objects }) refl
    (subst (λ (os : List Object). cells_fault (all_free c.args.bounds.base c.args.bounds.pages) os cells ≡ None) c.deref.ensures.value placed.0) placed.1
