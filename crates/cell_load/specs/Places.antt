-- New cells in their places.
--     PlaceFails fail result       the refusal of a space that is too full
--     Stands old cells extra ..    the space with the runs of the cells and the extra one, and the cells in their places; or the refusal, and the cells as they were
use Rattle.std.specs.Prelude.{◌≡◌, ℕ, List, Result, Ok, Err}
use Rattle.cell_world.specs.declared.refusal.Refusal.TheVariants.{Exhausted}
use Rattle.cell_world.specs.declared.state.NewCell.{NewCell}
use Rattle.cell_place.specs.Space.{SpaceState}
use Rattle.cell_layout.specs.declared.cells.TakenRuns.{TakenRuns}
use Rattle.cell_layout.specs.declared.placement.PlaceFail.{PlaceFail}
use Rattle.cell_layout.specs.declared.placement.PlaceFail.TheVariants.{NoRoom, OutOfMemory as NoMemory}
use Rattle.cell_layout.specs.Many.{ArePlaced, objects, take_with}
use Rattle.cell_world.specs.declared.fail.Fail.{Fail}
use Rattle.cell_world.specs.declared.fail.Fail.TheVariants.{Refused, OutOfMemory}

abbrev pub PlaceFails : PlaceFail → Fail → Type 0
PlaceFails (NoRoom none) fail = fail ≡ Refused (Exhausted none.wanted none.largest)
PlaceFails NoMemory fail = fail ≡ OutOfMemory

abbrev pub Stands : SpaceState → List NewCell → ℕ → Result (SpaceState × TakenRuns) Fail → List NewCell → Type 0
Stands old from extra (Ok p) now = ArePlaced old from extra p.1 p.0 now
Stands old from extra (Err (Refused refusal)) now = (take_with old.base old.taken (objects from) extra ≡ Err refusal) × (now ≡ from)
Stands old from extra (Err OutOfMemory) now = now ≡ from
