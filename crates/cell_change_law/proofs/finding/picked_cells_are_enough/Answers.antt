use Rattle.std.proofs.Common.{◌≡◌, false, Bool}
use Rattle.std.specs.Prelude.{All}
use Rattle.cell_object.specs.declared.object.Entry.{Entry}
use Rattle.cell_world.specs.Changed.{differs}
use Rattle.cell_world.specs.World.{World, Cell}
use Rattle.cell_num.specs.Lists.{In}
use Rattle.cell_num.proofs.Elements.{All-In}
use Rattle.cell_lemmas.proofs.Targeting.Affected.{changed_among, misfit_among, nothing_changed, nothing_misfits}
use Rattle.cell_change_law.proofs.finding.picked_cells_are_enough.Goals as goal

same : (v w : World) (p : Cell → Bool) → All (λ c. p c ≡ false → All (λ e. differs v w c e ≡ false) c.object.entries) v.cells → (c : Cell) → In c v.cells → p c ≡ false → (e : Entry) → In e c.object.entries → differs v w c e ≡ false
same v w p none c i a = All-In (λ (e : Entry). differs v w c e ≡ false) c.object.entries (All-In (λ (c : Cell). p c ≡ false → All (λ (e : Entry). differs v w c e ≡ false) c.object.entries) v.cells none c i a)

pub returns-clause-fields : goal.returns-clause-fields
returns-clause-fields k = λ v w p none. changed_among v w p v.cells (λ c i a. nothing_changed v w c (same v w p none c i a))

pub returns-clause-misfit : goal.returns-clause-misfit
returns-clause-misfit k = λ v w p none. misfit_among v w p v.cells (λ c i a. nothing_misfits v w c (same v w p none c i a))
