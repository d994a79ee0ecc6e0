use Rattle.std.proofs.Common.{◌≡◌, refl, subst}
use Rattle.std.specs.Prelude.{option_map}
use Rattle.cell_mem.specs.Inside.{undo_over}
use Rattle.cell_mem.specs.State.{MemoryState}
use Rattle.cell_mem.proofs.Undoing.{same_shapes}
use Rattle.cell_mem.proofs.memory.Memory.keeps_shapes.Goals as goal

pub returns : goal.returns
returns c = same_shapes c.args.self.now c.self.inside.undo (subst (λ (m : MemoryState). m.undo ≡ option_map (undo_over m.regions) c.self.inside.undo) c.self.view_is refl)
