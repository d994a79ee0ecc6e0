use Rattle.std.proofs.Common.{sym, subst, ap, ◌∙◌}
use Rattle.cell_mem.specs.State.{MemoryState}
use Rattle.cell_world.specs.declared.layout.Class.TheVariants.{ReadOnly, Writable}
use Rattle.cell_world.specs.World.{attached}
use Rattle.cell_unload.specs.Unmapped.{CanLeave, class_starts, without_regions}
use Rattle.cell_unload.proofs.CellStarts.{in_turn}
use Rattle.cell_unload.proofs.regions.unmap_cell.Goals as goal

pub unmap_class-requires-2-clause-there : goal.unmap_class-requires-2-clause-there
unmap_class-requires-2-clause-there c =
    subst (λ (m : MemoryState). CanLeave m (class_starts (attached c.args.cell.now) ReadOnly)) (sym c.unmap_class.ensures.memory)
    (in_turn c.args.memory.now (attached c.args.cell.now) c.requires.there).read_only

pub unmap_class-requires-3-clause-there : goal.unmap_class-requires-3-clause-there
unmap_class-requires-3-clause-there c =
    subst (λ (m : MemoryState). CanLeave m (class_starts (attached c.args.cell.now) Writable))
    (sym (c.unmap_class-2.ensures.memory ∙ ap (λ (m : MemoryState). without_regions m (class_starts (attached c.args.cell.now) ReadOnly)) c.unmap_class.ensures.memory))
    (in_turn c.args.memory.now (attached c.args.cell.now) c.requires.there).writable
