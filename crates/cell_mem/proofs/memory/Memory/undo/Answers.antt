use Rattle.std.proofs.Common.{ap, ◌∙◌, ◌-◌, map, length, drop}
use Rattle.cell_world.specs.Coherent.{shape_of}
use Rattle.cell_lemmas.proofs.Tasks.Undone.{undo_shapes}
use Rattle.cell_mem.specs.State.{MemoryState}
use Rattle.cell_mem.proofs.memory.Memory.undo.Goals as goal

pub returns-clause-shapes : goal.returns-clause-shapes
returns-clause-shapes c =
    ap (λ (m : MemoryState). map shape_of m.regions) c.loop-passed.invariant
    ∙ (undo_shapes _ (drop (length c.records-records.result.now - c.loop-passed.passed) c.records-records.result.now) ∙ ap (λ (m : MemoryState). map shape_of m.regions) c.self.view_is)
