use Rattle.std.proofs.Common.{◌≡◌, ◌-◌, length, drop}
use Rattle.cell_world.specs.Running.Undo.{undone}
use Rattle.cell_mem.proofs.memory.Memory.undo.Given as goal

-- the last records are gone back by
abbrev pub invariant-loop-passed : goal.invariant-loop-passed
invariant-loop-passed l =
    l.self ≡ (record l.initial.self { regions = undone l.initial.self.regions (drop (length l.records - l.passed) l.records) })
