use Rattle.std.proofs.Common.{◌≡◌, ◌++◌, drop, filter_map}
use Rattle.cell_world.specs.World.{Alias}
use Rattle.cell_world.specs.DumpLines.{provider_line}
use Rattle.cell_machine.specs.Machine.{world_of}
use Rattle.cell_view.proofs.all_names.add_names.Given as goal

-- the lines so far, and those of the names that are left, are all of them
abbrev pub invariant-loop-place : goal.invariant-loop-place
invariant-loop-place l =
    l.lines.items ++ filter_map (λ (a : Alias). provider_line (world_of l.machine) l.ns a.name) (drop l.place l.names)
    ≡ l.fn.lines.items ++ filter_map (λ (a : Alias). provider_line (world_of l.machine) l.ns a.name) l.names
