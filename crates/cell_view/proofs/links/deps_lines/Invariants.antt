use Rattle.std.proofs.Common.{◌≡◌, ◌++◌, ◌==◌, filter, filter_map}
use Rattle.cell_world.specs.Commands.LinkCommands.{link_line}
use Rattle.cell_machine.specs.Machine.{world_of}
use Rattle.cell_view.proofs.links.deps_lines.Given as goal

-- the lines so far, and those of the links that are left, are all
abbrev pub invariant-loop-link : goal.invariant-loop-link
invariant-loop-link l =
    filter_map (link_line (world_of l.machine)) (filter (λ r. r.user.cell.0 == l.fn.cell.0) l.machine.graph.rows)
    ≡ l.lines.items ++ filter_map (link_line (world_of l.machine)) l.link-iterator
