use Rattle.std.proofs.Common.{◌≡◌, ◌++◌, drop, map}
use Rattle.cell_num.specs.Lists.{numbered, numbered_from}
use Rattle.cell_world.specs.DumpLines.{ns_line}
use Rattle.cell_view.proofs.all_spaces.add_namespaces.Given as goal

-- the lines so far, and those of the namespaces that are left, are all of them
abbrev pub invariant-loop-number : goal.invariant-loop-number
invariant-loop-number l = l.lines.items ++ map ns_line (numbered_from l.number (drop l.number l.spaces)) ≡ l.fn.lines.items ++ map ns_line (numbered l.spaces)
