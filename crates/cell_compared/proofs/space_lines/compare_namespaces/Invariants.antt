use Rattle.std.proofs.Common.{◌≡◌, drop, map}
use Rattle.cell_num.specs.Lists.{numbered, numbered_from}
use Rattle.cell_world.specs.DumpLines.{ns_line}
use Rattle.cell_compared.specs.Left.{left}
use Rattle.cell_compared.specs.Walk.{walk}
use Rattle.cell_compared.proofs.space_lines.compare_namespaces.Given as goal

-- what is left of the dump, against what is left of the lines
abbrev pub invariant-loop-number : goal.invariant-loop-number
invariant-loop-number l = walk (left l.cursor) (map ns_line (numbered_from l.number (drop l.number l.spaces))) ≡ walk (left l.fn.cursor) (map ns_line (numbered l.spaces))
