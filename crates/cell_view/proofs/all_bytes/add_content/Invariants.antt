use Rattle.std.proofs.Common.{◌≡◌, ◌+◌, ◌*◌, ◌/◌, ◌++◌, length}
use Rattle.cell_world.specs.DumpLines.{content_lines}
use Rattle.cell_view.proofs.all_bytes.add_content.Given as goal

-- the lines so far, and those of what is left, are all of them; and where they end stays
abbrev pub invariant-loop-rest : goal.invariant-loop-rest
invariant-loop-rest l = record {
  all : l.lines.items ++ content_lines l.at l.addr l.rest ≡ l.fn.lines.items ++ content_lines l.at l.start l.bytes;
  ends : l.addr + 64 * ((length l.rest + 63) / 64) ≡ l.start + 64 * ((length l.bytes + 63) / 64);
}

abbrev pub decreases-loop-rest : goal.decreases-loop-rest
decreases-loop-rest l = length l.rest
