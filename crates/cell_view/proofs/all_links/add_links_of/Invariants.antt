use Rattle.std.proofs.Common.{◌≡◌, ◌++◌, ◌==◌, filter, map}
use Rattle.cell_world.specs.DumpLines.{link_line}
use Rattle.cell_view.proofs.all_links.add_links_of.Given as goal

-- the lines so far, and those of the links that are left, are all
abbrev pub invariant-loop-link : goal.invariant-loop-link
invariant-loop-link l = l.fn.lines.items ++ map link_line (filter (λ r. r.user.cell.0 == l.fn.cell.0) l.graph.rows) ≡ l.lines.items ++ map link_line l.link-iterator
