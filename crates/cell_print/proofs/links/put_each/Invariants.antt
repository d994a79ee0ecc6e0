use Rattle.std.proofs.Common.{◌≡◌, ◌++◌, drop}
use Rattle.std.specs.List.{flat_map}
use Rattle.cell_print.specs.Lines.{link_line, Extends}
use Rattle.cell_print.proofs.links.put_each.Given as goal

-- the lines of the links so far, and of those that are left, are all of them
abbrev pub invariant-loop-link : goal.invariant-loop-link
invariant-loop-link l = record {
  all : l.into.items ++ flat_map link_line (drop l.link-index l.links) ≡ l.fn.into.items ++ flat_map link_line l.links;
  extends : Extends l.fn.into.items l.into.items;
}
