use Rattle.std.proofs.Common.{◌≡◌, ◌++◌}
use Rattle.cell_plan.specs.Exchanged.{links_before}
use Rattle.cell_plan.specs.Viewed.{view_of}
use Rattle.cell_plan.proofs.exchange.Exchange.list_links.Given as goal

-- the links so far, and those that are left, are all
abbrev pub invariant-loop-link : goal.invariant-loop-link
invariant-loop-link l = links_before (view_of l.self) l.cell ≡ l.room.links.items ++ l.link-iterator
