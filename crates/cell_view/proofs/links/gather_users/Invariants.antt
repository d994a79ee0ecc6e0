use Rattle.std.proofs.Common.{IsPermutation, map, take}
use Rattle.cell_world.specs.World.{key_of}
use Rattle.cell_view.specs.Links.{links_in}
use Rattle.cell_view.proofs.links.gather_users.Given as goal

-- the links of the sections so far
abbrev pub invariant-loop-target : goal.invariant-loop-target
invariant-loop-target l = IsPermutation (links_in l.graph.rows (map (λ s. key_of l.cell.id.0 s.number) (take l.target-index l.cell.object.sections))) l.rows.items
