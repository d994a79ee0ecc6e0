use Rattle.std.proofs.Common.{◌≡◌, drop}
use Rattle.std.specs.Prelude.{filter, option_map}
use Rattle.cell_num.specs.Lists.{first}
use Rattle.cell_world.specs.Linked.Relink.{class_start}
use Rattle.cell_world.specs.Placed.Layout.{is_in_class}
use Rattle.cell_world.specs.Linked.Target.{start_of}
use Rattle.cell_world.specs.World.{attached}
use Rattle.cell_unload.proofs.regions.class_start.Given as goal

-- no section so far is of the class
abbrev pub invariant-loop-section : goal.invariant-loop-section
invariant-loop-section l =
    option_map (λ s. start_of l.cell s.number) (first (filter (is_in_class l.class) (drop l.section-index l.cell.object.sections))) ≡ class_start (attached l.cell) l.class
