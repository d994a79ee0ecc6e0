use Rattle.std.proofs.Common.{◌≡◌, drop}
use Rattle.std.specs.List.{list_any}
use Rattle.cell_world.specs.Placed.Layout.{is_in_class}
use Rattle.cell_layout.proofs.regions.has_class.Given as goal

-- no section so far is of the class
abbrev pub invariant-loop-section : goal.invariant-loop-section
invariant-loop-section l = list_any (is_in_class l.class) (drop l.section-index l.sections) ≡ list_any (is_in_class l.class) l.sections
