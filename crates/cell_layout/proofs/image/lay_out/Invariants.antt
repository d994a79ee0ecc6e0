use Rattle.std.proofs.Common.{◌≡◌, [], drop}
use Rattle.cell_world.specs.Placed.Layout.{laid_out}
use Rattle.cell_layout.specs.Layout.{in_class}
use Rattle.cell_layout.proofs.image.lay_out.Given as goal

-- the image so far, with the sections that are left, is the whole
abbrev pub invariant-loop-section : goal.invariant-loop-section
invariant-loop-section l = laid_out l.image.items (in_class l.class (drop l.section-index l.sections)) ≡ laid_out [] (in_class l.class l.sections)
