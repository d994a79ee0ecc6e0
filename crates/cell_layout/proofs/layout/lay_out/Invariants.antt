use Rattle.std.proofs.Common.{◌≡◌, ◌≤◌, map, take}
use Rattle.cell_layout.specs.Layout.{AreEnds, offset_place}
use Rattle.cell_layout.proofs.layout.lay_out.Given as goal

-- the sections so far are laid out
abbrev pub invariant-loop-section : goal.invariant-loop-section
invariant-loop-section l = record {
  offsets : l.offsets.items ≡ map (offset_place l.sections) (take l.section-index l.sections);
  ends : AreEnds l.ends (take l.section-index l.sections);
  few : l.section-index ≤ 65536;
}
