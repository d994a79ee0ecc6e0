use Rattle.std.proofs.Common.{◌≤◌, ◌^◌, ◌-◌, min, length, take}
use Rattle.std.specs.List.{sum_by}
use Rattle.cell_object.specs.ImageParts.{content}
use Rattle.cell_elfw.proofs.room.room.Given as goal

-- the contents so far
abbrev pub invariant-loop-section : goal.invariant-loop-section
invariant-loop-section l = min (sum_by (λ s. length (content s)) (take l.section-index l.object.sections)) (2 ^ 64 - 1) ≤ l.room
