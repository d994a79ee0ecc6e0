-- Cells by rising numbers.
use Rattle.std.specs.Prelude.{◌<◌, nat_lt, List, [], ◌∷◌, Option, Some, None, All, if◌then◌else◌}
use Rattle.cell_space.specs.declared.cell.SpaceCell.{SpaceCell}

-- each cell's number is below those after it
abbrev pub IsRising : List SpaceCell → Type 0
IsRising [] = Unit {0}
IsRising (c ∷ cells) = All (λ d. c.cell.0 < d.cell.0) cells × IsRising cells

-- the one of the lower number
abbrev pub lower : Option SpaceCell → Option SpaceCell → Option SpaceCell
lower None b = b
lower (Some c) None = Some c
lower (Some c) (Some d) = if nat_lt d.cell.0 c.cell.0 then Some d else Some c
