-- Cells that are linked anew, one after another.
--     world_in ground objects      the machine of these cells
--     seen_by ground objects c     a cell of it
--     unlinked_among w cells       the line of the first of the cells that can't be linked, and the entry's place
--     unlinked w cells             that fault, if there is one
--     earlier a b                  the lower of two places, where there are such
use Rattle.std.specs.Prelude.{ℕ, List, [], ◌∷◌, Option, Some, None, map, min, option_map}
use Rattle.cell_num.specs.Lists.{or_else}
use Rattle.cell_object.specs.declared.object.Object.{Object}
use Rattle.cell_world.specs.World.{Cell, World}
use Rattle.cell_audit.specs.Audits.{Audit, refused_by}
use Rattle.cell_audit.specs.Linking.{unlinked_in}
use Rattle.cell_audit.specs.declared.fail.AuditFail.TheVariants.{Unlinked}
use Rattle.cell_described.specs.Describes.{cell_seen}
use Rattle.cell_described.specs.declared.cell.DescribedCell.{DescribedCell}
use Rattle.cell_relinked.specs.Fit.{machine}
use Rattle.cell_relinked.specs.declared.ground.Ground.{Ground}

abbrev pub seen_by : Ground → List Object → DescribedCell → Cell
seen_by g objects c = cell_seen g.file.now objects c

abbrev pub world_in : Ground → List Object → World
world_in g objects = machine g.base g.pages g.namespaces.now (map (seen_by g objects) g.cells.now)

-- a cell with the number of its line
abbrev pub lined : Ground → List Object → DescribedCell → ℕ × Cell
lined g objects c = (c.line, seen_by g objects c)

abbrev pub at_line : ℕ → ℕ → ℕ × ℕ
at_line line entry = (line, entry)

abbrev pub unlinked_among : World → List (ℕ × Cell) → Option (ℕ × ℕ)
unlinked_among w [] = None
unlinked_among w (p ∷ cells) = or_else (option_map (at_line p.0) (unlinked_in w p.1)) (unlinked_among w cells)

abbrev pub unlinked : World → List (ℕ × Cell) → Audit (Unit {0})
unlinked w cells = refused_by (λ at. Unlinked at.0 at.1) (unlinked_among w cells)

abbrev pub earlier : Option ℕ → Option ℕ → Option ℕ
earlier None b = b
earlier (Some a) None = Some a
earlier (Some a) (Some b) = Some (min a b)
