-- The lines of a dump of the whole machine, as they are gathered.
--     space_lines w               the space, and the namespaces by their numbers
--     place_shown c s             where a section stands, by its cell's places
--     alias_shown number a        a further name of the cell of that number
--     links_shown rows c          the links of a cell
--     names_shown w c             the names of a cell, where it is attached
--     content_shown regions c s   what a section holds
--     Adds w f placed old new     behind the old lines come those of the cell that stands so
use Rattle.std.specs.Prelude.{ℕ, ◌≡◌, ◌-◌, ◌==◌, List, [], ◌∷◌, ◌++◌, map, filter, unwrap_or, if◌then◌else◌}
use Rattle.cell_num.specs.Lists.{numbered, In}
use Rattle.cell_object.specs.declared.object.Section.{Section as ObjectSection}
use Rattle.cell_world.specs.declared.state.LinkRow.{LinkRow}
use Rattle.cell_world.specs.declared.state.NewCell.{NewCell}
use Rattle.cell_world.specs.Running.Memory.{read_in}
use Rattle.cell_world.specs.Linked.Target.{start_of}
use Rattle.cell_world.specs.World.{World, Cell, Alias, Region, is_attached}
use Rattle.cell_world.specs.declared.line.DumpLine.{DumpLine}
use Rattle.cell_world.specs.declared.line.DumpLine.TheVariants.{Space, Place, Alias as AliasLine}
use Rattle.cell_world.specs.DumpLines.{content_lines, link_line, ns_line, provider_lines}

abbrev pub space_lines : World → List DumpLine
space_lines w = Space w.base w.pages ∷ map ns_line (numbered w.namespaces)

abbrev pub place_shown : NewCell → ObjectSection → DumpLine
place_shown c s = Place c.id.0 s.number (start_of c s.number)

-- symbols are numbered from 1 there, and from 0 in a dump
abbrev pub alias_shown : ℕ → Alias → DumpLine
alias_shown number a = AliasLine number (a.symbol - 1) a.name

abbrev pub links_shown : List LinkRow → NewCell → List DumpLine
links_shown rows c = map link_line (filter (λ r. r.user.cell.0 == c.id.0) rows)

abbrev pub names_shown : World → Cell → List DumpLine
names_shown w c = if is_attached c.standing then provider_lines w c else []

abbrev pub content_shown : List Region → NewCell → ObjectSection → List DumpLine
content_shown regions c s =
    content_lines (record { cell = c.id.0; section = s.number }) (start_of c s.number) (unwrap_or (read_in regions (start_of c s.number) s.size) [])

abbrev pub Adds : World → (Cell → List DumpLine) → NewCell → List DumpLine → List DumpLine → Type 0
Adds w f placed old new = (c : Cell) → In c w.cells → c.placed ≡ placed → new ≡ old ++ f c
