-- The lines of the machine linked anew, in pieces.
--     links_shown w c          those of a cell's links
--     names_shown w c          those of its names, where it is attached
--     contents_shown content c those of what its sections hold
--     lines_at c s bytes       those of a section that holds these bytes
--     relinked_in ground objects    what the sections hold, linked anew
--     lines_shown content w    all lines but the last
use Rattle.std.specs.Prelude.{ℕ, List, [], ◌∷◌, ◌++◌, filter_map, flat_map, map, if◌then◌else◌}
use Rattle.std.specs.List.{cons_option}
use Rattle.cell_num.specs.Lists.{numbered}
use Rattle.cell_object.specs.declared.object.Object.{Object}
use Rattle.cell_object.specs.declared.object.Section.{Section as ObjectSection}
use Rattle.cell_described.specs.declared.cell.DescribedCell.{DescribedCell}
use Rattle.cell_world.specs.DumpLines.{cell_lines, content_lines, link_line, ns_line, provider_line, provider_lines, section_lines}
use Rattle.cell_world.specs.declared.line.DumpLine.{DumpLine}
use Rattle.cell_world.specs.declared.line.DumpLine.TheVariants.{Space}
use Rattle.cell_object.specs.declared.object.Symbol.{Symbol}
use Rattle.cell_world.specs.Names.{is_definition}
use Rattle.cell_world.specs.Linked.Relink.{link_of}
use Rattle.cell_world.specs.World.{Alias, Cell, World, is_attached}
use Rattle.cell_relinked.specs.Contents.{relinked}
use Rattle.cell_relinked.specs.Fit.{start_among}
use Rattle.cell_relinked.specs.Linking.{world_in}
use Rattle.cell_relinked.specs.declared.ground.Ground.{Ground}

abbrev pub links_shown : World → Cell → List DumpLine
links_shown w c = map link_line (filter_map (link_of w c) (numbered c.object.entries))

abbrev pub names_shown : World → Cell → List DumpLine
names_shown w c = if is_attached c.standing then provider_lines w c else []

-- those of some names, for a namespace
abbrev pub name_lines : World → ℕ → List Alias → List DumpLine
name_lines w ns names = filter_map (λ a. provider_line w ns a.name) names

-- that of a symbol, where its object defines it
abbrev pub definition_line : World → ℕ → Symbol → List DumpLine
definition_line w ns s = if is_definition s then cons_option (provider_line w ns s.name) [] else []

abbrev pub contents_shown : (Cell → ObjectSection → List ℕ) → Cell → List DumpLine
contents_shown content c = flat_map (section_lines content c) c.object.sections

abbrev pub lines_at : DescribedCell → ObjectSection → List ℕ → List DumpLine
lines_at c s bytes = content_lines (record { cell = c.id.0; section = s.number }) (start_among c.places s.number) bytes

abbrev pub relinked_in : Ground → List Object → Cell → ObjectSection → List ℕ
relinked_in g objects c s = relinked (world_in g objects) c g.told.now s

-- those of cells, links and names
abbrev pub linked_shown : World → List DumpLine
linked_shown w = flat_map cell_lines w.cells ++ (flat_map (links_shown w) w.cells ++ flat_map (names_shown w) w.cells)

abbrev pub lines_shown : (Cell → ObjectSection → List ℕ) → World → List DumpLine
lines_shown content w =
    (Space w.base w.pages ∷ map ns_line (numbered w.namespaces))
    ++ (linked_shown w ++ flat_map (contents_shown content) w.cells)
