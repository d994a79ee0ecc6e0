-- What a dump of the whole machine shows, line by line.
--     lines_by content w     the lines of w, where the sections hold what `content` says
--     dump_lines w           the same, where they hold what stands in the memory
use Rattle.std.specs.Prelude.{ℕ, zero, suc, ◌+◌, ◌-◌, ◌/◌, List, [], ◌∷◌, ◌++◌, length, take, drop, map, filter, filter_map, Option, option_map, option_and_then, unwrap_or}
use Rattle.std.specs.List.{flat_map}
use Rattle.cell_num.specs.Lists.{numbered}
use Rattle.cell_num.specs.declared.ids.SecKey.{SecKey}
use Rattle.cell_object.specs.declared.object.Section.{Section as ObjectSection}
use Rattle.cell_world.specs.declared.reply.Found.{Found}
use Rattle.cell_world.specs.declared.state.LinkRow.{LinkRow}
use Rattle.cell_world.specs.declared.state.Namespace.{Namespace}
use Rattle.cell_world.specs.Commands.FindCommand.{found_at}
use Rattle.cell_world.specs.Commands.MapCommand.{group_of}
use Rattle.cell_world.specs.Running.Memory.{read}
use Rattle.cell_world.specs.Names.{names_of, provider_for}
use Rattle.cell_world.specs.Linked.Target.{provided_target, start_of}
use Rattle.cell_world.specs.World.{World, Cell, Alias, is_attached}
use Rattle.cell_world.specs.declared.state.Standing.TheVariants.{Attached}
use Rattle.cell_world.specs.declared.line.DumpLine.{DumpLine}
use Rattle.cell_world.specs.declared.line.DumpLine.TheVariants.{Space, Ns, Cell as CellLine, Place, Alias as AliasLine, Link, Provider, Content, End}
use Rattle.cell_world.specs.declared.line.Part.{Part}

abbrev pub part_of : SecKey → Part
part_of key = record { cell = key.cell.0; section = key.section }

abbrev pub ns_line : ℕ × Namespace → DumpLine
ns_line p = Ns p.0 p.1.name p.1.parent

abbrev pub place_line : Cell → ObjectSection → DumpLine
place_line c s = Place c.id.0 s.number (start_of c.placed s.number)

-- symbols are numbered from 1 there, and from 0 in a dump
abbrev pub alias_line : Cell → Alias → DumpLine
alias_line c a = AliasLine c.id.0 (a.symbol - 1) a.name

-- a cell, its sections and its aliases
abbrev pub cell_lines : Cell → List DumpLine
cell_lines c =
    CellLine c.id.0 c.ns c.stem c.file (group_of c.standing)
    ∷ (map (place_line c) c.object.sections ++ map (alias_line c) c.aliases)

abbrev pub link_line : LinkRow → DumpLine
link_line l = Link (part_of l.user) l.entry (part_of l.target)

-- where a name's provider has it, for a namespace
abbrev pub provided_at : World → ℕ → List ℕ → Option Found
provided_at w ns name = option_and_then found_at (option_and_then (provided_target w) (provider_for w Attached ns name))

abbrev pub provider_line : World → ℕ → List ℕ → Option DumpLine
provider_line w ns name = option_map (λ f. Provider ns name (part_of f.key) f.offset) (provided_at w ns name)

-- each name that the cell has, in the order of its symbols, and then its aliases
abbrev pub provider_lines : World → Cell → List DumpLine
provider_lines w c = filter_map (λ a. provider_line w c.ns a.name) (names_of c)

-- so many lines of 64 bytes
abbrev pub lines_within : ℕ → Part → ℕ → List ℕ → List DumpLine
lines_within zero at addr bytes = []
lines_within (suc n) at addr bytes = Content at addr (take 64 bytes) ∷ lines_within n at (addr + 64) (drop 64 bytes)

-- as many as the bytes fill, of which the last may be shorter
abbrev pub content_lines : Part → ℕ → List ℕ → List DumpLine
content_lines at addr bytes = lines_within ((length bytes + 63) / 64) at addr bytes

abbrev pub section_lines : (Cell → ObjectSection → List ℕ) → Cell → ObjectSection → List DumpLine
section_lines content c s =
    content_lines (record { cell = c.id.0; section = s.number }) (start_of c.placed s.number) (content c s)

-- all lines but the last
abbrev pub lines_before_end : (Cell → ObjectSection → List ℕ) → World → List DumpLine
lines_before_end content w =
    (Space w.base w.pages ∷ map ns_line (numbered w.namespaces))
    ++ (flat_map cell_lines w.cells
    ++ (map link_line w.links
    ++ (flat_map (provider_lines w) (filter (λ c. is_attached c.standing) w.cells)
    ++ flat_map (λ c. flat_map (section_lines content c) c.object.sections) w.cells)))

abbrev pub lines_by : (Cell → ObjectSection → List ℕ) → World → List DumpLine
lines_by content w = lines_before_end content w ++ End ∷ []

-- what the section holds now
abbrev pub held_in : World → Cell → ObjectSection → List ℕ
held_in w c s = unwrap_or (read w (start_of c.placed s.number) s.size) []

abbrev pub dump_lines : World → List DumpLine
dump_lines w = lines_by (held_in w) w
