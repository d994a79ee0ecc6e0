-- The parts of a dump, one behind another, are the whole of it.
use Rattle.std.proofs.Common.{◌≡◌, sym, ◌∙◌, ap, List, [], ◌∷◌, ◌++◌, append_assoc, map}
use Rattle.std.specs.Prelude.{filter, flat_map}
use Rattle.cell_world.specs.declared.state.NewCell.{NewCell}
use Rattle.cell_world.specs.World.{World, Cell, is_attached}
use Rattle.cell_world.specs.declared.line.DumpLine.{DumpLine}
use Rattle.cell_world.specs.declared.line.DumpLine.TheVariants.{End}
use Rattle.cell_world.specs.DumpLines.{cell_lines, dump_lines, held_in, link_line, provider_lines, section_lines}
use Rattle.cell_space.specs.Joined.{placed_of}
use Rattle.cell_machine.specs.declared.machine.Machine.{Machine}
use Rattle.cell_machine.specs.Machine.{IsSound, world_of}
use Rattle.cell_view.specs.Whole.{content_shown, space_lines}
use Rattle.cell_view.proofs.Behind.{flat_over}

-- the contents of cells, by their places
pub all_contents : (m : Machine) → IsSound m
    → flat_map (λ (c : NewCell). flat_map (content_shown m.memory.regions c) c.object.sections) m.cells.items ≡ flat_map (λ (c : Cell). flat_map (section_lines (held_in (world_of m)) c) c.object.sections) (world_of m).cells
all_contents m sound =
    ap (flat_map (λ (c : NewCell). flat_map (content_shown m.memory.regions c) c.object.sections)) (sym sound.joined.placed)
    ∙ flat_over (λ (c : NewCell). flat_map (content_shown m.memory.regions c) c.object.sections) placed_of (world_of m).cells

joined : (none spaces cells links names bytes end : List DumpLine) → none ≡ [] → none ++ spaces ++ cells ++ links ++ names ++ bytes ++ end ≡ (spaces ++ (cells ++ (links ++ (names ++ bytes)))) ++ end
joined none spaces cells links names bytes end empty =
    ap (λ (v : List DumpLine). v ++ spaces ++ cells ++ links ++ names ++ bytes ++ end) empty
    ∙ ap (λ (v : List DumpLine). v ++ end)
    (append_assoc (spaces ++ cells ++ links) names bytes
    ∙ (append_assoc (spaces ++ cells) links (names ++ bytes) ∙ append_assoc spaces cells (links ++ (names ++ bytes))))

abbrev rows : World → List DumpLine
rows w = map link_line w.links

abbrev providers : World → List DumpLine
providers w = flat_map (provider_lines w) (filter (λ c. is_attached c.standing) w.cells)

abbrev contents : World → List DumpLine
contents w = flat_map (λ c. flat_map (section_lines (held_in w) c) c.object.sections) w.cells

-- each part stands behind those before it
pub whole_dump : (w : World) (none spaces cells links names bytes all : List DumpLine) → none ≡ [] → spaces ≡ none ++ space_lines w → cells ≡ spaces ++ flat_map cell_lines w.cells → links ≡ cells ++ rows w
    → names ≡ links ++ providers w → bytes ≡ names ++ contents w → all ≡ bytes ++ End ∷ [] → all ≡ dump_lines w
whole_dump w none spaces cells links names bytes all empty s c l n b e =
    e
    ∙ (ap (λ (v : List DumpLine). v ++ End ∷ [])
    (b
    ∙ (ap (λ (v : List DumpLine). v ++ contents w) (n ∙ (ap (λ (v : List DumpLine). v ++ providers w) (l ∙ (ap (λ (v : List DumpLine). v ++ rows w) (c ∙ ap (λ (v : List DumpLine). v ++ flat_map cell_lines w.cells) s)))))))
    ∙ joined none (space_lines w) (flat_map cell_lines w.cells) (rows w) (providers w) (contents w) (End ∷ []) empty)
