-- The machine that a dump describes, linked anew: what can't be linked, and what is shown of it then.
--     first_unlinked sources lines w rows     the first entry that lacks a provider or doesn't fit, and its cell's line
--     relinked_bytes w c s own                the section with its fields written over what it held
--     fresh_lines lines w                     what a dump of w linked anew shows, where writable sections held what the lines tell
use Rattle.std.specs.Prelude.{ℕ, Bool, false, not, ◌&&◌, ◌||◌, List, [], ◌∷◌, Option, None, is_none, fold, position, option_map, option_and_then, unwrap_or, if◌then◌else◌}
use Rattle.cell_num.specs.Lists.{or_else}
use Rattle.cell_object.specs.declared.object.Section.{Section as ObjectSection}
use Rattle.cell_object.specs.declared.object.Entry.{Entry}
use Rattle.cell_object.specs.declared.object.Symbol.{Symbol}
use Rattle.cell_object.specs.Parts.{is_global, is_undefined, symbol_at}
use Rattle.cell_world.specs.Linked.Field.{Bound, fits}
use Rattle.cell_world.specs.Linked.Fresh.{fields_in, with_value}
use Rattle.cell_world.specs.Gather.{Source}
use Rattle.cell_world.specs.Placed.Layout.{own_bytes}
use Rattle.cell_world.specs.Names.{provider_of}
use Rattle.cell_world.specs.Linked.Relink.{bound_entries, links_of}
use Rattle.cell_world.specs.World.{World, Cell}
use Rattle.cell_world.specs.DumpLines.{lines_by}
use Rattle.cell_world.specs.declared.line.DumpLine.{DumpLine}
use Rattle.cell_audit.specs.Described.{cell_of, told}
use Rattle.cell_audit.specs.Dumps.{Row}

abbrev pub is_lacking : World → Cell → Symbol → Bool
is_lacking w c s = is_global s.bind && is_undefined s.home && is_none (provider_of w c s.name)

-- the entry names a need without a provider
abbrev pub lacks_provider : World → Cell → Entry → Bool
lacks_provider w c e = unwrap_or (option_map (is_lacking w c) (symbol_at c.object e.symbol)) false

abbrev pub is_unlinked : World → Cell → Bound → Bool
is_unlinked w c b = lacks_provider w c b.entry || not (fits c.placed (bound_entries w c) b)

abbrev pub unlinked_in : World → Cell → Option ℕ
unlinked_in w c = position (is_unlinked w c) (bound_entries w c)

-- the number of the cell's line, and the entry's place
abbrev pub unlinked_at : List Source → List DumpLine → World → Row → Option (ℕ × ℕ)
unlinked_at sources lines w r = option_map (λ entry. (r.0, entry)) (option_and_then (unlinked_in w) (cell_of sources lines r.1))

abbrev pub first_unlinked : List Source → List DumpLine → World → List Row → Option (ℕ × ℕ)
first_unlinked sources lines w [] = None
first_unlinked sources lines w (r ∷ rows) = or_else (unlinked_at sources lines w r) (first_unlinked sources lines w rows)

abbrev pub relinked_bytes : World → Cell → ObjectSection → List ℕ → List ℕ
relinked_bytes w c s own = fold (with_value w c) own (fields_in c.object s)

-- what a section holds once it is linked anew: what isn't writable begins with its own bytes
abbrev pub relinked_content : List DumpLine → World → Cell → ObjectSection → List ℕ
relinked_content lines w c s = relinked_bytes w c s (if s.write then told lines c s else own_bytes s s.fill)

abbrev pub fresh_lines : List DumpLine → World → List DumpLine
fresh_lines lines w = lines_by (relinked_content lines w) (record w { links = links_of w })
