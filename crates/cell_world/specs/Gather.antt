-- Which cells a load brings. Until they are placed they have no starts.
--     Source, source_of file      a file of the folder: its name, and what its bytes are read as, lowered
--     depot_files, file_named     the files of a namespace and a stem; the file of a name
--     if_room w go                go on, where there may be one more cell
--     with_next w c               w with the cell, which has the next number
--     append_cell w f ns          w with a cell from the file, attached, or the first refusal
--     grown w cells               w with these cells behind its own
--     first_lack w c              the first need of a cell that has no provider
--     bring sources w cells       append what the cells need, until nothing is lacking
use Rattle.std.specs.Prelude.{fold, if◌then◌else◌, ℕ, zero, suc, ◌+◌, ◌==◌, nat_lt, nat_le, Bool, not, ◌&&◌, ◌||◌, List, [], ◌∷◌, ◌++◌, Option, Some, None, Result, Ok, Err, map, filter, slice_get, length, find, is_none, option_map}
use Rattle.std.specs.List.{before_first, after_first}
use Rattle.cell_object.specs.declared.object.Object.{Object}
use Rattle.cell_object.specs.Bytes.{Broken}
use Rattle.cell_object.specs.Reads.{reads}
use Rattle.cell_got.specs.Lower.{lowered}
use Rattle.cell_world.specs.declared.file.File.{File}
use Rattle.cell_world.specs.declared.refusal.Refusal.{Refusal}
use Rattle.cell_world.specs.declared.refusal.Refusal.TheVariants.{TooMany, Ambiguous, BadObject, Duplicate, Missing}
use Rattle.cell_world.specs.declared.refusal.Many.TheVariants.{Cells, CellNumbers}
use Rattle.cell_num.specs.Limits.{max_cells, max_cell_number}
use Rattle.cell_world.specs.World.{World, Cell, Alias}
use Rattle.cell_world.specs.declared.state.Standing.TheVariants.{Attached}
use Rattle.cell_world.specs.Names.{chain, of_cell, has_stem_by, needs_of, definitions_of, provider_of, clash_stem, clash_name, crate_of}
use Rattle.cell_num.specs.Lists.{equals, is_before, first, or_else}
use Rattle.cell_world.specs.Outcome.{Outcome, ◌>>=◌, ◌>>◌, need, found, refused_by}

-- a file: its name, and what its bytes are read as, with slots for the entries that ask for them
pub record Source : Type 0 where
  pub name : List ℕ
  pub reading : Result Object Broken

abbrev pub source_of : File → Source
source_of file = record { name = file.name; reading = lowered (reads file.bytes) }

-- NS of NS#STEM.o and NS#STEM-HASH.o
abbrev pub ns_of_file : List ℕ → List ℕ
ns_of_file name = before_first (λ b. b == 35) name

-- STEM of NS#STEM.o and NS#STEM-HASH.o
abbrev pub stem_of_file : List ℕ → List ℕ
stem_of_file name = before_first (λ b. b == 45 || b == 46) (after_first (λ b. b == 35) name)

abbrev pub file_named : List Source → List ℕ → Option Source
file_named sources name = find (λ f. equals f.name name) sources

abbrev pub with_source : Source → List Source → List Source
with_source f [] = f ∷ []
with_source f (g ∷ files) = if is_before f.name g.name then f ∷ g ∷ files else g ∷ with_source f files

-- in byte order of names
abbrev pub depot_files : List Source → List ℕ → List ℕ → List Source
depot_files sources ns stem =
    fold (λ sorted f. with_source f sorted) []
    (filter (λ f. equals (ns_of_file f.name) ns && equals (stem_of_file f.name) stem) sources)

abbrev pub name_of_ns : World → ℕ → List ℕ
name_of_ns w ns = elim (slice_get w.namespaces ns) [ None ↦ [] | Some space ↦ space.name ]

-- the one file, or the refusal
abbrev pub one_file : List Source → Refusal → Outcome Source
one_file [] lacking = Err lacking
one_file (f ∷ []) lacking = Ok f
one_file (f ∷ g ∷ rest) lacking = Err (Ambiguous f.name g.name)

abbrev pub duplicate : List ℕ → ℕ → Refusal
duplicate name holder = Duplicate name (record { 0 = holder })

abbrev pub clash_among : World → ℕ → List Alias → Option Refusal
clash_among w ns [] = None
clash_among w ns (a ∷ names) = or_else (option_map (duplicate a.name) (clash_name w ns a.name)) (clash_among w ns names)

abbrev pub object_in : Source → Outcome Object
object_in f = elim f.reading [ Ok object ↦ Ok object | Err broken ↦ Err (BadObject f.name broken.0 broken.1) ]

abbrev pub new_cell : World → ℕ → Source → Object → Cell
new_cell w ns f object =
    record {
      placed = record { id = record { 0 = w.next_cell }; ns = ns; stem = stem_of_file f.name; file = f.name; object = object; places = [] };
      aliases = [];
      standing = Attached;
    }

abbrev pub if_room : World → Outcome World → Outcome World
if_room w go = do
  need (nat_lt (length w.cells) max_cells) (TooMany Cells max_cells)
  need (nat_le w.next_cell max_cell_number) (TooMany CellNumbers max_cell_number)
  go

abbrev pub with_next : World → Cell → World
with_next w c = record w { cells = w.cells ++ c ∷ []; next_cell = suc w.next_cell }

abbrev pub append_cell : World → Source → ℕ → Outcome World
append_cell w f ns =
    if_room w (do
      object ← object_in f
      refused_by (option_map (duplicate (stem_of_file f.name)) (clash_stem w ns (stem_of_file f.name)))
      refused_by (clash_among w ns (definitions_of object))
      Ok (with_next w (new_cell w ns f object)))

abbrev pub grown : World → List Cell → World
grown w cells = record w { cells = w.cells ++ cells; next_cell = w.next_cell + length cells }

-- a need of a cell
pub record Need : Type 0 where
  pub cell : Cell
  pub name : List ℕ

abbrev pub lacks_of : World → Cell → List Need
lacks_of w c =
    map (λ name. record { cell = c; name = name }) (filter (λ name. is_none (provider_of w c name)) (needs_of c.object))

-- the first need without a provider, by cells and then by symbols
abbrev pub first_lack : World → List Cell → Option Need
first_lack w [] = None
first_lack w (c ∷ cells) = or_else (first (lacks_of w c)) (first_lack w cells)

abbrev pub missing : Need → Refusal
missing lack = Missing lack.name (record { 0 = lack.cell.id.0 })

-- an attached cell of the machine in one of the namespaces has the stem
abbrev pub has_stem_in : World → List ℕ → List ℕ → Bool
has_stem_in w spaces stem = has_stem_by of_cell spaces stem w.cells

-- the nearest namespace of the chain whose depot has a file of the stem, with the one such file
abbrev pub nearest_file : World → List Source → List ℕ → List ℕ → Refusal → Outcome (ℕ × Source)
nearest_file w sources [] stem lacking = Err lacking
nearest_file w sources (ns ∷ spaces) stem lacking =
    elim (depot_files sources (name_of_ns w ns) stem) [
      | [] ↦ nearest_file w sources spaces stem lacking
      | f ∷ files ↦ one_file (f ∷ files) lacking >>= (λ file. Ok (ns, file))
    ]

-- the cell that brings the need, appended
abbrev pub bring_one : List Source → World → Need → Outcome World
bring_one sources w lack =
    let spaces = chain w.namespaces lack.cell.ns in
    do
      stem ← found (crate_of lack.name) (missing lack)
      need (not (has_stem_in w spaces stem)) (missing lack)
      file ← nearest_file w sources spaces stem (missing lack)
      append_cell w file.1 file.0

-- the cells that are there since that number was the next
abbrev pub fresh_cells : ℕ → World → List Cell
fresh_cells from w = filter (λ c. nat_le from c.id.0) w.cells

-- each turn appends a cell, so as many turns as there may be cells are enough
abbrev pub bring_within : ℕ → List Source → ℕ → World → Outcome World
bring_within zero sources from w = Ok w
bring_within (suc turns) sources from w =
    elim (first_lack w (fresh_cells from w)) [
      | None ↦ Ok w
      | Some lack ↦ bring_one sources w lack >>= (λ more. bring_within turns sources from more)
    ]

abbrev pub bring : List Source → ℕ → World → Outcome World
bring sources from w = bring_within (suc max_cells) sources from w
