-- What a dump's lines say of each of its cells.
use Rattle.std.proofs.Common.{◌≡◌, ℕ, Bool, true, false, cond, List, [], ◌∷◌, ◌++◌, map, Option, Some, None, refl, ap, ◌∙◌, true≢false}
use Rattle.std.specs.Prelude.{◌==◌, filter_map, option_map, option_and_then, unwrap_or}
use Rattle.std.specs.List.{cons_option, flat_map}
use Rattle.std.proofs.lemmas.List.{append-nil}
use Rattle.std.proofs.lemmas.List.Elements.{filter_map-append}
use Rattle.cell_num.specs.Lists.{In, first, where_true}
use Rattle.cell_object.specs.declared.object.Object.{Object}
use Rattle.cell_world.specs.Gather.{Source}
use Rattle.cell_world.specs.World.{Alias, Cell}
use Rattle.cell_world.specs.declared.state.SecPlace.{SecPlace}
use Rattle.cell_world.specs.declared.line.DumpLine.{DumpLine}
use Rattle.cell_world.specs.declared.line.DumpLine.TheVariants.{Space, Ns, Cell as CellLine, Place, Alias as AliasLine, Link, Provider, Content, End}
use Rattle.cell_audit.specs.Described.{alias_of, cell_of, no_object, object_of, place_of, standing_of}
use Rattle.cell_audit.specs.Dumps.{Row, lines_of}
use Rattle.cell_audit.specs.Following.{rank_of}
use Rattle.cell_audit.specs.Placing.{first_object, object_with}
use Rattle.cell_audit.specs.Written.{AreWritten, alias_row, place_row, rows_of}
use Rattle.cell_audit.specs.declared.written.WrittenPlace.{WrittenPlace}
use Rattle.cell_audit.specs.declared.written.WrittenAlias.{WrittenAlias}
use Rattle.cell_audit.specs.declared.written.WrittenCell.{WrittenCell}
use Rattle.cell_described.specs.Describes.{alias_seen, numbered_cell}
use Rattle.cell_described.specs.Faults.{place_seen}
use Rattle.cell_described.proofs.Selecting.{by_rows, each_selected, flat_single, none_selected, of_cells, of_flat, only_one}

-- lines of no cell give nothing
quiet_place : (n : ℕ) (l : DumpLine) → (rank_of l == 2) ≡ false → place_of n l ≡ None
quiet_place n (Place cell section start) e = absurd (true≢false e)
quiet_place n (Space base pages) e = refl
quiet_place n (Ns number name parent) e = refl
quiet_place n (CellLine cell ns stem file group) e = refl
quiet_place n (AliasLine cell symbol name) e = refl
quiet_place n (Link user entry target) e = refl
quiet_place n (Provider ns name at offset) e = refl
quiet_place n (Content at addr bytes) e = refl
quiet_place n End e = refl

quiet_alias : (n : ℕ) (l : DumpLine) → (rank_of l == 2) ≡ false → alias_of n l ≡ None
quiet_alias n (AliasLine cell symbol name) e = absurd (true≢false e)
quiet_alias n (Space base pages) e = refl
quiet_alias n (Ns number name parent) e = refl
quiet_alias n (CellLine cell ns stem file group) e = refl
quiet_alias n (Place cell section start) e = refl
quiet_alias n (Link user entry target) e = refl
quiet_alias n (Provider ns name at offset) e = refl
quiet_alias n (Content at addr bytes) e = refl
quiet_alias n End e = refl

quiet_object : (sources : List Source) (n : ℕ) (l : DumpLine) → (rank_of l == 2) ≡ false → object_with sources n l ≡ None
quiet_object sources n (CellLine cell ns stem file group) e = absurd (true≢false e)
quiet_object sources n (Space base pages) e = refl
quiet_object sources n (Ns number name parent) e = refl
quiet_object sources n (Place cell section start) e = refl
quiet_object sources n (AliasLine cell symbol name) e = refl
quiet_object sources n (Link user entry target) e = refl
quiet_object sources n (Provider ns name at offset) e = refl
quiet_object sources n (Content at addr bytes) e = refl
quiet_object sources n End e = refl

quiet_cell : (sources : List Source) (lines : List DumpLine) (l : DumpLine) → (rank_of l == 2) ≡ false → cell_of sources lines l ≡ None
quiet_cell sources lines (CellLine cell ns stem file group) e = absurd (true≢false e)
quiet_cell sources lines (Space base pages) e = refl
quiet_cell sources lines (Ns number name parent) e = refl
quiet_cell sources lines (Place cell section start) e = refl
quiet_cell sources lines (AliasLine cell symbol name) e = refl
quiet_cell sources lines (Link user entry target) e = refl
quiet_cell sources lines (Provider ns name at offset) e = refl
quiet_cell sources lines (Content at addr bytes) e = refl
quiet_cell sources lines End e = refl

-- those of one cell, where the number is its own
chosen : {X Y : Type 0} (f : Row → Option Y) (g : X → Row) (v : X → Y) (b : Bool) (xs : List X) → ((x : X) → f (g x) ≡ where_true b (v x))
    → filter_map f (map g xs) ≡ cond b (map v xs) []
chosen f g v true xs h = each_selected f g v xs h
chosen f g v false xs h = none_selected f g xs h

cond-nil : {Y : Type 0} (b : Bool) (ys : List Y) → cond b ys [] ++ [] ≡ cond b ys []
cond-nil b ys = append-nil (cond b ys [])

module _ (sources : List Source) (file : List ℕ) where
  places_of : (n : ℕ) (c : WrittenCell) → filter_map (λ r. place_of n r.1) (rows_of file c) ≡ cond (c.cell == n) (map place_seen c.places.items) []
  places_of n c =
      filter_map-append (λ r. place_of n r.1) (map (place_row c.cell) c.places.items) (map (alias_row file c.cell) c.aliases.items)
      ∙ ap (λ (ys : List SecPlace). ys ++ filter_map (λ r. place_of n r.1) (map (alias_row file c.cell) c.aliases.items))
      (chosen (λ r. place_of n r.1) (place_row c.cell) place_seen (c.cell == n) c.places.items (λ p. refl))
      ∙ ap (λ (ys : List SecPlace). cond (c.cell == n) (map place_seen c.places.items) [] ++ ys)
      (none_selected (λ r. place_of n r.1) (alias_row file c.cell) c.aliases.items (λ a. refl))
      ∙ cond-nil (c.cell == n) (map place_seen c.places.items)

  aliases_of : (n : ℕ) (c : WrittenCell) → filter_map (λ r. alias_of n r.1) (rows_of file c) ≡ cond (c.cell == n) (map (alias_seen file) c.aliases.items) []
  aliases_of n c =
      filter_map-append (λ r. alias_of n r.1) (map (place_row c.cell) c.places.items) (map (alias_row file c.cell) c.aliases.items)
      ∙ ap (λ (ys : List Alias). ys ++ filter_map (λ r. alias_of n r.1) (map (alias_row file c.cell) c.aliases.items))
      (none_selected (λ r. alias_of n r.1) (place_row c.cell) c.places.items (λ p. refl))
      ∙ chosen (λ r. alias_of n r.1) (alias_row file c.cell) (alias_seen file) (c.cell == n) c.aliases.items (λ a. refl)

  abbrev own_object : WrittenCell → List Object
  own_object c = cons_option (object_of sources c.file) []

  one_object : (b : Bool) (o : Option Object) → cons_option (option_and_then (λ object. where_true b object) o) [] ≡ cond b (cons_option o []) []
  one_object true None = refl
  one_object false None = refl
  one_object true (Some object) = refl
  one_object false (Some object) = refl

  tail_quiet : {Y : Type 0} (f : Row → Option Y) (c : WrittenCell) → ((p : WrittenPlace) → f (place_row c.cell p) ≡ None) → ((a : WrittenAlias) → f (alias_row file c.cell a) ≡ None)
      → filter_map f (map (place_row c.cell) c.places.items ++ map (alias_row file c.cell) c.aliases.items) ≡ []
  tail_quiet {Y} f c of_place of_alias =
      filter_map-append f (map (place_row c.cell) c.places.items) (map (alias_row file c.cell) c.aliases.items)
      ∙ ap (λ (ys : List Y). ys ++ filter_map f (map (alias_row file c.cell) c.aliases.items)) (none_selected f (place_row c.cell) c.places.items of_place)
      ∙ none_selected f (alias_row file c.cell) c.aliases.items of_alias

  object_here : (n : ℕ) (c : WrittenCell) → filter_map (λ r. object_with sources n r.1) (rows_of file c) ≡ cond (c.cell == n) (own_object c) []
  object_here n c =
      ap (cons_option (option_and_then (λ object. where_true (c.cell == n) object) (object_of sources c.file))) (tail_quiet (λ r. object_with sources n r.1) c (λ p. refl) (λ a. refl))
      ∙ one_object (c.cell == n) (object_of sources c.file)

  first_one : (o : Option Object) → first (cons_option o []) ≡ o
  first_one None = refl
  first_one (Some object) = refl

  module _ (rows : List Row) (cells : List WrittenCell) (w : AreWritten file rows cells) where
    -- cell by cell
    grouped : {Y : Type 0} (f : DumpLine → Option Y) → ((l : DumpLine) → (rank_of l == 2) ≡ false → f l ≡ None)
        → filter_map f (lines_of rows) ≡ flat_map (λ c. filter_map (λ r. f r.1) (rows_of file c)) cells
    grouped f quiet =
        by_rows f rows
        ∙ of_cells (λ r. f r.1) (λ r e. quiet r.1 e) rows
        ∙ ap (filter_map (λ r. f r.1)) w.rows_are
        ∙ of_flat (λ r. f r.1) (rows_of file) cells

    keyed : {Y : Type 0} (f : DumpLine → Option Y) (g : WrittenCell → List Y) (c : WrittenCell) → In c cells → ((l : DumpLine) → (rank_of l == 2) ≡ false → f l ≡ None)
        → ((d : WrittenCell) → filter_map (λ r. f r.1) (rows_of file d) ≡ cond (d.cell == c.cell) (g d) []) → filter_map f (lines_of rows) ≡ g c
    keyed f g c i quiet each =
        grouped f quiet
        ∙ same_flat (λ d. filter_map (λ r. f r.1) (rows_of file d)) (λ d. cond (d.cell == c.cell) (g d) []) cells each
        ∙ only_one (λ (d : WrittenCell). d.cell) g cells w.rising c i
      where
        same_flat : {X Y : Type 0} (f g : X → List Y) (xs : List X) → ((x : X) → f x ≡ g x) → flat_map f xs ≡ flat_map g xs
        same_flat f g [] h = refl
        same_flat {X} {Y} f g (x ∷ xs) h = ap (λ (ys : List Y). ys ++ flat_map f xs) (h x) ∙ ap (λ (ys : List Y). g x ++ ys) (same_flat f g xs h)

    pub known_places : (c : WrittenCell) → In c cells → filter_map (place_of c.cell) (lines_of rows) ≡ map place_seen c.places.items
    known_places c i = keyed (place_of c.cell) (λ d. map place_seen d.places.items) c i (quiet_place c.cell) (places_of c.cell)

    pub known_aliases : (c : WrittenCell) → In c cells → filter_map (alias_of c.cell) (lines_of rows) ≡ map (alias_seen file) c.aliases.items
    known_aliases c i = keyed (alias_of c.cell) (λ d. map (alias_seen file) d.aliases.items) c i (quiet_alias c.cell) (aliases_of c.cell)

    pub known_object : (c : WrittenCell) → In c cells → first_object sources (lines_of rows) c.cell ≡ object_of sources c.file
    known_object c i = ap first (keyed (object_with sources c.cell) own_object c i (quiet_object sources c.cell) (object_here c.cell)) ∙ first_one (object_of sources c.file)

    -- the cell of the described machine
    abbrev pub cell_from : WrittenCell → Cell
    cell_from c =
        record {
          placed = record {
            id = record { 0 = c.cell };
            ns = c.ns;
            stem = c.stem;
            file = c.file;
            object = unwrap_or (object_of sources c.file) no_object;
            places = filter_map (place_of c.cell) (lines_of rows);
          };
          aliases = filter_map (alias_of c.cell) (lines_of rows);
          standing = standing_of c.group;
        }

    quiet_numbered : (r : Row) → (rank_of r.1 == 2) ≡ false → numbered_cell sources rows r ≡ None
    quiet_numbered r e = ap (option_map (λ (c : Cell). (r.0, c))) (quiet_cell sources (lines_of rows) r.1 e)

    cell_alone : (c : WrittenCell) → filter_map (numbered_cell sources rows) (rows_of file c) ≡ (c.line, cell_from c) ∷ []
    cell_alone c = ap (λ (ys : List (ℕ × Cell)). (c.line, cell_from c) ∷ ys) (tail_quiet (numbered_cell sources rows) c (λ p. refl) (λ a. refl))

    pub numbered_cells : filter_map (numbered_cell sources rows) rows ≡ map (λ c. (c.line, cell_from c)) cells
    numbered_cells =
        of_cells (numbered_cell sources rows) quiet_numbered rows
        ∙ ap (filter_map (numbered_cell sources rows)) w.rows_are
        ∙ of_flat (numbered_cell sources rows) (rows_of file) cells
        ∙ each_alone cells
        ∙ flat_single (λ (c : WrittenCell). (c.line, cell_from c)) cells
      where
        each_alone : (cs : List WrittenCell) → flat_map (λ c. filter_map (numbered_cell sources rows) (rows_of file c)) cs ≡ flat_map (λ c. (c.line, cell_from c) ∷ []) cs
        each_alone [] = refl
        each_alone (c ∷ cs) =
            ap (λ (ys : List (ℕ × Cell)). ys ++ flat_map (λ c. filter_map (numbered_cell sources rows) (rows_of file c)) cs) (cell_alone c)
            ∙ ap (λ (ys : List (ℕ × Cell)). (c.line, cell_from c) ∷ ys) (each_alone cs)

    -- without their numbers
    pub unnumbered : (rs : List Row) → map (λ p. p.1) (filter_map (numbered_cell sources rows) rs) ≡ filter_map (cell_of sources (lines_of rows)) (lines_of rs)
    unnumbered [] = refl
    unnumbered (r ∷ rs) = go (cell_of sources (lines_of rows) r.1) (unnumbered rs)
      where
        go : (o : Option Cell) → map (λ p. p.1) (filter_map (numbered_cell sources rows) rs) ≡ filter_map (cell_of sources (lines_of rows)) (lines_of rs)
            → map (λ p. p.1) (cons_option (option_map (λ c. (r.0, c)) o) (filter_map (numbered_cell sources rows) rs)) ≡ cons_option o (filter_map (cell_of sources (lines_of rows)) (lines_of rs))
        go None ih = ih
        go (Some c) ih = ap (λ (cs : List Cell). c ∷ cs) ih
