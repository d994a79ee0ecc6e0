-- The cells that were found and placed are those of the described machine.
use Rattle.std.proofs.Common.{◌≡◌, ℕ, ◌*◌, ◌<◌, true, false, List, [], ◌∷◌, map, length, Option, Some, None, Err, refl, sym, ap, subst, ◌∙◌}
use Rattle.std.specs.Prelude.{All, filter_map, nat_lt, unwrap_or}
use Rattle.cell_num.specs.Limits.{page_size}
use Rattle.cell_num.specs.Lists.{In, each_pair}
use Rattle.cell_num.proofs.Elements.{All-In, In-All, In-map, get-In, map-In, map_same, pairs-map}
use Rattle.cell_object.specs.declared.object.Object.{Object}
use Rattle.cell_world.specs.Coherent.{IsLoadable}
use Rattle.cell_world.specs.Gather.{Source}
use Rattle.cell_world.specs.World.{Alias, Cell}
use Rattle.cell_world.specs.declared.state.SecPlace.{SecPlace}
use Rattle.cell_audit.specs.Described.{cell_of, no_object, object_of, place_of, space_of, standing_of}
use Rattle.cell_audit.specs.Dumps.{Row, lines_of}
use Rattle.cell_audit.specs.Placing.{first_lacking, first_misplaced}
use Rattle.cell_audit.specs.Written.{AreWritten}
use Rattle.cell_audit.specs.declared.written.WrittenCell.{WrittenCell}
use Rattle.cell_described.specs.declared.cell.DescribedCell.{DescribedCell}
use Rattle.cell_described.specs.declared.describing.Described.{Described}
use Rattle.cell_described.specs.declared.fail.DescribeFail.{DescribeFail}
use Rattle.cell_described.specs.declared.fail.DescribeFail.TheVariants.{NoObject, Misplaced, OutOfMemory}
use Rattle.cell_described.specs.declared.finding.FoundCell.{FoundCell}
use Rattle.cell_described.specs.Describes.{Describes, IsDescribed, alias_seen, cell_seen, numbered_cell}
use Rattle.cell_described.specs.Faults.{cells_fault, object_at, place_seen}
use Rattle.cell_described.specs.Finding.{AreFound, Finds, lacking_line}
use Rattle.cell_described.specs.Objects.{HasObject}
use Rattle.cell_described.specs.Placing.{FailsToPlace, described_of}
use Rattle.cell_described.specs.Taken.{all_free}
use Rattle.cell_described.proofs.Founds.{all_found}
use Rattle.cell_described.proofs.Kept.{get_below}
use Rattle.cell_described.proofs.Lacking.{lacking_is}
use Rattle.cell_described.proofs.Lines.{cell_from, known_aliases, known_object, known_places, numbered_cells, unnumbered}
use Rattle.cell_described.specs.Standing.{Stand}
use Rattle.cell_described.proofs.Marks.{AreTaken, none_taken}
use Rattle.cell_described.proofs.Stood.{cells_stand}
use Rattle.std.proofs.lemmas.List.{length-replicate}
use Rattle.cell_described.proofs.Walking.{IsKnown, misplaced_is}

map_map : {X Y Z : Type 0} (f : Y → Z) (g : X → Y) (xs : List X) → map f (map g xs) ≡ map (λ x. f (g x)) xs
map_map f g [] = refl
map_map {Z = Z} f g (x ∷ xs) = ap (λ (zs : List Z). f (g x) ∷ zs) (map_map f g xs)

module _ (sources : List Source) (file : List ℕ) (rows : List Row) (cells : List WrittenCell) (base pages : ℕ)
    (w : AreWritten file rows cells) (space : space_of (lines_of rows) ≡ (base, pages)) where
  -- a cell lacks its object
  is_lacking_one : (line : ℕ) → lacking_line sources cells ≡ Some line → first_lacking sources rows ≡ Some line
  is_lacking_one line e = lacking_is sources file rows cells w ∙ e

  pub unfound : (fail : DescribeFail) → Finds sources cells (Err fail) → Describes sources file rows (Err fail)
  unfound (NoObject line) e = is_lacking_one line e
  unfound (Misplaced line) e = absurd e
  unfound OutOfMemory e = tt

  module _ (objects : List Object) (found : List FoundCell) (a : AreFound sources cells objects found) where
    held : (f : FoundCell) → In f found → HasObject sources f.cell.file objects f.object
    held f i = All-In (λ (f : FoundCell). HasObject sources f.cell.file objects f.object) found a.held f i

    there : (f : FoundCell) → In f found → In f.cell cells
    there f i = subst (In f.cell) a.cells_are (map-In (λ (f : FoundCell). f.cell) found f i)

    known : (f : FoundCell) → In f found → IsKnown sources (lines_of rows) objects f
    known f i =
        let h = held f i in
        record {
          object = h.object;
          named = known_object sources file rows cells w f.cell (there f i) ∙ h.is;
          at = ap (λ (o : Option Object). unwrap_or o no_object) h.at;
          rising = (All-In IsLoadable objects a.loadable h.object (get-In objects f.object h.object h.at)).sound.numbers;
          places = known_places sources file rows cells w f.cell (there f i);
        }

    pub none_lacking : first_lacking sources rows ≡ None
    none_lacking = lacking_is sources file rows cells w ∙ all_found sources cells objects found a

    pub misplaced : first_misplaced sources rows ≡ cells_fault (all_free base pages) objects found
    misplaced =
        misplaced_is sources file rows found objects (all_free base pages) (subst (AreWritten file rows) (sym a.cells_are) w) known
        (subst (λ (s : ℕ × ℕ). AreTaken s [] (all_free base pages)) (sym space) (none_taken base pages))

    -- the cell of the machine
    abbrev made : FoundCell → Object → List SecPlace → List Alias → Cell
    made f object places aliases =
        record {
          placed = record { id = record { 0 = f.cell.cell }; ns = f.cell.ns; stem = f.cell.stem; file = f.cell.file; object = object; places = places };
          aliases = aliases;
          standing = standing_of f.cell.group;
        }

    same_cell : (f : FoundCell) → In f found → cell_seen file objects (described_of f) ≡ cell_from sources file rows cells w f.cell
    same_cell f i =
        let h = held f i in
        ap (λ (o : Option Object). made f (unwrap_or o no_object) (map place_seen f.cell.places.items) (map (alias_seen file) f.cell.aliases.items)) (h.at ∙ sym h.is)
        ∙ ap (λ (ps : List SecPlace). made f (unwrap_or (object_of sources f.cell.file) no_object) ps (map (alias_seen file) f.cell.aliases.items)) (sym (known_places sources file rows cells w f.cell (there f i)))
        ∙ ap (λ (names : List Alias). made f (unwrap_or (object_of sources f.cell.file) no_object) (filter_map (place_of f.cell.cell) (lines_of rows)) names) (sym (known_aliases sources file rows cells w f.cell (there f i)))

    abbrev numbered : List DescribedCell → List (ℕ × Cell)
    numbered ds = map (λ c. (c.line, cell_seen file objects c)) ds

    lines_same : (ds : List DescribedCell) → ds ≡ map described_of found → numbered ds ≡ filter_map (numbered_cell sources rows) rows
    lines_same ds e =
        ap numbered e
        ∙ map_map (λ (c : DescribedCell). (c.line, cell_seen file objects c)) described_of found
        ∙ map_same (λ (f : FoundCell). (f.cell.line, cell_seen file objects (described_of f))) (λ (f : FoundCell). (f.cell.line, cell_from sources file rows cells w f.cell)) found
        (λ f i. ap (λ (c : Cell). (f.cell.line, c)) (same_cell f i))
        ∙ sym (map_map (λ (c : WrittenCell). (c.line, cell_from sources file rows cells w c)) (λ (f : FoundCell). f.cell) found)
        ∙ ap (map (λ (c : WrittenCell). (c.line, cell_from sources file rows cells w c))) a.cells_are
        ∙ sym (numbered_cells sources file rows cells w)

    objects_there : (ds : List DescribedCell) → ds ≡ map described_of found → All (λ c. c.object < length objects) ds
    objects_there ds e =
        subst (All (λ (c : DescribedCell). c.object < length objects)) (sym e)
        (In-All (λ (c : DescribedCell). c.object < length objects) (map described_of found)
        (λ c i. let from = In-map described_of found c i in
        let h = held from.0 from.1 in
        subst (λ (d : DescribedCell). d.object < length objects) (sym from.2) (get_below objects from.0.object h.object h.at)))

    stand : (ds : List DescribedCell) → ds ≡ map described_of found → cells_fault (all_free base pages) objects found ≡ None
        → All (λ c. Stand (space_of (lines_of rows)) (object_at objects c.object).sections c.places) ds
    stand ds e fault =
        subst (λ (s : ℕ × ℕ). All (λ (c : DescribedCell). Stand s (object_at objects c.object).sections c.places) ds) (sym space)
        (subst (All (λ (c : DescribedCell). Stand (base, pages) (object_at objects c.object).sections c.places)) (sym e)
        (cells_stand base pages objects found (all_free base pages) (record { base_is = refl; size = length-replicate (page_size * pages) false }) fault))

    from : (ds : List DescribedCell) → ds ≡ map described_of found → (d : DescribedCell) → In d ds → (f : FoundCell) × In f found × (d ≡ described_of f)
    from ds e d i = In-map described_of found d (subst (In d) e i)

    -- an object for each file
    numbers_rise : (ds : List DescribedCell) → ds ≡ map described_of found → each_pair (λ x y. nat_lt x.id.0 y.id.0) ds ≡ true
    numbers_rise ds e =
        ap (each_pair (λ (x y : DescribedCell). nat_lt x.id.0 y.id.0)) e
        ∙ pairs-map (λ (x y : DescribedCell). nat_lt x.id.0 y.id.0) described_of found
        ∙ sym (pairs-map (λ (x y : WrittenCell). nat_lt x.cell y.cell) (λ (f : FoundCell). f.cell) found)
        ∙ ap (each_pair (λ (x y : WrittenCell). nat_lt x.cell y.cell)) a.cells_are
        ∙ w.rising

    objects_shared : (ds : List DescribedCell) → ds ≡ map described_of found → (c d : DescribedCell) → In c ds → In d ds → c.file ≡ d.file → c.object ≡ d.object
    objects_shared ds e c d i j same =
        let x = from ds e c i in
        let y = from ds e d j in
        ap (λ (z : DescribedCell). z.object) x.2
        ∙ a.shared x.0 y.0 x.1 y.1 (ap (λ (z : DescribedCell). z.file) (sym x.2) ∙ same ∙ ap (λ (z : DescribedCell). z.file) y.2)
        ∙ ap (λ (z : DescribedCell). z.object) (sym y.2)

    objects_used : (ds : List DescribedCell) → ds ≡ map described_of found → (place : ℕ) → place < length objects → (d : DescribedCell) × In d ds × (d.object ≡ place)
    objects_used ds e place lt =
        let u = a.used place lt in
        (described_of u.0, subst (In (described_of u.0)) (sym e) (map-In described_of found u.0 u.1), u.2)

    -- all stand where they may
    pub all_described : (d : Described) → d.objects.items ≡ objects → cells_fault (all_free base pages) objects found ≡ None → d.cells.items ≡ map described_of found
        → IsDescribed sources file rows d
    all_described d os fault e =
        let lines = lines_same d.cells.items e in
        let whole : map (cell_seen file objects) d.cells.items ≡ filter_map (cell_of sources (lines_of rows)) (lines_of rows) =
        sym (map_map (λ (p : ℕ × Cell). p.1) (λ (c : DescribedCell). (c.line, cell_seen file objects c)) d.cells.items)
        ∙ ap (map (λ (p : ℕ × Cell). p.1)) lines
        ∙ unnumbered sources file rows cells w rows in
        record {
          none_lacking = none_lacking;
          none_misplaced = misplaced ∙ fault;
          cells_are = ap (λ (os : List Object). map (cell_seen file os) d.cells.items) os ∙ whole;
          lines_are = ap (λ (os : List Object). map (λ c. (c.line, cell_seen file os c)) d.cells.items) os ∙ lines;
          objects_there = subst (λ (os : List Object). All (λ c. c.object < length os) d.cells.items) (sym os) (objects_there d.cells.items e);
          loadable = subst (All IsLoadable) (sym os) a.loadable;
          stand = subst (λ (os : List Object). All (λ c. Stand (space_of (lines_of rows)) (object_at os c.object).sections c.places) d.cells.items) (sym os) (stand d.cells.items e fault);
          rising = numbers_rise d.cells.items e;
          shared = objects_shared d.cells.items e;
          used = λ place lt. objects_used d.cells.items e place (subst (λ (xs : List Object). place < length xs) os lt);
        }

    -- one can't stand where it is placed
    pub unplaced : (fail : DescribeFail) → FailsToPlace objects (all_free base pages) found fail → Describes sources file rows (Err fail)
    unplaced (NoObject line) e = absurd e
    unplaced (Misplaced line) e = (none_lacking, misplaced ∙ e)
    unplaced OutOfMemory e = tt
