-- The first cell without an object, among rows and among cells.
use Rattle.std.proofs.Common.{◌≡◌, ℕ, ◌⊎◌, inl, inr, Bool, true, false, cond, List, [], ◌∷◌, ◌++◌, map, Option, Some, refl, ap, ◌∙◌, true≢false}
use Rattle.std.specs.Prelude.{◌==◌, find, is_none, option_map}
use Rattle.std.specs.List.{flat_map}
use Rattle.std.specs.Option.{option_or}
use Rattle.std.proofs.lemmas.List.Folds.{find-append}
use Rattle.cell_num.specs.Lists.{In}
use Rattle.cell_num.proofs.Elements.{In-append, In-map}
use Rattle.cell_num.proofs.Ranges.{none_found-In}
use Rattle.cell_world.specs.Gather.{Source}
use Rattle.cell_world.specs.declared.line.DumpLine.{DumpLine}
use Rattle.cell_world.specs.declared.line.DumpLine.TheVariants.{Space, Ns, Cell as CellLine, Place, Alias as AliasLine, Link, Provider, Content, End}
use Rattle.cell_audit.specs.Described.{object_of}
use Rattle.cell_audit.specs.Dumps.{Row}
use Rattle.cell_audit.specs.Following.{rank_of}
use Rattle.cell_audit.specs.Placing.{first_lacking, lacks_object}
use Rattle.cell_audit.specs.Written.{AreWritten, alias_row, place_row, rows_of}
use Rattle.cell_audit.specs.declared.written.WrittenCell.{WrittenCell}
use Rattle.cell_described.specs.Finding.{is_lacking, lacking_line}
use Rattle.cell_described.proofs.Selecting.{found_cells}

module _ (sources : List Source) (file : List ℕ) where
  abbrev lacks : Row → Bool
  lacks r = lacks_object sources r.1

  quiet : (l : DumpLine) → (rank_of l == 2) ≡ false → lacks_object sources l ≡ false
  quiet (CellLine cell ns stem file group) e = absurd (true≢false e)
  quiet (Space base pages) e = refl
  quiet (Ns number name parent) e = refl
  quiet (Place cell section start) e = refl
  quiet (AliasLine cell symbol name) e = refl
  quiet (Link user entry target) e = refl
  quiet (Provider ns name at offset) e = refl
  quiet (Content at addr bytes) e = refl
  quiet End e = refl

  abbrev others : WrittenCell → List Row
  others c = map (place_row c.cell) c.places.items ++ map (alias_row file c.cell) c.aliases.items

  others_quiet : (c : WrittenCell) (r : Row) → In r (others c) → lacks r ≡ false
  others_quiet c r i = go (In-append (map (place_row c.cell) c.places.items) (map (alias_row file c.cell) c.aliases.items) r i)
    where
      go : In r (map (place_row c.cell) c.places.items) ⊎ In r (map (alias_row file c.cell) c.aliases.items) → lacks r ≡ false
      go (inl j) = let from = In-map (place_row c.cell) c.places.items r j in ap lacks from.2
      go (inr j) = let from = In-map (alias_row file c.cell) c.aliases.items r j in ap lacks from.2

  skipped : (c : WrittenCell) (rest : List Row) → find lacks (others c ++ rest) ≡ find lacks rest
  skipped c rest =
      find-append lacks (others c) rest
      ∙ ap (λ (o : Option Row). option_or o (find lacks rest)) (none_found-In lacks (others c) (others_quiet c))

  by_cells : (cells : List WrittenCell) → option_map (λ r. r.0) (find lacks (flat_map (rows_of file) cells)) ≡ lacking_line sources cells
  by_cells [] = refl
  by_cells (c ∷ cells) = go (is_none (object_of sources c.file)) (by_cells cells)
    where
      go : (b : Bool) → option_map (λ r. r.0) (find lacks (flat_map (rows_of file) cells)) ≡ lacking_line sources cells
          → option_map (λ r. r.0) (cond b (Some (c.line, CellLine c.cell c.ns c.stem c.file c.group)) (find lacks (others c ++ flat_map (rows_of file) cells)))
          ≡ option_map (λ c. c.line) (cond b (Some c) (find (is_lacking sources) cells))
      go true ih = refl
      go false ih = ap (option_map (λ (r : Row). r.0)) (skipped c (flat_map (rows_of file) cells)) ∙ ih

  pub lacking_is : (rows : List Row) (cells : List WrittenCell) → AreWritten file rows cells → first_lacking sources rows ≡ lacking_line sources cells
  lacking_is rows cells w =
      ap (option_map (λ (r : Row). r.0)) (found_cells lacks (λ r e. quiet r.1 e) rows ∙ ap (find lacks) w.rows_are) ∙ by_cells cells
