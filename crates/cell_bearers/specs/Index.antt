-- The index of names.
--     row_of_symbol index object symbol    what it has for an object's symbol, counted from 0
--     row_of_alias index cell alias        what it has for a cell's alias
--     IsIndex file objects cells index     those are they that bear the name, for each symbol that isn't LOCAL and each alias
--     GetsRow ns old new                   the name of these has a row more
--     IsRowed ns index n                   the row of the one's name has the bearers that all of these make
use Rattle.std.specs.Prelude.{◌≡◌, ◌≤◌, ◌++◌, ℕ, false, List, Some, filter_map, length, slice_get, if◌then◌else◌}
use Rattle.std.specs.List.{list_any}
use Rattle.cell_object.specs.declared.object.Object.{Object}
use Rattle.cell_object.specs.declared.object.Symbol.{Symbol}
use Rattle.cell_object.specs.Parts.{is_local}
use Rattle.cell_audit.specs.declared.written.WrittenAlias.{WrittenAlias}
use Rattle.cell_described.specs.declared.cell.DescribedCell.{DescribedCell}
use Rattle.cell_bearers.specs.declared.bearer.Bearer.{Bearer}
use Rattle.cell_bearers.specs.declared.index.Index.{Index}
use Rattle.cell_bearers.specs.declared.named.Owner.{Owner}
use Rattle.cell_bearers.specs.Bearers.{alias_text, bearers_of}
use Rattle.cell_bearers.specs.Namings.{Named, bearer_of, bearers_among, distinct, is_owners}
use Rattle.cell_bearers.specs.Rows.{HasSameWidths, listed, owned_at, row_at, row_of}

abbrev pub row_of_symbol : Index → ℕ → ℕ → List Bearer
row_of_symbol index object symbol = listed index.bearers.items (row_at index.rows.symbols.items object symbol)

abbrev pub row_of_alias : Index → ℕ → ℕ → List Bearer
row_of_alias index cell alias = listed index.bearers.items (row_at index.rows.aliases.items cell alias)

pub record IsIndex (file : List ℕ) (objects : List Object) (cells : List DescribedCell) (index : Index) : Type 0 where
  pub symbols : (i k : ℕ) (object : Object) (s : Symbol) → slice_get objects i ≡ Some object → slice_get object.symbols k ≡ Some s → is_local s.bind ≡ false
      → row_of_symbol index i k ≡ bearers_of file objects cells s.name
  pub aliases : (i k : ℕ) (c : DescribedCell) (a : WrittenAlias) → slice_get cells i ≡ Some c → slice_get c.aliases.items k ≡ Some a
      → row_of_alias index i k ≡ bearers_of file objects cells (alias_text file a)

pub record GetsRow (ns : List Named) (old new : Index) : Type 0 where
  pub bearers : new.bearers.items ≡ old.bearers.items ++ distinct (filter_map bearer_of ns)
  pub widths : HasSameWidths old.rows new.rows
  pub rows : (o : Owner) → owned_at new.rows o ≡ (if list_any (λ n. is_owners o n.owner) ns then row_of (length old.bearers.items) (length new.bearers.items) else owned_at old.rows o)

pub record IsRowed (ns : List Named) (index : Index) (n : Named) : Type 0 where
  pub bearers : listed index.bearers.items (owned_at index.rows n.owner) ≡ bearers_among n.name ns
  pub within : (owned_at index.rows n.owner).end ≤ length index.bearers.items
