-- The rows of names and addresses, cell by cell.
use Rattle.std.proofs.Common.{◌≡◌, sym, ap, ◌∙◌, arith, ℕ, zero, suc, ◌<◌, List, [], ◌∷◌, ◌++◌, Option, Some, append-nil, get_or, length, take}
use Rattle.std.specs.Prelude.{◌==◌, find, option_map, unwrap_or}
use Rattle.std.proofs.lemmas.List.{append_assoc}
use Rattle.cell_num.specs.declared.ids.CellId.{CellId}
use Rattle.cell_world.specs.declared.state.NewCell.{NewCell}
use Rattle.cell_world.specs.World.{Alias}
use Rattle.cell_space.specs.declared.cell.SpaceCell.{SpaceCell}
use Rattle.cell_space.specs.Named.{cell_numbered}
use Rattle.cell_machine.specs.declared.machine.Machine.{Machine}
use Rattle.cell_routines.specs.Placed.{addresses_by}
use Rattle.cell_change.specs.Transferring.{names_in, new_rows, old_rows, rows_in}

-- one cell more
pub old_more : (m : Machine) (ids : List CellId) (k : ℕ) (d : CellId) → k < length ids → old_rows m (take k ids) ++ rows_in m (get_or ids k d) ≡ old_rows m (take (suc k) ids)
old_more m [] k d lt = absurd (omega (arith, lt))
old_more m (x ∷ ids) zero d lt = sym (append-nil (rows_in m x))
old_more m (x ∷ ids) (suc k) d lt =
    append_assoc (rows_in m x) (old_rows m (take k ids)) (rows_in m (get_or ids k d))
    ∙ ap (λ (rows : List (List ℕ × ℕ)). rows_in m x ++ rows) (old_more m ids k d (omega (arith, lt)))

pub new_more : (cells : List NewCell) (names : List (List Alias)) (k : ℕ) (c : NewCell) (n : List Alias) → length names ≡ length cells → k < length cells
    → new_rows (take k cells) (take k names) ++ addresses_by (get_or cells k c) (get_or names k n) ≡ new_rows (take (suc k) cells) (take (suc k) names)
new_more [] names k c n long lt = absurd (omega (arith, lt))
new_more (x ∷ cells) [] k c n long lt = absurd (omega (arith, long))
new_more (x ∷ cells) (own ∷ names) zero c n long lt = sym (append-nil (addresses_by x own))
new_more (x ∷ cells) (own ∷ names) (suc k) c n long lt =
    append_assoc (addresses_by x own) (new_rows (take k cells) (take k names)) (addresses_by (get_or cells k c) (get_or names k n))
    ∙ ap (λ (rows : List (List ℕ × ℕ)). addresses_by x own ++ rows) (new_more cells names k c n (omega (arith, long)) (omega (arith, lt)))

-- of a cell that was found with its names
pub rows_found : (m : Machine) (id : CellId) (c : NewCell) (names : List Alias) → Some c ≡ find (λ (x : NewCell). x.id.0 == id.0) m.cells.items
    → option_map (λ (x : SpaceCell). x.names) (cell_numbered m.spaces.cells id.0) ≡ Some names → addresses_by c names ≡ rows_in m id
rows_found m id c names found known =
    ap (λ (ns : List Alias). addresses_by c ns) (ap (λ (o : Option (List Alias)). unwrap_or o []) (sym known))
    ∙ ap (λ (o : Option NewCell). unwrap_or (option_map (λ (x : NewCell). addresses_by x (names_in m id.0)) o) []) found
