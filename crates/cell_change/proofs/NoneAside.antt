-- Where no cell is replaced none is put aside, and no swap counted; where one is, one swap is.
use Rattle.std.proofs.Common.{◌≡◌, ◌<◌, refl, sym, ◌∙◌, ap, subst, arith, ◌+◌, List, [], ◌∷◌, length}
use Rattle.cell_num.specs.declared.ids.CellId.{CellId}
use Rattle.cell_machine.specs.declared.machine.Machine.{Machine}
use Rattle.cell_machine.specs.Same.{IsSame, without_counts}
use Rattle.cell_change.specs.OldCells.{CanReturn, IsAside, among, swaps_for}
use Rattle.cell_change.proofs.Return.Returning.{put_first, put_none}

pub some_swap : (old : List CellId) → 0 < length old → swaps_for old ≡ 1
some_swap [] lt = absurd (omega (arith, lt))
some_swap (c ∷ old) lt = refl

pub none_aside : (m : Machine) (old : List CellId) → old ≡ [] → IsAside m old m
none_aside m old none = subst (λ (cells : List CellId). IsAside m cells m) (sym none) (record {
  cells = refl;
  soft = refl;
  next = refl;
  swaps = omega arith;
  namespaces = refl;
  known = put_first m.spaces.cells (m.swaps + 1);
  space = refl;
  spare = m.memory.spare;
  memory = refl;
  sections = refl;
  rows = refl;
  tasks = refl;
})

pub none_back : (m : Machine) (old : List CellId) → old ≡ [] → (r : CanReturn m old) → IsSame r.before (without_counts r.before m)
none_back m old none r = record {
  cells = r.aside.cells;
  soft = r.aside.soft;
  next = r.aside.next;
  swaps = r.aside.swaps ∙ (ap (λ (cells : List CellId). r.before.swaps + swaps_for cells) none ∙ omega arith);
  namespaces = r.aside.namespaces;
  known = put_none r.before.spaces.cells (r.before.swaps + 1) (among old) m.spaces.cells (λ n. ap (λ (cells : List CellId). among cells n) none) r.aside.known;
  space = r.aside.space;
  spare = r.aside.spare;
  memory = r.aside.memory;
  sections = r.aside.sections;
  rows = r.aside.rows;
  tasks = r.aside.tasks;
}
