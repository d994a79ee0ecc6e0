-- What an undo gives back, after a write and where regions come and go.
use Rattle.std.proofs.Common.{◌≡◌, refl, sym, ap, ◌∙◌, subst, ℕ, true, List, [], ◌∷◌, ◌++◌, ◌-◌, ◌+◌, ◌<◌, ◌≤◌, Option, Some, None, map, is_some}
use Rattle.std.specs.Prelude.{IfSome, option_and_then, option_map, slice_range, unwrap_or}
use Rattle.std.proofs.lemmas.Bool.{le-leb}
use Rattle.cell_num.specs.Lists.{each_pair, where_true}
use Rattle.cell_world.specs.declared.transfer.Record.{Record}
use Rattle.cell_world.specs.Coherent.{ends_before, shape_of}
use Rattle.cell_world.specs.Placed.Place.{with_region}
use Rattle.cell_world.specs.Running.Turn.{without_region}
use Rattle.cell_world.specs.Running.Memory.{end_of, part_of}
use Rattle.cell_world.specs.Running.Undo.{AreBytes, IsPut, Write, put_in, record_of, undone}
use Rattle.cell_world.specs.World.{Region}
use Rattle.cell_lemmas.proofs.Tasks.Undone.{undo_next, undo_one, undo_shapes, undone_mapped, undone_unmapped}
use Rattle.cell_mem.specs.Inside.{undo_over}
use Rattle.cell_mem.specs.Index.{IsLaid}
use Rattle.cell_mem.specs.State.{HasWrites, MemoryState, before_in, region_with, write_at, written_at}
use Rattle.cell_mem.specs.Undo.{Noted, UndoState, noted, noted_in, with_mapped, with_unmapped}
use Rattle.cell_mem.proofs.LaidApart.{laid_apart}
use Rattle.cell_mem.proofs.Reading.{mapped_is}

abbrev at : Noted → List Region → UndoState
at u before = record { left = u.left; journal = u.journal; before = before }

pub over_mapped : (r : Region) (regions : List Region) (o : Option Noted) → option_map (undo_over (with_region r regions)) o ≡ with_mapped r (option_map (undo_over regions) o)
over_mapped r regions None = refl
over_mapped r regions (Some u) = ap (λ (rs : List Region). Some (at u rs)) (undone_mapped r regions u.journal)

pub over_unmapped : (start : ℕ) (regions : List Region) (o : Option Noted) → option_map (undo_over (without_region start regions)) o ≡ with_unmapped start (option_map (undo_over regions) o)
over_unmapped start regions None = refl
over_unmapped start regions (Some u) = ap (λ (rs : List Region). Some (at u rs)) (undone_unmapped start regions u.journal)

-- a write whose record is the last goes back first
pub over_written : (regions : List Region) (x : Write) (u : Noted) → each_pair ends_before regions ≡ true → AreBytes regions → IsPut regions x
    → (let later : Noted = record { left = u.left - 1; journal = u.journal ++ record_of regions x ∷ [] } in undo_over (put_in regions x) later ≡ noted_in (record_of regions x) (undo_over regions u))
over_written regions x u apart bytes put =
    ap (λ (rs : List Region). let y : UndoState = record { left = u.left - 1; journal = u.journal ++ record_of regions x ∷ []; before = rs } in y)
    (undo_next (put_in regions x) u.journal (record_of regions x) ∙ ap (λ rs. undone rs u.journal) (undo_one regions x apart bytes put))

pub before_noted : (x : Record) (o : Option UndoState) → option_map (λ u. u.before) (noted x o) ≡ option_map (λ u. u.before) o
before_noted x None = refl
before_noted x (Some u) = refl

pub no_undo : (regions : List Region) (o : Option Noted) → option_map (undo_over regions) o ≡ None → o ≡ None
no_undo regions None e = refl
no_undo regions (Some u) e = absurd cc

pub same_shapes : (m : MemoryState) (o : Option Noted) → m.undo ≡ option_map (undo_over m.regions) o → map shape_of (before_in m) ≡ map shape_of m.regions
same_shapes m o e = go o e
  where
    go : (o : Option Noted) → m.undo ≡ option_map (undo_over m.regions) o → map shape_of (before_in m) ≡ map shape_of m.regions
    go None e = ap (λ (u : Option UndoState). map shape_of (unwrap_or (option_map (λ (v : UndoState). v.before) u) m.regions)) e
    go (Some u) e = ap (λ (w : Option UndoState). map shape_of (unwrap_or (option_map (λ (v : UndoState). v.before) w) m.regions)) e ∙ undo_shapes m.regions u.journal

-- where bytes are mapped, there is what a write displaces
pub has_put : (m : MemoryState) (addr width value high : ℕ) → IsLaid m.base m.regions high → is_some (region_with m addr width) ≡ true → IsPut m.regions (write_at addr width value)
has_put m addr width value high laid there =
    let f = mapped_is m addr width high laid there in
    let bytes = slice_range f.region.bytes (addr - f.region.start) (addr - f.region.start + width) in
    ap (λ o. is_some (option_and_then (λ r. part_of r addr width) o)) f.found ∙ ap (λ b. is_some (where_true b bytes)) (le-leb (addr + width) (end_of f.region) f.has.high)

-- a write is left for the one that takes it
pub one_left : (m : MemoryState) (o : Option Noted) (u : Noted) → m.undo ≡ option_map (undo_over m.regions) o → o ≡ Some u → HasWrites m 1 → 0 < u.left
one_left m o u is some left = subst (λ (p : Option UndoState). IfSome p (λ v. 1 ≤ v.left)) (is ∙ ap (option_map (undo_over m.regions)) some) left

-- a write that a begun undo notes
pub noted_put : (old mid then new : MemoryState) (addr width value high : ℕ) (o : Option Noted) (u v : Noted)
    → IsLaid old.base old.regions high → AreBytes old.regions → is_some (region_with old addr width) ≡ true
    → old.undo ≡ option_map (undo_over old.regions) o → o ≡ Some u → v ≡ (record { left = u.left - 1; journal = u.journal ++ record_of old.regions (write_at addr width value) ∷ [] })
    → mid ≡ (record old { undo = None }) → then ≡ (record mid { regions = put_in mid.regions (write_at addr width value) }) → new ≡ (record then { undo = Some (undo_over then.regions v) })
    → new ≡ written_at old addr width value
noted_put old mid then new addr width value high o u v laid bytes there is some later out put again =
    let x = write_at addr width value in
    let y = record_of old.regions x in
    let with : Option UndoState → MemoryState = λ p. record old { regions = put_in old.regions x; undo = p } in
    let put_is : then ≡ with None = put ∙ ap (λ (m : MemoryState). let now : MemoryState = record m { regions = put_in m.regions x } in now) out in
    again
    ∙ ap (λ (m : MemoryState). let now : MemoryState = record m { undo = Some (undo_over m.regions v) } in now) put_is
    ∙ ap (λ (w : Noted). with (Some (undo_over (put_in old.regions x) w))) later
    ∙ ap (λ (w : UndoState). with (Some w)) (over_written old.regions x u (laid_apart old.base old.regions high laid) bytes (has_put old addr width value high laid there))
    ∙ ap (λ (p : Option UndoState). with (noted y p)) (sym (is ∙ ap (option_map (undo_over old.regions)) some))
