-- What an undo gives back where regions were mapped and fields written since.
use Rattle.std.proofs.Common.{◌≡◌, refl, ap, subst, sym, ◌∙◌, arith, ℕ, ◌+◌, ◌≤◌, List, [], ◌∷◌, Option, Some, length, true, is_some}
use Rattle.std.specs.Prelude.{IfSome, fold, option_map, unwrap_or}
use Rattle.cell_world.specs.Running.Undo.{Write, record_of}
use Rattle.cell_world.specs.World.{Region}
use Rattle.cell_link.specs.declared.value.FieldValue.{FieldValue}
use Rattle.cell_mem.specs.State.{HasWrites, MemoryState, before_in, begun_at, write_at}
use Rattle.cell_mem.specs.Undo.{UndoState, begun, noted, noted_in}
use Rattle.cell_commit.specs.Commit.{all_mapped, field_patched, field_written, fields_patched, fields_written}
use Rattle.cell_commit.proofs.Mapping.{mapped_base, mapped_begun, mapped_pages}
use Rattle.cell_commit.proofs.Writing.{patched_base, patched_pages, written_base, written_pages}

abbrev write_of : FieldValue → Write
write_of f = write_at f.addr f.width f.value

-- an undo of whose writes so many were taken
record Taken (u : UndoState) (count : ℕ) (o : Option UndoState) : Type 0 where
  after : UndoState
  is : o ≡ Some after
  before : after.before ≡ u.before
  left : u.left ≤ after.left + count

-- each field takes one
all_taken : (step : MemoryState → FieldValue → MemoryState) → ((m : MemoryState) (f : FieldValue) → (step m f).undo ≡ noted (record_of m.regions (write_of f)) m.undo)
    → (m : MemoryState) (fields : List FieldValue) (u : UndoState) → m.undo ≡ Some u → Taken u (length fields) (fold step m fields).undo
all_taken step notes m [] u e = record { after = u; is = e; before = refl; left = omega arith }
all_taken step notes m (f ∷ fields) u e =
    let x = record_of m.regions (write_of f) in
    let rest = all_taken step notes (step m f) fields (noted_in x u) (notes m f ∙ ap (noted x) e) in
    record { after = rest.after; is = rest.is; before = rest.before; left = let l = rest.left in omega (arith, l) }

-- the memory in which regions are mapped and fields written while an undo is begun
module _ (m : MemoryState) (count : ℕ) (regions : List Region) (patches fields : List FieldValue) where
  abbrev pub mid : MemoryState
  mid = all_mapped (begun_at m count) regions

  abbrev pub end : MemoryState
  end = fields_written (fields_patched mid patches) fields

  pub end_base : end.base ≡ m.base
  end_base = written_base (fields_patched mid patches) fields ∙ (patched_base mid patches ∙ mapped_base (begun_at m count) regions)

  pub end_pages : end.pages ≡ m.pages
  end_pages = written_pages (fields_patched mid patches) fields ∙ (patched_pages mid patches ∙ mapped_pages (begun_at m count) regions)

  begins : mid.undo ≡ Some (begun count mid.regions)
  begins = mapped_begun (begun_at m count) regions count refl

  one : Taken (begun count mid.regions) (length patches) (fields_patched mid patches).undo
  one = all_taken field_patched (λ k f. refl) mid patches (begun count mid.regions) begins

  two : Taken one.after (length fields) end.undo
  two = all_taken field_written (λ k f. refl) (fields_patched mid patches) fields one.after one.is

  -- a write is left for each that isn't a field's
  pub writes_left : (more : ℕ) → length patches + length fields + more ≤ count → HasWrites end more
  writes_left more enough =
      subst (λ (o : Option UndoState). IfSome o (λ u. more ≤ u.left)) (sym two.is)
      (let a = one.left in
      let b = two.left in
      omega (arith, a, b, enough))

  -- the undo is begun still
  pub still_begun : is_some end.undo ≡ true
  still_begun = ap is_some two.is

  -- it gives back the regions as they were mapped
  pub gone_back : before_in end ≡ mid.regions
  gone_back = ap (λ (o : Option UndoState). unwrap_or (option_map (λ (u : UndoState). u.before) o) end.regions) two.is ∙ (two.before ∙ one.before)
