-- The fields that are left, while those before them are written.
use Rattle.std.proofs.Common.{◌≡◌, sym, ap, ◌∙◌, subst, arith, ℕ, ◌+◌, ◌-◌, ◌*◌, ◌<◌, ◌≤◌, List, length, drop, get_or}
use Rattle.std.specs.Prelude.{All, fold}
use Rattle.std.proofs.lemmas.List.{at_drop_more, at_drop_all}
use Rattle.cell_num.specs.Bits.{bytes_of}
use Rattle.cell_mem.specs.State.{HasWrites, MemoryState, sealed_at, write_at}
use Rattle.cell_mem.proofs.Noting.{fewer_writes, one_taken}
use Rattle.cell_world.specs.Running.Undo.{record_of}
use Rattle.cell_mem.proofs.Writes.{length-bytes_of}
use Rattle.cell_link.specs.declared.value.FieldValue.{FieldValue}
use Rattle.cell_commit.specs.Commit.{IsLaidOut, IsMapped, field_patched, field_written}
use Rattle.cell_commit.proofs.Fitting.{AllFit, fit_all, reached_same}

-- what is mapped stays so
pub patched_kept : (m : MemoryState) (f g : FieldValue) → IsLaidOut m → IsMapped m f → IsMapped m g → IsMapped (field_patched m f) g
patched_kept m f g laid this other =
    let there : AllFit m.regions f.addr f.width = fit_all m.base m.regions (m.base + 4096 * m.pages) f.addr f.width laid this.1 in
    let fits : AllFit m.regions f.addr (length (bytes_of f.width f.value)) = subst (λ (n : ℕ). AllFit m.regions f.addr n) (sym (length-bytes_of f.width f.value)) there in
    (other.0, reached_same m.regions f.addr (bytes_of f.width f.value) g.addr g.width fits ∙ other.1)

-- and one of the writes of a begun undo is taken
pub patched_takes : (m : MemoryState) (f : FieldValue) (n : ℕ) → HasWrites m n → HasWrites (field_patched m f) (n - 1)
patched_takes m f n has = one_taken m (record_of m.regions (write_at f.addr f.width f.value)) n has

-- the same where it is sealed before
pub written_kept : (m : MemoryState) (f g : FieldValue) → IsLaidOut m → IsMapped m f → IsMapped m g → IsMapped (field_written m f) g
written_kept m f g = patched_kept (sealed_at m f.addr f.width) f g

pub written_takes : (m : MemoryState) (f : FieldValue) (n : ℕ) → HasWrites m n → HasWrites (field_written m f) (n - 1)
written_takes m f = patched_takes (sealed_at m f.addr f.width) f

pub one_left : (m : MemoryState) (count i : ℕ) → i < count → HasWrites m (count - i) → HasWrites m 1
one_left m count i lt has = fewer_writes m (count - i) 1 (omega arith) has

-- what stands past the end of a list of fields
abbrev pub no_field : FieldValue
no_field = record { addr = 0; width = 0; value = 0 }

-- fields are written one after another, by a step that leaves mapped what is
module _ (step : MemoryState → FieldValue → MemoryState) (takes : (m : MemoryState) (f : FieldValue) (n : ℕ) → HasWrites m n → HasWrites (step m f) (n - 1))
    (kept : (m : MemoryState) (f g : FieldValue) → IsLaidOut m → IsMapped m f → IsMapped m g → IsMapped (step m f) g) where
  -- for each field that is left there is a write left
  pub writes_kept : (m n : MemoryState) (f : FieldValue) (count i : ℕ) → n ≡ step m f → HasWrites m (count - i) → HasWrites n (count - (i + 1))
  writes_kept m n f count i e has =
      subst (λ (s : MemoryState). HasWrites s (count - (i + 1))) (sym e) (fewer_writes (step m f) (count - i - 1) (count - (i + 1)) (omega arith) (takes m f (count - i) has))

  pub all_mapped_kept : (m n : MemoryState) (f : FieldValue) (fields : List FieldValue) → IsLaidOut m → IsMapped m f → n ≡ step m f → All (IsMapped m) fields → All (IsMapped n) fields
  all_mapped_kept m n f fields laid this e all =
      λ (k : ℕ) (d : FieldValue) (lt : k < length fields).
      subst (λ (s : MemoryState). IsMapped s (get_or fields k d)) (sym e) (kept m f (get_or fields k d) laid this (all k d lt))

  -- what was mapped at first is so still
  pub still_kept : (first m n : MemoryState) (fields : List FieldValue) (i : ℕ) → IsLaidOut m → IsMapped m (get_or fields i no_field) → n ≡ step m (get_or fields i no_field)
      → ((g : FieldValue) → IsMapped first g → IsMapped m g) → (g : FieldValue) → IsMapped first g → IsMapped n g
  still_kept first m n fields i laid this e so g there = subst (λ (s : MemoryState). IsMapped s g) (sym e) (kept m (get_or fields i no_field) g laid this (so g there))

  -- one field more
  pub written_more : (m n all : MemoryState) (fields : List FieldValue) (i : ℕ) → i < length fields → n ≡ step m (get_or fields i no_field)
      → fold step m (drop i fields) ≡ all → fold step n (drop (i + 1) fields) ≡ all
  written_more m n all fields i lt e before =
      ap (λ (s : MemoryState). fold step s (drop (i + 1) fields)) e
      ∙ sym (at_drop_more (fold step m) fields i no_field lt)
      ∙ before

  -- and after the last
  pub written_done : (m all : MemoryState) (fields : List FieldValue) (i : ℕ) → length fields ≤ i → fold step m (drop i fields) ≡ all → m ≡ all
  written_done m all fields i le before = sym (at_drop_all (fold step m) fields i le) ∙ before
