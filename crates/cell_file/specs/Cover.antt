-- Which fields of a table begin where.
use Rattle.std.specs.Prelude.{◌≡◌, ℕ, ◌+◌, ◌-◌, ◌*◌, ◌<◌, ◌&&◌, not, Bool, true, false, cond, ◌==◌, nat_lt, Option, Some, None, List}
use Rattle.std.specs.List.{list_any}
use Rattle.cell_num.specs.Kinds.{is_passed_over}
use Rattle.cell_object.specs.Relocations.{rela_row_at}
use Rattle.cell_file.specs.declared.cover.Field.{Field}
use Rattle.cell_file.specs.declared.cover.Mark.{Mark}

abbrev pub shared : Field → Field → Bool
shared e f = nat_lt e.from (f.from + f.width) && nat_lt f.from (e.from + e.width)

abbrev pub stack : Field → Field → Bool
stack e f = e.from == f.from && e.width == f.width && e.stacking && f.stacking

abbrev pub clash : Field → Field → Bool
clash e f = shared e f && not (stack e f)

abbrev pub begins : ℕ → Field → Bool
begins b f = f.from == b

abbrev pub beq : Bool → Bool → Bool
beq true x = x
beq false x = not x

abbrev pub same : Field → Field → Bool
same m f = m.from == f.from && m.width == f.width && beq m.stacking f.stacking

-- a place at which no field begins
abbrev pub no_mark : Mark
no_mark = record { table = 0; width = 0; stacking = false; high = false }

abbrev pub field_of_mark : ℕ → Mark → Field
field_of_mark q m = record { from = q; width = m.width; stacking = m.stacking }

-- what is kept for a place, of the fields so far
abbrev pub Covered : Option Field → ℕ → List Field → Type 0
Covered None b before = list_any (begins b) before ≡ false
Covered (Some m) b before = (list_any (λ f. begins b f && same m f) before ≡ true) × (list_any (λ f. begins b f && not (same m f)) before ≡ false)

abbrev pub IsCover : (ℕ → Option Field) → List Field → Type 0
IsCover kept before = (b : ℕ) → Covered (kept b) b before

abbrev pub hits : Field → Option Field → Bool
hits e None = false
hits e (Some m) = clash e m

-- so many entries, one behind the other from a place of the file on, are passed over
abbrev pub IsSkip : List ℕ → ℕ → ℕ → Type 0
IsSkip file at count = (i : ℕ) → i < count → is_passed_over (rela_row_at (at + 24 * i) file).r_type ≡ true

-- how many entries a count stands for: one each up to 128, and 128 more for each step above it
abbrev pub reach : ℕ → ℕ
reach count = cond (nat_lt 128 count) (128 * (count - 127)) count
