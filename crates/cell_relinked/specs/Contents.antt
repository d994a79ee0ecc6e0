-- What the sections of a cell hold, linked anew.
--     Seen, is_seen seen q           the places of entries so far
--     AreSeen seen entries           they are those of these entries
--     first_bytes told start s       what a section holds before its fields are written
--     with_fields value fields s own     the bytes of the section with those of the fields that are in it
--     relinked w c told s            what the section holds then
use Rattle.std.specs.Prelude.{◌≡◌, ◌≤◌, ◌==◌, ◌&&◌, ◌+◌, ℕ, Bool, List, Some, cond, filter, fold, is_some, map, slice_get, if◌then◌else◌}
use Rattle.std.specs.BTreeMap.{BTreeMap, get}
use Rattle.std.specs.List.{list_any}
use Rattle.cell_link.specs.Tables.{spot_cmp}
use Rattle.cell_num.specs.Bits.{bytes_of}
use Rattle.cell_num.specs.Kinds.{width_of}
use Rattle.cell_num.specs.Lists.{In, upto}
use Rattle.cell_object.specs.declared.object.Entry.{Entry}
use Rattle.cell_object.specs.declared.object.Section.{Section as ObjectSection}
use Rattle.cell_audit.specs.Linking.{relinked_bytes}
use Rattle.cell_audit.specs.Told.{byte_told}
use Rattle.cell_audit.specs.declared.told_bytes.Told.{Told}
use Rattle.cell_world.specs.Placed.Layout.{own_bytes}
use Rattle.cell_world.specs.Running.Memory.{pasted}
use Rattle.cell_world.specs.Linked.Target.{start_of}
use Rattle.cell_world.specs.World.{Cell, World}

abbrev pub Seen : Type 0
Seen = BTreeMap (ℕ × ℕ) (Unit {0})

abbrev pub is_seen : Seen → ℕ × ℕ → Bool
is_seen seen q = is_some (get spot_cmp seen q)

abbrev pub stands_at : ℕ × ℕ → Entry → Bool
stands_at q e = e.section == q.0 && e.offset == q.1

abbrev pub AreSeen : Seen → List Entry → Type 0
AreSeen seen entries = (q : ℕ × ℕ) → is_seen seen q ≡ list_any (stands_at q) entries

-- what is told of a section that may be written, or else its own bytes
abbrev pub first_bytes : Told → ℕ → ObjectSection → List ℕ
first_bytes told start s = if s.write then map (λ k. byte_told told (start + k)) (upto s.size) else own_bytes s s.fill

-- the field's value at its offset
abbrev pub with_field : (Entry → ℕ) → List ℕ → Entry → List ℕ
with_field value bytes f = pasted bytes f.offset (bytes_of (width_of f.kind) (value f))

abbrev pub with_fields : (Entry → ℕ) → List Entry → ObjectSection → List ℕ → List ℕ
with_fields value fields s own = fold (with_field value) own (filter (λ f. f.section == s.number) fields)

-- each field ends in its section
abbrev pub AreInside : List Entry → List ObjectSection → Type 0
AreInside fields sections = (f : Entry) (s : ObjectSection) → In f fields → In s sections → s.number ≡ f.section → f.offset + width_of f.kind ≤ s.size

-- the section of that number stands at that place
pub record StandsAt (number : ℕ) (sections : List ObjectSection) (place : ℕ) : Type 0 where
  pub section : ObjectSection
  pub there : slice_get sections place ≡ Some section
  pub number_is : section.number ≡ number

-- a section holds the number at that offset, if it is the one
abbrev pub written_in : ℕ → ℕ → List ℕ → (ObjectSection → List ℕ) → ObjectSection → List ℕ
written_in number offset bytes own s = cond (number == s.number) (pasted (own s) offset bytes) (own s)

abbrev pub relinked : World → Cell → Told → ObjectSection → List ℕ
relinked w c told s = relinked_bytes w c s (first_bytes told (start_of c.placed s.number) s)
