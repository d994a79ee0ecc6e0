-- The bytes that are told of a stretch of addresses.
--     Covers told addr               the address is in the stretch
--     told_at told addr              the byte that is told of it, if one is
--     byte_told told addr            that byte, or else 0
--     byte_from start bytes addr     the byte of these, which stand from `start` on, at the address
--     IsClear told base size         nothing is told of so many bytes from the base on
--     Puts start bytes old new       the bytes from `start` on are told, where none was told before
use Rattle.std.specs.Prelude.{◌≡◌, ◌<◌, ◌≤◌, ◌+◌, ◌-◌, ◌^◌, ℕ, nat_le, nat_lt, ◌&&◌, List, Option, None, get_or, length, option_and_then, replicate, slice_index, unwrap_or}
use Rattle.cell_num.specs.Lists.{or_else, where_true}
use Rattle.cell_audit.specs.declared.told_bytes.Told.{Told}

pub record Covers (told : Told) (addr : ℕ) : Type 0 where
  pub from : told.base ≤ addr
  pub below : addr < told.base + length told.bytes.items
  pub small : addr < 2 ^ 64

abbrev pub place_in : Told → ℕ → Option ℕ
place_in told addr = where_true (nat_le told.base addr && nat_lt (addr - told.base) (length told.bytes.items)) (addr - told.base)

abbrev pub told_at : Told → ℕ → Option ℕ
told_at told addr = option_and_then (λ place. get_or told.bytes.items place None) (place_in told addr)

abbrev pub byte_told : Told → ℕ → ℕ
byte_told told addr = unwrap_or (told_at told addr) 0

abbrev pub byte_from : ℕ → List ℕ → ℕ → Option ℕ
byte_from start bytes addr = where_true (nat_le start addr && nat_lt addr (start + length bytes)) (slice_index bytes (addr - start))

-- the stretch is the same
pub record IsSameStretch (old new : Told) : Type 0 where
  pub base : new.base ≡ old.base
  pub size : length new.bytes.items ≡ length old.bytes.items

pub record IsClear (told : Told) (base size : ℕ) : Type 0 where
  pub base_is : told.base ≡ base
  pub bytes_are : told.bytes.items ≡ replicate size None

pub record Puts (start : ℕ) (bytes : List ℕ) (old new : Told) : Type 0 where
  pub told : (addr : ℕ) → Covers old addr → told_at new addr ≡ or_else (told_at old addr) (byte_from start bytes addr)
  pub same : IsSameStretch old new
