-- Which bytes of the space are taken.
--     all_free base pages         none is
--     fits t s start              the section may stand there: at a multiple of its alignment, wholly in the space, on bytes that are free
--     with_section t s start      its bytes are taken as well
use Rattle.std.specs.Prelude.{ℕ, ◌+◌, ◌-◌, ◌*◌, ◌%◌, ◌==◌, nat_le, Bool, true, false, not, ◌&&◌, List, length, max, replicate, slice_range}
use Rattle.cell_num.specs.Limits.{page_size}
use Rattle.std.specs.List.{list_any}
use Rattle.cell_object.specs.declared.object.Section.{Section as ObjectSection}
use Rattle.cell_world.specs.Placed.Pages.{filled}

-- the first address of the space, and for each of its bytes whether it is taken
pub record TakenState : Type 0 where
  pub base : ℕ
  pub bytes : List Bool

abbrev pub all_free : ℕ → ℕ → TakenState
all_free base pages = record { base = base; bytes = replicate (page_size * pages) false }

-- so many bytes from that place on
abbrev pub is_free : TakenState → ℕ → ℕ → Bool
is_free t offset size = not (list_any (λ b. b) (slice_range t.bytes offset (offset + size)))

abbrev pub fits : TakenState → ObjectSection → ℕ → Bool
fits t s start =
    (start % max 1 s.align == 0) && nat_le t.base start && nat_le (start + s.size) (t.base + length t.bytes) && is_free t (start - t.base) s.size

abbrev pub with_section : TakenState → ObjectSection → ℕ → TakenState
with_section t s start = record t { bytes = filled t.bytes (start - t.base) s.size true }
