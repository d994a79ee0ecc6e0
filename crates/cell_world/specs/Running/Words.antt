-- The words of a live task: what of it may point into cells.
--     words_in bytes             the whole 8-byte words that the bytes are
--     words_of regions t         the pc, x1 to x31, and the stack from x2 on
use Rattle.std.specs.Prelude.{ℕ, ◌+◌, ◌-◌, ◌*◌, ◌/◌, nat_le, ◌&&◌, List, [], ◌∷◌, ◌++◌, take, drop, slice_index, unwrap_or, if◌then◌else◌}
use Rattle.cell_num.specs.Bits.{little}
use Rattle.cell_num.specs.Limits.{stack_size}
use Rattle.cell_world.specs.World.{Region, Task}
use Rattle.cell_world.specs.Running.Memory.{read_in}

-- the whole 8-byte words that the bytes are, in order
abbrev pub words_in : List ℕ → List ℕ
words_in (a ∷ b ∷ c ∷ d ∷ e ∷ f ∷ g ∷ h ∷ rest) = little (a ∷ b ∷ c ∷ d ∷ e ∷ f ∷ g ∷ h ∷ []) ∷ words_in rest
words_in _ = []

-- how many bytes of the stack stand below x2, rounded down to a multiple of 8: none where x2 is outside the stack
abbrev pub stack_from : Task → ℕ
stack_from t =
    let top = slice_index t.registers 2 in
    if nat_le t.stack top && nat_le top (t.stack + stack_size) then (top - t.stack) / 8 * 8 else 0

abbrev pub stack_words : List Region → Task → List ℕ
stack_words regions t = words_in (drop (stack_from t) (unwrap_or (read_in regions t.stack stack_size) []))

abbrev pub words_of : List Region → Task → List ℕ
words_of regions t = t.pc ∷ take 31 (drop 1 t.registers) ++ stack_words regions t
