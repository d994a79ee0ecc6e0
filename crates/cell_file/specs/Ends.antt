-- Where strings can begin in a string table.
use Rattle.std.specs.Prelude.{ℕ, suc, ◌==◌, nat_lt, if◌then◌else◌, List, [], ◌∷◌}

-- one more than the place of the last zero byte, or 0 where there is none
abbrev pub last_end : List ℕ → ℕ
last_end [] = 0
last_end (b ∷ bs) = if nat_lt 0 (last_end bs) then suc (last_end bs) else if b == 0 then 1 else 0
