-- The names of object files.
--     is_object_name name      the name is NS#STEM.o or NS#STEM-HASH.o
use Rattle.std.specs.Prelude.{ℕ, ◌+◌, ◌-◌, Bool, false, ◌&&◌, ◌||◌, ◌==◌, nat_lt, nat_le, List, length, take, drop, position, Option, Some, None, option_map, bytes_eq, codes}
use Rattle.std.specs.List.{list_all}

abbrev pub is_letter_or_digit : ℕ → Bool
is_letter_or_digit b = (nat_le 97 b && nat_le b 122) || (nat_le 48 b && nat_le b 57)

-- 1 to 64 bytes
abbrev pub is_short : List ℕ → Bool
is_short word = nat_lt 0 (length word) && nat_le (length word) 64

-- 1 to 64 bytes of a-z, 0-9 and _
abbrev pub is_name : List ℕ → Bool
is_name word = is_short word && list_all (λ b. is_letter_or_digit b || b == 95) word

-- 1 to 64 bytes of a-z and 0-9
abbrev pub is_hash : List ℕ → Bool
is_hash word = is_short word && list_all is_letter_or_digit word

-- what stands before the first such byte, and after it
abbrev pub cut : ℕ → List ℕ → Option (List ℕ × List ℕ)
cut byte text = option_map (λ i. (take i text, drop (i + 1) text)) (position (λ b. b == byte) text)

-- STEM or STEM-HASH, which is cut at its dash
abbrev pub is_stem : List ℕ → Option (List ℕ × List ℕ) → Bool
is_stem word None = is_name word
is_stem word (Some parts) = is_name parts.0 && is_hash parts.1

-- NS#STEM or NS#STEM-HASH, which is cut at its #
abbrev pub is_crate : Option (List ℕ × List ℕ) → Bool
is_crate None = false
is_crate (Some parts) = is_name parts.0 && is_stem parts.1 (cut 45 parts.1)

abbrev pub is_object_name : List ℕ → Bool
is_object_name name = bytes_eq (drop (length name - 2) name) (codes ".o") && is_crate (cut 35 (take (length name - 2) name))
