-- Numbers by which names are sorted. Two names may have the same.
--     mixed key byte        one more byte, as FNV-1a of 32 bits takes it
--     key_of name           the bytes in turn
--     keyed name            the number, and then the name
use Rattle.std.specs.Prelude.{ℕ, ◌*◌, ◌%◌, ◌^◌, List, ◌∷◌, fold, bit_xor}

unfoldable pub mixed : ℕ → ℕ → ℕ
mixed key byte = (bit_xor key byte * 16777619) % 2 ^ 32

unfoldable pub key_of : List ℕ → ℕ
key_of name = fold mixed 2166136261 name

abbrev pub keyed : List ℕ → List ℕ
keyed name = key_of name ∷ name
