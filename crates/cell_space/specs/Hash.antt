-- Numbers by which stems and names are looked up. Two may have the same number.
use Rattle.std.specs.Prelude.{ℕ, ◌*◌, ◌%◌, ◌^◌, List, fold, bit_xor}

-- one more byte, as FNV-1a takes it
unfoldable pub mixed : ℕ → ℕ → ℕ
mixed hash byte = (bit_xor hash byte * 1099511628211) % 2 ^ 64

-- the bytes in turn
unfoldable pub hash_from : ℕ → List ℕ → ℕ
hash_from start bytes = fold mixed start bytes

unfoldable pub stem_hash : List ℕ → ℕ
stem_hash stem = hash_from 1 stem

unfoldable pub name_hash : List ℕ → ℕ
name_hash name = hash_from 14695981039346656037 name

-- a WEAK symbol's name has another one, so that who holds a name strongly is found beside who holds it weakly
unfoldable pub weak_hash : List ℕ → ℕ
weak_hash name = hash_from 2 name
