-- A table of entries ends at a multiple of 8.
use Rattle.std.proofs.Common.{◌≡◌, ℕ, suc, ◌+◌, ◌*◌, List, [], ◌∷◌, ◌++◌, length, sym, ap, ◌∙◌, refl, arith, append-nil, replicate, length-append}
use Rattle.std.specs.List.{flat_map}
use Rattle.cell_object.specs.declared.object.Entry.{Entry}
use Rattle.cell_object.specs.Rows.{entry_bytes, fields, stored}
use Rattle.cell_object.specs.ImageParts.{padding, padded}

entry_length : (e : Entry) → length (entry_bytes e) ≡ 24
unfolding entry_bytes fields stored
entry_length e = refl

entries_length : (entries : List Entry) → length (flat_map entry_bytes entries) ≡ 24 * length entries
entries_length [] = refl
entries_length (e ∷ entries) =
    let sum : 24 + 24 * length entries ≡ 24 * suc (length entries) = omega arith in
    length-append (entry_bytes e) (flat_map entry_bytes entries)
    ∙ ap (λ n. n + length (flat_map entry_bytes entries)) (entry_length e)
    ∙ ap (λ n. 24 + n) (entries_length entries) ∙ sum

entries_unpadded : (entries : List Entry) → padded (flat_map entry_bytes entries) ≡ flat_map entry_bytes entries
unfolding padded
entries_unpadded entries =
    let bytes : List ℕ = flat_map entry_bytes entries in
    let len = entries_length entries in
    let none : padding (length bytes) ≡ 0 = omega (arith, len) in
    ap (λ n. bytes ++ replicate {A = ℕ} n 0) none ∙ append-nil bytes

pub table_put : (file new : List ℕ) (entries : List Entry) → new ≡ file ++ flat_map entry_bytes entries → new ≡ file ++ padded (flat_map entry_bytes entries)
table_put file new entries e = e ∙ ap (λ v. file ++ v) (sym (entries_unpadded entries))
