-- Numbers of a row as bytes, one number more; entries as bytes, one entry more.
use Rattle.std.proofs.Common.{◌≡◌, ℕ, ◌+◌, ◌<◌, List, ◌++◌, sym, ap, ◌∙◌, append_assoc, length, take, get_or}
use Rattle.std.specs.List.{flat_map}
use Rattle.std.proofs.lemmas.List.{take_more}
use Rattle.cell_object.specs.declared.object.Entry.{Entry}
use Rattle.cell_object.specs.Rows.{stored, entry_bytes}
use Rattle.cell_elfw.proofs.Growth.{flat_map_push}

rows_put : {X : Type 0} (bytes : X → List ℕ) (old text new : List ℕ) (rows : List X) (i : ℕ) (d : X) → i < length rows → text ≡ old ++ flat_map bytes (take i rows)
    → new ≡ text ++ bytes (get_or rows i d) → new ≡ old ++ flat_map bytes (take (i + 1) rows)
rows_put bytes old text new rows i d lt e n =
    n ∙ ap (λ v. v ++ bytes (get_or rows i d)) e
    ∙ append_assoc old (flat_map bytes (take i rows)) (bytes (get_or rows i d))
    ∙ ap (λ v. old ++ v) (sym (flat_map_push bytes (take i rows) (get_or rows i d)))
    ∙ ap (λ v. old ++ flat_map bytes v) (sym (take_more rows i d lt))

pub entry_put : (old text new : List ℕ) (entries : List Entry) (i : ℕ) (d : Entry) → i < length entries → text ≡ old ++ flat_map entry_bytes (take i entries)
    → new ≡ text ++ entry_bytes (get_or entries i d) → new ≡ old ++ flat_map entry_bytes (take (i + 1) entries)
entry_put = rows_put entry_bytes

pub field_put : (old text new : List ℕ) (numbers : List (ℕ × ℕ)) (i : ℕ) (d : ℕ × ℕ) → i < length numbers → text ≡ old ++ flat_map (λ field. stored field.1 field.0) (take i numbers)
    → new ≡ text ++ stored (get_or numbers i d).1 (get_or numbers i d).0 → new ≡ old ++ flat_map (λ field. stored field.1 field.0) (take (i + 1) numbers)
field_put = rows_put (λ field. stored field.1 field.0)
