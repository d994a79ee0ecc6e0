-- Where a part and a section header stand in a file.
use Rattle.std.proofs.Common.{◌≡◌, ℕ, suc, ◌+◌, ◌-◌, ◌*◌, ◌<◌, List, [], ◌∷◌, ◌++◌, length, take, drop, get_or, sym, ap, ◌∙◌, refl, arith, append_assoc, length-append, replicate, slice_range}
use Rattle.std.specs.List.{flat_map}
use Rattle.std.proofs.Math.Seq.{drop-cons, drop-append_seam}
use Rattle.std.proofs.lemmas.List.{take-append-drop, length-take-le, take-append-le, take_all}
use Rattle.std.proofs.lemmas.Grind.{flat_map-append}
use Rattle.cell_object.specs.Header.{section_header_at}
use Rattle.cell_object.specs.declared.headers.SectionHeader.{SectionHeader}
use Rattle.cell_object.specs.Rows.{stored, fields, section_row_bytes}
use Rattle.cell_object.specs.ImageParts.{padding, padded, offset_after}
use Rattle.cell_image.proofs.Rows.{FitsRow, row_is_read}

pub split_at : {X : Type 0} (xs : List X) (k : ℕ) (d : X) → k < length xs → xs ≡ take k xs ++ (get_or xs k d ∷ drop (suc k) xs)
split_at xs k d lt = sym (take-append-drop k xs) ∙ ap (λ v. take k xs ++ v) (drop-cons xs k d lt)

-- the bytes of one element among those of all
pub element_bytes : {X : Type 0} (f : X → List ℕ) (xs : List X) (k : ℕ) (d : X) → k < length xs
    → flat_map f xs ≡ flat_map f (take k xs) ++ (f (get_or xs k d) ++ flat_map f (drop (suc k) xs))
element_bytes f xs k d lt =
    ap (flat_map f) (split_at xs k d lt) ∙ flat_map-append f (take k xs) (get_or xs k d ∷ drop (suc k) xs)

-- elements of one length
pub even_length : {X : Type 0} (f : X → List ℕ) (w : ℕ) → ((x : X) → length (f x) ≡ w) → (xs : List X) → length (flat_map f xs) ≡ w * length xs
even_length f w even [] = omega arith
even_length f w even (x ∷ xs) =
    let e : w + w * length xs ≡ w * suc (length xs) = omega arith in
    length-append (f x) (flat_map f xs) ∙ ap (λ n. n + length (flat_map f xs)) (even x) ∙ ap (λ n. w + n) (even_length f w even xs) ∙ e

pub row_length : (h : SectionHeader) → length (section_row_bytes h) ≡ 64
unfolding section_row_bytes fields stored
row_length h = refl

pub row_at : (front : List ℕ) (rows : List SectionHeader) (k : ℕ) (d : SectionHeader) → k < length rows → FitsRow (get_or rows k d)
    → section_header_at (length front + 64 * k) (front ++ flat_map section_row_bytes rows) ≡ (get_or rows k d)
row_at front rows k d lt f =
    let before : List ℕ = flat_map section_row_bytes (take k rows) in
    let after : List ℕ = flat_map section_row_bytes (drop (suc k) rows) in
    let here : List ℕ = section_row_bytes (get_or rows k d) in
    let taken : length (take k rows) ≡ k = length-take-le k rows (omega (arith, lt)) in
    let long = even_length section_row_bytes 64 row_length (take k rows) in
    let place : length front + 64 * k ≡ length (front ++ before) = omega (arith, taken, long, length-append front before) in
    ap (section_header_at (length front + 64 * k)) (ap (λ v. front ++ v) (element_bytes section_row_bytes rows k d lt) ∙ sym (append_assoc front before (here ++ after)))
    ∙ row_is_read (length front + 64 * k) (front ++ before) after (get_or rows k d) place f

-- bytes between others
pub part_at : (front part rest : List ℕ) (at size : ℕ) → at ≡ length front → size ≡ length part → slice_range (front ++ (part ++ rest)) at (at + size) ≡ part
part_at front part rest at size a s =
    let n : (length front + length part) - length front ≡ length part = omega arith in
    ap (λ k. slice_range (front ++ (part ++ rest)) k (k + size)) a
    ∙ ap (λ k. slice_range (front ++ (part ++ rest)) (length front) (length front + k)) s
    ∙ ap (λ v. take ((length front + length part) - length front) v) (drop-append_seam front (part ++ rest))
    ∙ ap (λ k. take k (part ++ rest)) n
    ∙ take-append-le (length part) part rest (omega arith)
    ∙ take_all (length part) part (omega arith)

-- a part of the file, where its header says that it stands
pub part_is_read : (header rows : List ℕ) (before after : List (List ℕ)) (part : List ℕ) → length header ≡ 64
    → slice_range (header ++ (flat_map padded (before ++ (part ∷ after)) ++ rows)) (offset_after before) (offset_after before + length part) ≡ part
unfolding padded
part_is_read header rows before after part h =
    let first : List ℕ = flat_map padded before in
    let later : List ℕ = flat_map padded after in
    let zeros : List ℕ = replicate (padding (length part)) 0 in
    let whole : header ++ (flat_map padded (before ++ (part ∷ after)) ++ rows) ≡ (header ++ first) ++ (part ++ (zeros ++ (later ++ rows))) =
    ap (λ v. header ++ (v ++ rows)) (flat_map-append padded before (part ∷ after))
    ∙ ap (λ v. header ++ v) (append_assoc first ((part ++ zeros) ++ later) rows)
    ∙ ap (λ v. header ++ (first ++ v)) (append_assoc (part ++ zeros) later rows ∙ append_assoc part zeros (later ++ rows))
    ∙ sym (append_assoc header first (part ++ (zeros ++ (later ++ rows)))) in
    let place : offset_after before ≡ length (header ++ first) = omega (arith, h, length-append header first) in
    ap (λ v. slice_range v (offset_after before) (offset_after before + length part)) whole
    ∙ part_at (header ++ first) part (zeros ++ (later ++ rows)) (offset_after before) (length part) place refl
