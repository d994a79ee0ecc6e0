-- Bytes that stand at a place of a file.
use Rattle.std.proofs.Common.{◌≡◌, ℕ, suc, ◌+◌, ◌*◌, ◌<◌, List, ◌∷◌, ◌++◌, length, take, drop, get_or, sym, ap, ◌∙◌, refl, arith, append_assoc, length-append, replicate}
use Rattle.std.specs.List.{flat_map}
use Rattle.std.proofs.lemmas.List.{length-take-le}
use Rattle.std.proofs.lemmas.Grind.{flat_map-append}
use Rattle.cell_object.specs.declared.object.Object.{Object}
use Rattle.cell_object.specs.declared.object.Symbol.{Symbol}
use Rattle.cell_object.specs.declared.object.Entry.{Entry}
use Rattle.cell_object.specs.Symbols.{symbol_row_at}
use Rattle.cell_object.specs.Relocations.{rela_row_at}
use Rattle.cell_object.specs.Rows.{stored, fields, section_row_bytes, symbol_bytes, entry_bytes}
use Rattle.cell_object.specs.ImageParts.{padding, padded, offset_after, parts, shstrtab_number}
use Rattle.cell_object.specs.Image.{section_rows, image_header, image}
use Rattle.cell_image.proofs.Rows.{FitsSymbol, read_symbol, symbol_is_read, FitsEntry, read_entry, entry_is_read}
use Rattle.cell_image.proofs.Places.{element_bytes, even_length}
use Rattle.cell_image.proofs.Headers.{header_length}

pub record Stands (file : List ℕ) (at : ℕ) (bytes : List ℕ) : Type 0 where
  pub front : List ℕ
  pub rest : List ℕ
  pub is : file ≡ front ++ (bytes ++ rest)
  pub place : at ≡ length front

pub part_stands : (object : Object) (before after : List (List ℕ)) (part : List ℕ) → parts object ≡ before ++ (part ∷ after) → Stands (image object) (offset_after before) part
unfolding image padded
part_stands object before after part e =
    let header : List ℕ = image_header object in
    let head : length header ≡ 64 = header_length (offset_after (parts object)) (length (section_rows object)) (shstrtab_number object) in
    let rows : List ℕ = flat_map section_row_bytes (section_rows object) in
    let first : List ℕ = flat_map padded before in
    let later : List ℕ = flat_map padded after in
    let zeros : List ℕ = replicate (padding (length part)) 0 in
    record {
      front = header ++ first;
      rest = zeros ++ (later ++ rows);
      is = ap (λ v. header ++ (flat_map padded v ++ rows)) e
          ∙ ap (λ v. header ++ (v ++ rows)) (flat_map-append padded before (part ∷ after))
          ∙ ap (λ v. header ++ v) (append_assoc first ((part ++ zeros) ++ later) rows)
          ∙ ap (λ v. header ++ (first ++ v)) (append_assoc (part ++ zeros) later rows ∙ append_assoc part zeros (later ++ rows))
          ∙ sym (append_assoc header first (part ++ (zeros ++ (later ++ rows))));
      place = omega (arith, head, length-append header first);
    }

-- an element of a table
pub element_stands : {X : Type 0} (file : List ℕ) (at : ℕ) (part lead : List ℕ) (g : X → List ℕ) (w : ℕ) (xs : List X) (k : ℕ) (d : X) → ((x : X) → length (g x) ≡ w) → k < length xs → Stands file at part → part ≡ lead ++ flat_map g xs
    → Stands file (at + (length lead + w * k)) (g (get_or xs k d))
element_stands file at part lead g w xs k d even lt s e =
    let before : List ℕ = flat_map g (take k xs) in
    let after : List ℕ = flat_map g (drop (suc k) xs) in
    let here : List ℕ = g (get_or xs k d) in
    let taken : length (take k xs) ≡ k = length-take-le k xs (omega (arith, lt)) in
    let long : length before ≡ w * k = even_length g w even (take k xs) ∙ ap (λ n. w * n) taken in
    record {
      front = s.front ++ (lead ++ before);
      rest = after ++ s.rest;
      is = s.is
          ∙ ap (λ v. s.front ++ (v ++ s.rest)) (e ∙ ap (λ v. lead ++ v) (element_bytes g xs k d lt) ∙ sym (append_assoc lead before (here ++ after)))
          ∙ ap (λ v. s.front ++ v) (append_assoc (lead ++ before) (here ++ after) s.rest ∙ ap (λ v. (lead ++ before) ++ v) (append_assoc here after s.rest))
          ∙ sym (append_assoc s.front (lead ++ before) (here ++ (after ++ s.rest)));
      place = omega (arith, s.place, long, length-append s.front (lead ++ before), length-append lead before);
    }

pub symbol_stands : (file : List ℕ) (at symtab name : ℕ) (s : Symbol) → Stands file at (symbol_bytes symtab name s) → FitsSymbol symtab name s → symbol_row_at at file ≡ read_symbol symtab name s
symbol_stands file at symtab name s h f = ap (symbol_row_at at) h.is ∙ symbol_is_read at h.front h.rest symtab name s h.place f

pub entry_stands : (file : List ℕ) (at : ℕ) (e : Entry) → Stands file at (entry_bytes e) → FitsEntry e → rela_row_at at file ≡ read_entry e
entry_stands file at e h f = ap (rela_row_at at) h.is ∙ entry_is_read at h.front h.rest e h.place f

pub symbol_length : (symtab name : ℕ) (s : Symbol) → length (symbol_bytes symtab name s) ≡ 24
unfolding symbol_bytes fields stored
symbol_length symtab name s = refl

pub entry_length : (e : Entry) → length (entry_bytes e) ≡ 24
unfolding entry_bytes fields stored
entry_length e = refl
