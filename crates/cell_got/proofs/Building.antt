-- The lowered object, of its parts.
use Rattle.std.proofs.Common.{◌≡◌, sym, ◌∙◌, ap, ℕ, suc, true, List, [], ◌∷◌, ◌++◌, map, length}
use Rattle.std.specs.List.{list_any}
use Rattle.cell_num.specs.Lists.{numbered, upto}
use Rattle.cell_object.specs.declared.object.Object.{Object}
use Rattle.cell_object.specs.declared.object.Section.{Section}
use Rattle.cell_object.specs.declared.object.Symbol.{Symbol}
use Rattle.cell_object.specs.declared.object.Entry.{Entry}
use Rattle.cell_object.specs.Readable.{is_got}
use Rattle.cell_got.specs.Lower.{got_number, got_section, lower, lowered_entry, slot_entry, slot_symbol, slots_of}
use Rattle.cell_got.proofs.AskedSlots.{some_lowered}

module _ (o : Object) (slots : List ℕ) (number count first : ℕ) (got : Section)
    (slots_are : slots ≡ slots_of o) (number_is : number ≡ got_number o) (count_is : count ≡ length slots) (first_is : first ≡ suc (length o.symbols)) (got_is : got ≡ got_section number count) where
  all : count ≡ length (slots_of o)
  all = count_is ∙ ap length slots_are

  pub built : (ss : List Section) (ys : List Symbol) (es : List Entry) → list_any is_got o.entries ≡ true
      → ss ≡ o.sections ++ got ∷ [] → ys ≡ o.symbols ++ map (slot_symbol number) (upto count) → es ≡ map (lowered_entry first slots) o.entries ++ map (slot_entry number) (numbered slots)
      → record { sections = ss; symbols = ys; entries = es } ≡ lower o
  built ss ys es asks sections symbols entries =
      let s : ss ≡ o.sections ++ got_section (got_number o) (length (slots_of o)) ∷ [] = sections ∙ ap (λ (g : Section). o.sections ++ g ∷ []) (got_is ∙ λ i. got_section (number_is i) (all i)) in
      let y : ys ≡ o.symbols ++ map (slot_symbol (got_number o)) (upto (length (slots_of o))) = symbols ∙ λ i. o.symbols ++ map (slot_symbol (number_is i)) (upto (all i)) in
      let e : es ≡ map (lowered_entry (suc (length o.symbols)) (slots_of o)) o.entries ++ map (slot_entry (got_number o)) (numbered (slots_of o)) =
      entries ∙ λ i. map (lowered_entry (first_is i) (slots_are i)) o.entries ++ map (slot_entry (number_is i)) (numbered (slots_are i)) in
      (λ i. record { sections = s i; symbols = y i; entries = e i }) ∙ sym (some_lowered o asks)
