-- What lowering leaves as it was, and what it adds.
use Rattle.std.proofs.Common.{◌≡◌, refl, ◌∙◌, ap, arith, ℕ, zero, suc, ◌+◌, Bool, true, false, List, [], ◌∷◌, ◌++◌, map, length, length-append, take, Some}
use Rattle.std.specs.Prelude.{option_map, slice_get}
use Rattle.std.proofs.lemmas.List.{length-map}
use Rattle.std.proofs.lemmas.Option.{slice_get_within}
use Rattle.cell_num.specs.Lists.{In, from_on, numbered, numbered_from, upto}
use Rattle.cell_num.specs.declared.kinds.RelKind.TheVariants.{PcrelHi20}
use Rattle.cell_num.proofs.Elements.{get-In}
use Rattle.cell_object.specs.declared.object.Entry.{Entry}
use Rattle.cell_object.specs.declared.object.Object.{Object}
use Rattle.cell_object.specs.Readable.{is_got}
use Rattle.cell_got.specs.Lower.{got_number, got_section, lower, lower_by, lowered_entry, slot_entry, slot_of, slot_symbol, slots_of, with_slots}
use Rattle.cell_got.proofs.Slots.{slot_there}
use Rattle.cell_got.proofs.LowerSound.{get_from, get_left, get_map, get_right}

take_front : {X : Type 0} (xs ys : List X) → take (length xs) (xs ++ ys) ≡ xs
take_front [] ys = refl
take_front (x ∷ xs) ys = ap (λ (zs : List _). x ∷ zs) (take_front xs ys)

take_whole : {X : Type 0} (xs : List X) → take (length xs) xs ≡ xs
take_whole [] = refl
take_whole (x ∷ xs) = ap (λ (zs : List _). x ∷ zs) (take_whole xs)

numbers_length : (a n : ℕ) → length (from_on a n) ≡ n
numbers_length a zero = refl
numbers_length a (suc n) = ap suc (numbers_length (suc a) n)

numbered_length : {X : Type 0} (i : ℕ) (xs : List X) → length (numbered_from i xs) ≡ length xs
numbered_length i [] = refl
numbered_length i (x ∷ xs) = ap suc (numbered_length (suc i) xs)

get_numbered : {X : Type 0} (i : ℕ) (xs : List X) (k : ℕ) (x : X) → slice_get xs k ≡ Some x → slice_get (numbered_from i xs) k ≡ Some (i + k, x)
get_numbered i [] k x e = absurd cc
get_numbered {X = X} i (y ∷ ys) zero x e =
    let n : i ≡ i + 0 = omega arith in
    let f : X → ℕ × X = λ v. (i, v) in
    ap (option_map f) e ∙ ap (λ (j : ℕ). (let p : ℕ × X = (j, x) in Some p)) n
get_numbered i (y ∷ ys) (suc k) x e = let n : suc i + k ≡ i + suc k = omega arith in get_numbered (suc i) ys k x e ∙ ap (λ (j : ℕ). Some (j, x)) n

module _ (o : Object) where
  pub sections_stay : take (length o.sections) (lower o).sections ≡ o.sections
  sections_stay = go (slots_of o)
    where
      go : (slots : List ℕ) → take (length o.sections) (lower_by slots o).sections ≡ o.sections
      go [] = take_whole o.sections
      go (x ∷ slots) = take_front o.sections (got_section (got_number o) (length (x ∷ slots)) ∷ [])

  pub symbols_stay : take (length o.symbols) (lower o).symbols ≡ o.symbols
  symbols_stay = go (slots_of o)
    where
      go : (slots : List ℕ) → take (length o.symbols) (lower_by slots o).symbols ≡ o.symbols
      go [] = take_whole o.symbols
      go (x ∷ slots) = take_front o.symbols (map (slot_symbol (got_number o)) (upto (length (x ∷ slots))))

  entry_at : (slots : List ℕ) (i : ℕ) (e : Entry) → slice_get o.entries i ≡ Some e → slice_get (with_slots (got_number o) slots o).entries i ≡ Some (lowered_entry (suc (length o.symbols)) slots e)
  entry_at slots i e there =
      get_left (map (lowered_entry (suc (length o.symbols)) slots) o.entries) (map (slot_entry (got_number o)) (numbered slots)) i (lowered_entry (suc (length o.symbols)) slots e)
      (get_map (lowered_entry (suc (length o.symbols)) slots) o.entries i e there)

  pub entries_stay : (i : ℕ) (e : Entry) → slice_get o.entries i ≡ Some e → is_got e ≡ false → slice_get (lower o).entries i ≡ Some e
  entries_stay i e there plain = go (slots_of o)
    where
      same : (slots : List ℕ) → lowered_entry (suc (length o.symbols)) slots e ≡ e
      same slots = ap (λ (b : Bool). elim b as (λ _. Entry) [ true ↦ record e { kind = PcrelHi20; symbol = suc (length o.symbols) + slot_of slots e.symbol } | false ↦ e ]) plain

      go : (slots : List ℕ) → slice_get (lower_by slots o).entries i ≡ Some e
      go [] = there
      go (x ∷ slots) = entry_at (x ∷ slots) i e there ∙ ap (λ (d : Entry). Some d) (same (x ∷ slots))

  pub sites_are : (i : ℕ) (e : Entry) → slice_get o.entries i ≡ Some e → is_got e ≡ true
      → slice_get (lower o).entries i ≡ (let site : Entry = record e { kind = PcrelHi20; symbol = length o.symbols + 1 + slot_of (slots_of o) e.symbol } in Some site)
  sites_are i e there got = go (slots_of o) (slot_there o e (get-In o.entries i e there) got)
    where
      site : List ℕ → Entry
      site slots = record e { kind = PcrelHi20; symbol = length o.symbols + 1 + slot_of slots e.symbol }

      same : (slots : List ℕ) → lowered_entry (suc (length o.symbols)) slots e ≡ site slots
      same slots =
          ap (λ (b : Bool). elim b as (λ _. Entry) [ true ↦ record e { kind = PcrelHi20; symbol = suc (length o.symbols) + slot_of slots e.symbol } | false ↦ e ]) got
          ∙ ap (λ (n : ℕ). let d : Entry = record e { kind = PcrelHi20; symbol = n } in d) (omega arith)

      go : (slots : List ℕ) → In e.symbol slots → slice_get (lower_by slots o).entries i ≡ (let d : Entry = record e { kind = PcrelHi20; symbol = length o.symbols + 1 + slot_of slots e.symbol } in Some d)
      go [] k = absurd k
      go (x ∷ slots) k = entry_at (x ∷ slots) i e there ∙ ap (λ (d : Entry). Some d) (same (x ∷ slots))

  pub symbol_of_slot : (k symbol : ℕ) → slice_get (slots_of o) k ≡ Some symbol → slice_get (lower o).symbols (length o.symbols + k) ≡ Some (slot_symbol (got_number o) k)
  symbol_of_slot k symbol e = go (slots_of o) e
    where
      go : (slots : List ℕ) → slice_get slots k ≡ Some symbol → slice_get (lower_by slots o).symbols (length o.symbols + k) ≡ Some (slot_symbol (got_number o) k)
      go [] e = absurd cc
      go (x ∷ slots) e =
          let l = slice_get_within (x ∷ slots) k symbol e in
          get_right o.symbols (map (slot_symbol (got_number o)) (upto (length (x ∷ slots)))) k (length o.symbols + k) refl
          ∙ get_map (slot_symbol (got_number o)) (upto (length (x ∷ slots))) k k (get_from 0 (length (x ∷ slots)) k l ∙ ap Some (omega arith))

  pub entry_of_slot : (k symbol : ℕ) → slice_get (slots_of o) k ≡ Some symbol → slice_get (lower o).entries (length o.entries + k) ≡ Some (slot_entry (got_number o) (k, symbol))
  entry_of_slot k symbol e = go (slots_of o) e
    where
      go : (slots : List ℕ) → slice_get slots k ≡ Some symbol → slice_get (lower_by slots o).entries (length o.entries + k) ≡ Some (slot_entry (got_number o) (k, symbol))
      go [] e = absurd cc
      go (x ∷ slots) e =
          let n : length (map (lowered_entry (suc (length o.symbols)) (x ∷ slots)) o.entries) ≡ length o.entries = length-map o.entries (lowered_entry (suc (length o.symbols)) (x ∷ slots)) in
          let z : 0 + k ≡ k = omega arith in
          get_right (map (lowered_entry (suc (length o.symbols)) (x ∷ slots)) o.entries) (map (slot_entry (got_number o)) (numbered (x ∷ slots))) k (length o.entries + k) (omega (arith, n))
          ∙ get_map (slot_entry (got_number o)) (numbered (x ∷ slots)) k (k, symbol) (get_numbered 0 (x ∷ slots) k symbol e ∙ ap (λ (j : ℕ). Some (j, symbol)) z)

  pub symbol_count : length (lower o).symbols ≡ length o.symbols + length (slots_of o)
  symbol_count = go (slots_of o)
    where
      go : (slots : List ℕ) → length (lower_by slots o).symbols ≡ length o.symbols + length slots
      go [] = omega arith
      go (x ∷ slots) =
          length-append o.symbols (map (slot_symbol (got_number o)) (upto (length (x ∷ slots))))
          ∙ ap (λ (n : ℕ). length o.symbols + n) (length-map (upto (length (x ∷ slots))) (slot_symbol (got_number o)) ∙ numbers_length 0 (length (x ∷ slots)))

  pub entry_count : length (lower o).entries ≡ length o.entries + length (slots_of o)
  entry_count = go (slots_of o)
    where
      go : (slots : List ℕ) → length (lower_by slots o).entries ≡ length o.entries + length slots
      go [] = omega arith
      go (x ∷ slots) =
          let a = length-append (map (lowered_entry (suc (length o.symbols)) (x ∷ slots)) o.entries) (map (slot_entry (got_number o)) (numbered (x ∷ slots))) in
          let b = length-map o.entries (lowered_entry (suc (length o.symbols)) (x ∷ slots)) in
          let c = length-map (numbered (x ∷ slots)) (slot_entry (got_number o)) in
          let d = numbered_length 0 (x ∷ slots) in
          omega (arith, a, b, c, d)
