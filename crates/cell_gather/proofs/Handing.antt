-- Old names handed on, want by want.
use Rattle.std.proofs.Common.{◌≡◌, refl, sym, ◌∙◌, ap, arith, ℕ, zero, suc, ◌+◌, true, false, cond, List, [], ◌∷◌, length, map}
use Rattle.std.specs.Prelude.{Option, Some, None, ◌==◌, option_and_then, option_map, slice_get}
use Rattle.std.proofs.lemmas.Bool.Decides.{nat_tests}
use Rattle.std.proofs.lemmas.List.{length-map}
use Rattle.cell_num.specs.declared.ids.CellId.{CellId}
use Rattle.cell_world.specs.Reexport.{with_alias}
use Rattle.cell_world.specs.World.{Alias, Cell}
use Rattle.cell_space.specs.declared.cell.SpaceCell.{SpaceCell}
use Rattle.cell_space.specs.Named.{cell_numbered}
use Rattle.cell_space.specs.Spaces.{SpacesState}
use Rattle.cell_gather.specs.declared.want.Want.{Want}
use Rattle.cell_gather.specs.Renaming.{hand_on_now, heir_now, new_numbered, renamed_now, take_all_now, take_now}

-- cells by rising numbers are found at their places
pub found_at : (from : ℕ) (cells : List Cell) → ((k : ℕ) (c : Cell) → slice_get cells k ≡ Some c → c.id.0 ≡ from + k) → (k : ℕ) (c : Cell) → slice_get cells k ≡ Some c → new_numbered cells (from + k) ≡ Some c
found_at from [] all k c e = absurd (cc e)
found_at from (x ∷ cells) all zero c e =
    let same : x ≡ c = cc in
    let number = all zero x refl in
    let own : (x.id.0 == from + 0) ≡ true = grind (arith, nat_tests) in
    ap (λ b. cond b (Some x) (new_numbered cells (from + 0))) own ∙ ap (λ (y : Cell). Some y) same
found_at from (x ∷ cells) all (suc k) c e =
    let number = all zero x refl in
    let other : (x.id.0 == from + suc k) ≡ false = grind (arith, nat_tests) in
    ap (λ b. cond b (Some x) (new_numbered cells (from + suc k))) other
    ∙ ap (new_numbered cells) (let m : from + suc k ≡ suc from + k = omega arith in m)
    ∙ found_at (suc from) cells (λ j y at. let h = all (suc j) y at in omega (arith, h)) k c e

module _ (s : SpacesState) where
  length_taken : (number : ℕ) (cells : List Cell) (name : List ℕ) → length (take_now s number cells name) ≡ length cells
  length_taken number cells name = by (option_and_then (λ c. heir_now s cells c name) (new_numbered cells number))
    where
      by : (o : Option ℕ) → length (elim o as (λ _. List Cell) [ None ↦ cells | Some symbol ↦ map (with_alias number (record { name = name; symbol = symbol })) cells ]) ≡ length cells
      by None = refl
      by (Some symbol) = length-map cells (with_alias number (record { name = name; symbol = symbol }))

  pub length_all_taken : (number : ℕ) (cells : List Cell) (names : List Alias) → length (take_all_now s number cells names) ≡ length cells
  length_all_taken number cells [] = refl
  length_all_taken number cells (a ∷ names) = length_all_taken number (take_now s number cells a.name) names ∙ length_taken number cells a.name

  -- one name more
  pub name_taken : (number : ℕ) (first cells new : List Cell) (all left rest : List Alias) (row : Alias) → new ≡ take_now s number cells row.name → left ≡ row ∷ rest
      → take_all_now s number cells left ≡ take_all_now s number first all → take_all_now s number new rest ≡ take_all_now s number first all
  name_taken number first cells new all left rest row named split far =
      ap (λ (cs : List Cell). take_all_now s number cs rest) named ∙ sym (ap (take_all_now s number cells) split) ∙ far

  abbrev given : ℕ → List Cell → Option SpaceCell → List Cell
  given number cells o = elim o as (λ _. List Cell) [ None ↦ cells | Some old ↦ take_all_now s number cells old.names ]

  -- the names of the replaced cell
  pub handed : (number : ℕ) (cells : List Cell) (want : Want) (old : CellId) (names : List Alias) → want.replaces ≡ Some old → option_map (λ c. c.names) (cell_numbered s.cells old.0) ≡ Some names
      → take_all_now s number cells names ≡ hand_on_now s number cells want
  handed number cells want old names is e =
      by (cell_numbered s.cells old.0) e
      ∙ sym (ap (λ (o : Option CellId). given number cells (option_and_then (λ (id : CellId). cell_numbered s.cells id.0) o)) is)
    where
      by : (o : Option SpaceCell) → option_map (λ c. c.names) o ≡ Some names → take_all_now s number cells names ≡ given number cells o
      by None h = absurd (cc h)
      by (Some c) h = let same : c.names ≡ names = cc in ap (take_all_now s number cells) (sym same)

  pub not_handed : (number : ℕ) (cells : List Cell) (want : Want) → want.replaces ≡ None → cells ≡ hand_on_now s number cells want
  not_handed number cells want none = sym (ap (λ (o : Option CellId). given number cells (option_and_then (λ (id : CellId). cell_numbered s.cells id.0) o)) none)

  -- one want more
  pub want_handed : (next place : ℕ) (first cells new : List Cell) (wants left rest : List Want) (want : Want) → left ≡ want ∷ rest
      → renamed_now s (next + place) cells left ≡ renamed_now s next first wants → new ≡ hand_on_now s (next + place) cells want
      → renamed_now s (next + (place + 1)) new rest ≡ renamed_now s next first wants
  want_handed next place first cells new wants left rest want split far e =
      ap (λ (n : ℕ). renamed_now s n new rest) (let m : next + (place + 1) ≡ suc (next + place) = omega arith in m)
      ∙ ap (λ (cs : List Cell). renamed_now s (suc (next + place)) cs rest) e
      ∙ sym (ap (renamed_now s (next + place) cells) split)
      ∙ far
