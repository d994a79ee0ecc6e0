-- The routines and the addresses of placed cells, one after another.
use Rattle.std.proofs.Common.{◌≡◌, refl, sym, ◌∙◌, ap, ℕ, zero, suc, ◌+◌, ◌<◌, List, [], ◌∷◌, ◌++◌, Some, map, length, get_or, take}
use Rattle.std.specs.Prelude.{All, ◌==◌, find, slice_get}
use Rattle.std.proofs.lemmas.List.{map-append, take_more}
use Rattle.cell_num.specs.Lists.{numbered_from}
use Rattle.cell_world.specs.declared.state.NewCell.{NewCell}
use Rattle.cell_world.specs.declared.transfer.Routine.{Routine}
use Rattle.cell_world.specs.Commands.SwapTransfer.{Begin as Place}
use Rattle.cell_world.specs.World.{Alias}
use Rattle.cell_num.proofs.Elements.{All-In, found-In}
use Rattle.cell_placed.specs.Low.{IsLow}
use Rattle.cell_routines.specs.declared.entries.Begin.{Begin}
use Rattle.cell_routines.specs.Begins.{begin_as}
use Rattle.cell_routines.specs.Placed.{addresses_by, address_by, entry_among}

-- a cell that is found is low, as each is
pub found_low : (cells : List NewCell) (number : ℕ) (c : NewCell) → All IsLow cells → Some c ≡ find (λ c. c.id.0 == number) cells → IsLow c
found_low cells number c low found = All-In IsLow cells low c (found-In (λ (c : NewCell). c.id.0 == number) cells c (sym found)).0

module _ (cells : List NewCell) where
  abbrev routine : ℕ × Place → Routine
  routine p = record { name = p.0; entry = entry_among cells p.1 }

  -- the routines of the places that are left, which are numbered from n on
  abbrev pub routines_from : ℕ → List Begin → List Routine
  routines_from n begins = map routine (numbered_from n (map begin_as begins))

module _ (c : NewCell) where
  abbrev addressed : Alias → List ℕ × ℕ
  addressed a = (a.name, address_by c a.symbol)

  pub addresses_more : (names : List Alias) (i : ℕ) (name : List ℕ) (symbol addr : ℕ) → i < length names → slice_get names i ≡ Some (record { name = name; symbol = symbol }) → addr ≡ address_by c symbol
      → addresses_by c (take (i + 1) names) ≡ addresses_by c (take i names) ++ (name, addr) ∷ []
  addresses_more names i name symbol addr lt item is =
      let a : Alias = record { name = name; symbol = symbol } in
      ap (addresses_by c) (take_more names i a lt ∙ ap (λ x. take i names ++ x ∷ []) (at names i a item))
      ∙ map-append addressed (take i names) (a ∷ [])
      ∙ ap (λ (n : ℕ). let r : List ℕ × ℕ = (name, n) in addresses_by c (take i names) ++ r ∷ []) (sym is)
    where
      at : (names : List Alias) (i : ℕ) (a : Alias) → slice_get names i ≡ Some a → get_or names i a ≡ a
      at [] i a e = refl
      at (x ∷ names) zero a e = some_is x a e
        where
          some_is : (x a : Alias) → Some x ≡ Some a → x ≡ a
          some_is x a e = cc
      at (x ∷ names) (suc i) a e = at names i a e
