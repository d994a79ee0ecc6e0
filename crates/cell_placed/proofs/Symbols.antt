-- The symbols of placed cells.
use Rattle.std.proofs.Common.{◌≡◌, refl, ℕ, zero, suc, inl, inr, List, [], ◌∷◌}
use Rattle.std.specs.Prelude.{Option, Some, None, option_and_then, option_map, slice_get}
use Rattle.cell_object.specs.declared.object.Object.{Object}
use Rattle.cell_object.specs.declared.object.Symbol.{Symbol}
use Rattle.cell_object.specs.Parts.{symbol_at}
use Rattle.cell_world.specs.declared.state.NewCell.{NewCell}
use Rattle.cell_world.specs.declared.state.Target.{Target}
use Rattle.cell_world.specs.World.{World, Cell, cell_of}
use Rattle.cell_world.specs.Names.{Provider}
use Rattle.cell_world.specs.Linked.Target.{own_target, provided_target}
use Rattle.cell_num.specs.Lists.{In}

in_slice : {X : Type 0} (xs : List X) (i : ℕ) (x : X) → slice_get xs i ≡ Some x → In x xs
in_slice [] i x e = absurd (cc e)
in_slice (y ∷ xs) zero x e = let h : Some y ≡ Some x = e in inl (cc h)
in_slice (y ∷ xs) (suc i) x e = inr (in_slice xs i x e)

pub symbol_in_object : (object : Object) (n : ℕ) (s : Symbol) → symbol_at object n ≡ Some s → In s object.symbols
symbol_in_object object zero s e = absurd (cc e)
symbol_in_object object (suc n) s e = in_slice object.symbols n s e

abbrev place : Cell → NewCell
place c = c.placed

-- what a provider's symbol is, by the places of its cell
abbrev pub at_place : Provider → NewCell → Option Target
at_place p c = option_and_then (λ s. own_target c s s.home) (symbol_at c.object p.symbol)

pub provided_by_places : (w : World) (p : Provider) → provided_target w p ≡ option_and_then (at_place p) (option_map place (cell_of w p.cell))
provided_by_places w p = go (cell_of w p.cell)
  where
    go : (o : Option Cell) → option_and_then (λ c. option_and_then (λ s. own_target c.placed s s.home) (symbol_at c.object p.symbol)) o ≡ option_and_then (at_place p) (option_map place o)
    go None = refl
    go (Some c) = refl
