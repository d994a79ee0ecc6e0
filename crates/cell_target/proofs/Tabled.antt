-- The targets of entries by a table of the targets of symbols.
use Rattle.std.proofs.Common.{◌≡◌, refl, ◌∙◌, ap, ℕ, zero, suc, List, [], ◌∷◌, map}
use Rattle.std.specs.Prelude.{Option, Some, None, option_map, option_and_then, slice_get, unwrap_or}
use Rattle.std.proofs.lemmas.Option.{slice_get-map}
use Rattle.cell_object.specs.declared.object.Entry.{Entry}
use Rattle.cell_object.specs.declared.object.Symbol.{Symbol}
use Rattle.cell_world.specs.declared.state.Target.{Target}
use Rattle.cell_world.specs.declared.state.Target.TheVariants.{Number}
use Rattle.cell_world.specs.World.{World, Cell}
use Rattle.cell_world.specs.Linked.Target.{numbered_target, symbol_target, target_of, targets_of, naming_entry}
use Rattle.cell_target.specs.Entries.{symbol_targets, target_numbered, entry_target, entry_targets}

pub map-same : {X Y : Type 0} (f g : X → Y) → ((x : X) → f x ≡ g x) → (xs : List X) → map f xs ≡ map g xs
map-same f g e [] = refl
map-same f g e (x ∷ xs) = ap (λ y. y ∷ map f xs) (e x) ∙ ap (λ ys. g x ∷ ys) (map-same f g e xs)

module _ (w : World) (c : Cell) where
  by_symbol : (found : Option Symbol) → option_and_then (λ t. t) (option_map (λ s. symbol_target w c s s.home) found) ≡ option_and_then (λ s. symbol_target w c s s.home) found
  by_symbol None = refl
  by_symbol (Some s) = refl

  by_number : (n : ℕ) → target_numbered (symbol_targets w c) n ≡ numbered_target w c n
  by_number zero = refl
  by_number (suc n) =
      ap (option_and_then (λ (t : Option Target). t)) (slice_get-map (λ s. symbol_target w c s s.home) c.object.symbols n)
      ∙ by_symbol (slice_get c.object.symbols n)

  by_naming : (found : Option Entry) → option_and_then (λ n. target_numbered (symbol_targets w c) n.symbol) found ≡ option_and_then (λ n. numbered_target w c n.symbol) found
  by_naming None = refl
  by_naming (Some n) = by_number n.symbol

  by_entry : (e : Entry) → entry_target (symbol_targets w c) c.object e ≡ target_of w c e
  by_entry e = by_naming (naming_entry c.object e)

  pub targets_tabled : entry_targets (symbol_targets w c) c.object ≡ targets_of w c
  targets_tabled = map-same _ _ (λ e. ap (λ (t : Option Target). unwrap_or t (Number 0)) (by_entry e)) c.object.entries
