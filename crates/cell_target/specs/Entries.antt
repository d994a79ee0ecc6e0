-- The targets of a cell's entries, by a table of the targets of its symbols.
--     symbol_targets w c           the target of each symbol of the cell
--     entry_targets targets object what the entries name, where those are the targets of the object's symbols
use Rattle.std.specs.Prelude.{ℕ, zero, suc, List, Option, Some, map, option_and_then, slice_get, unwrap_or}
use Rattle.cell_object.specs.declared.object.Entry.{Entry}
use Rattle.cell_object.specs.declared.object.Object.{Object}
use Rattle.cell_world.specs.declared.state.Target.{Target}
use Rattle.cell_world.specs.declared.state.Target.TheVariants.{Number}
use Rattle.cell_world.specs.World.{World, Cell}
use Rattle.cell_world.specs.Linked.Target.{symbol_target, naming_entry}

abbrev pub symbol_targets : World → Cell → List (Option Target)
symbol_targets w c = map (λ s. symbol_target w c s s.home) c.object.symbols

-- by the symbol's number: symbol 0 is the number 0
abbrev pub target_numbered : List (Option Target) → ℕ → Option Target
target_numbered targets zero = Some (Number 0)
target_numbered targets (suc n) = option_and_then (λ t. t) (slice_get targets n)

abbrev pub entry_target : List (Option Target) → Object → Entry → Option Target
entry_target targets object e = option_and_then (λ n. target_numbered targets n.symbol) (naming_entry object e)

abbrev pub entry_targets : List (Option Target) → Object → List Target
entry_targets targets object = map (λ e. unwrap_or (entry_target targets object e) (Number 0)) object.entries
