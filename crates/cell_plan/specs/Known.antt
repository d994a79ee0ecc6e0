-- Names that somebody provides.
--     is_lacking ahead ns s name    nobody provides the name for a cell of that namespace and state
--     is_open s                     a symbol that the object doesn't define itself
--     IsKnown ahead known           somebody provides the known name for attached cells of its namespace
--     known_after known ns s name   what is known after one more name that is provided
use Rattle.std.specs.Prelude.{◌≡◌, ℕ, Bool, false, ◌&&◌, List, Option, Some, None, is_none}
use Rattle.std.specs.Borrow.{Bor}
use Rattle.cell_object.specs.declared.object.Symbol.{Symbol}
use Rattle.cell_object.specs.Parts.{is_global, is_undefined}
use Rattle.cell_space.specs.Ahead.{AheadState}
use Rattle.cell_space.specs.Named.{provider_for}
use Rattle.cell_world.specs.World.{Standing}
use Rattle.cell_world.specs.declared.state.Standing.TheVariants.{Attached, Detached}
use Rattle.cell_world.specs.Names.{chain}
use Rattle.cell_plan.specs.declared.known.Known.{Known}

abbrev pub is_lacking : AheadState → ℕ → Standing → List ℕ → Bool
is_lacking ahead ns s name = is_none (provider_for (chain ahead.namespaces ns) s name ahead.cells)

abbrev pub is_open : Symbol → Bool
is_open s = is_global s.bind && is_undefined s.home

abbrev pub IsKnown : AheadState → Option Known → Type 0
IsKnown ahead None = Unit {0}
IsKnown ahead (Some k) = is_lacking ahead k.ns Attached k.name.now ≡ false

abbrev pub known_after : Option Known → ℕ → Standing → Bor (List ℕ) → Option Known
known_after known ns Attached name = Some (record { ns = ns; name = name })
known_after known ns (Detached k) name = known
