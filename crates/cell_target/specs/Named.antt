-- The name that was looked up last.
--     world_of scene                    what the scene sees
--     provider_asked w ns name s a      who provides the name for cells of that namespace and state, or holds it strongly
--     asked_among spaces s name cells a    the same among the cells of spaces
--     target_named w a ns s name        where that one has it
--     IsNamed w named                   the name has that target for attached cells of its namespace
--     named_after last s now            what is at hand after one more name
use Rattle.std.specs.Prelude.{◌≡◌, ◌++◌, ℕ, List, Option, Some, None, option_and_then}
use Rattle.cell_world.specs.World.{Standing, World}
use Rattle.cell_world.specs.declared.state.Standing.TheVariants.{Attached, Detached}
use Rattle.cell_world.specs.Names.{Provider, provider_for, strong_provider}
use Rattle.cell_world.specs.Linked.Target.{provided_target}
use Rattle.cell_world.specs.declared.state.Target.{Target}
use Rattle.cell_space.specs.Named as spaces
use Rattle.cell_space.specs.declared.cell.SpaceCell.{SpaceCell}
use Rattle.cell_target.specs.Scene.{seen}
use Rattle.cell_target.specs.declared.asked.Asked.{Asked}
use Rattle.cell_target.specs.declared.asked.Asked.TheVariants.{Anyone, Strong}
use Rattle.cell_target.specs.declared.scene.Scene.{Scene}
use Rattle.cell_target.specs.declared.named.Named.{Named}

abbrev pub world_of : Scene → World
world_of s = seen s.ahead.now.namespaces (s.present.now ++ s.fresh.now) s.ahead.now.cells

abbrev pub provider_asked : World → ℕ → List ℕ → Standing → Asked → Option Provider
provider_asked w ns name s Anyone = provider_for w s ns name
provider_asked w ns name s Strong = strong_provider w s ns name

abbrev pub asked_among : List ℕ → Standing → List ℕ → List SpaceCell → Asked → Option Provider
asked_among way s name cells Anyone = spaces.provider_for way s name cells
asked_among way s name cells Strong = spaces.strong_provider way s name cells

abbrev pub target_named : World → Asked → ℕ → Standing → List ℕ → Option Target
target_named w asked ns s name = option_and_then (provided_target w) (provider_asked w ns name s asked)

abbrev pub IsNamed : World → Option Named → Type 0
IsNamed w None = Unit {0}
IsNamed w (Some n) = n.target ≡ target_named w n.asked n.ns Attached n.name.now

abbrev pub named_after : Option Named → Standing → Named → Option Named
named_after last Attached now = Some now
named_after last (Detached k) now = last
