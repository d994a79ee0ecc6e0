-- What a symbol is, by who is asked for its name.
--     undefined_target w ns s x    an undefined symbol: what its name's provider has, and for a WEAK without one the number 0
--     yielding_target w c s x      a WEAK symbol that the cell defines: what a strong holder of its name has, or else its own
use Rattle.std.specs.Prelude.{ℕ, Option, Some, None, option_and_then, if◌then◌else◌}
use Rattle.cell_num.specs.Lists.{or_else}
use Rattle.cell_object.specs.declared.object.Symbol.{Symbol}
use Rattle.cell_object.specs.Parts.{is_local, is_weak}
use Rattle.cell_world.specs.World.{World, Standing}
use Rattle.cell_world.specs.Names.{provider_for}
use Rattle.cell_world.specs.Linked.Target.{own_target, provided_target}
use Rattle.cell_world.specs.declared.state.NewCell.{NewCell}
use Rattle.cell_world.specs.declared.state.Target.{Target}
use Rattle.cell_world.specs.declared.state.Target.TheVariants.{Number}
use Rattle.cell_target.specs.Named.{target_named}
use Rattle.cell_target.specs.declared.asked.Asked.TheVariants.{Strong}

-- without a provider
abbrev pub unprovided : Symbol → Option Target
unprovided x = if is_weak x.bind then Some (Number 0) else None

abbrev pub undefined_target : World → ℕ → Standing → Symbol → Option Target
undefined_target w ns s x =
    or_else (option_and_then (provided_target w) (if is_local x.bind then None else provider_for w s ns x.name)) (unprovided x)

abbrev pub yielding_target : World → NewCell → Standing → Symbol → Option Target
yielding_target w c s x = or_else (target_named w Strong c.ns s x.name) (own_target c x x.home)
