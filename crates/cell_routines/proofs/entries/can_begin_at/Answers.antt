use Rattle.std.proofs.Common.{◌∙◌, ap, ℕ, Option}
use Rattle.std.specs.Prelude.{false, is_some, option_and_then, option_map, unwrap_or}
use Rattle.cell_num.specs.Lists.{where_true}
use Rattle.cell_object.specs.declared.object.Symbol.{Symbol}
use Rattle.cell_object.specs.Parts.{section_of}
use Rattle.cell_world.specs.declared.state.NewCell.{NewCell}
use Rattle.cell_world.specs.Commands.SpawnCommand.{inside_of, is_entry_in}
use Rattle.cell_routines.specs.Begins.{begin_in}
use Rattle.cell_routines.proofs.SymbolPlaces.{same_place}
use Rattle.cell_routines.proofs.entries.can_begin_at.Goals as goal

pub returns-in-Some : goal.returns-in-Some
returns-in-Some c =
    let cell = c.args.cell.now in
    c.is_some.ensures
    ∙ (ap is_some (c.of_symbol.ensures ∙ ap (λ (p : NewCell). begin_in p c.in-Some.symbol.now) (c.in_ok-entries.ensures {u = tt}))
    ∙ (same_place cell c.in-Some.symbol.now
    ∙ ap (λ (o : Option Symbol). is_some (option_and_then {T = Symbol} {U = ℕ × ℕ} (λ s. option_and_then {T = ℕ} {U = ℕ × ℕ} (λ section. where_true (unwrap_or (option_map (is_entry_in cell.object s.value) (section_of cell.object section)) false) (section, s.value)) (inside_of s.home)) o)) (c.in-Some.ensures {u = tt})))
