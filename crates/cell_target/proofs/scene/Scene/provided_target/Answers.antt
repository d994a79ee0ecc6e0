use Rattle.std.proofs.Common.{sym, ◌∙◌, ap, ◌++◌}
use Rattle.std.specs.Prelude.{option_and_then}
use Rattle.cell_target.specs.Scene.{seen}
use Rattle.cell_placed.proofs.Symbols.{at_place, provided_by_places}
use Rattle.cell_target.proofs.Lookups.{found_there}
use Rattle.cell_space.specs.Named.{provider_as}
use Rattle.cell_target.proofs.scene.Scene.provided_target.Goals as goal

pub returns-in_err-cell : goal.returns-in_err-cell
returns-in_err-cell c =
    let s = c.args.self.now in
    c.from_residual.ensures
    ∙ (ap (option_and_then (at_place (provider_as c.args.provider.now))) (c.in_err-cell.ensures {u = tt})
    ∙ sym (provided_by_places (seen s.ahead.now.namespaces (s.present.now ++ s.fresh.now) s.ahead.now.cells) (provider_as c.args.provider.now)))

pub target_in-requires : goal.target_in-requires
target_in-requires c =
    let s = c.args.self.now in
    s.cells.low c.in_ok-cell.cell.now
    (found_there s.ahead.now.namespaces (s.present.now ++ s.fresh.now) s.ahead.now.cells s.cells.joined c.args.provider.now.cell.0 c.in_ok-cell.cell.now (sym (c.in_ok-cell.ensures {u = tt})))

pub returns : goal.returns
returns c =
    let s = c.args.self.now in
    c.target_in.ensures
    ∙ (ap (option_and_then (at_place (provider_as c.args.provider.now))) (c.in_ok-cell.ensures {u = tt})
    ∙ sym (provided_by_places (seen s.ahead.now.namespaces (s.present.now ++ s.fresh.now) s.ahead.now.cells) (provider_as c.args.provider.now)))
