use Rattle.std.proofs.Common.{◌≡◌, ◌∙◌, Some, None, ap, sym}
use Rattle.std.specs.Prelude.{find, option_map, option_and_then}
use Rattle.cell_world.specs.Names.{symbol_in}
use Rattle.cell_space.specs.declared.word.WordKind.{WordKind}
use Rattle.cell_space.specs.declared.word.WordKind.TheVariants.{Weak}
use Rattle.cell_space.specs.Index.{is_at}
use Rattle.cell_space.specs.Named.{provider_as}
use Rattle.cell_space.specs.Nearest.{weak_at}
use Rattle.cell_space.proofs.Nearests.{held_weakly, weak_found}
use Rattle.cell_space.proofs.nearest.weak_in.Goals as goal

pub returns-in_err-cell : goal.returns-in_err-cell
returns-in_err-cell c =
    let name = c.args.word.now.text.now in
    let none : find (is_at c.args.ns Weak name) c.args.cells.now ≡ None =
    sym (c.holder.ensures ∙ ap (λ (kind : WordKind). find (is_at c.args.ns kind name) c.args.cells.now) c.requires.weak) ∙ ap (option_map (λ r. r.now)) c.in_err-cell.was in
    ap (option_map provider_as) c.from_residual.ensures
    ∙ sym (weak_found c.args.ns name c.args.cells.now ∙ ap (option_and_then (weak_at name)) none)

pub returns-in_err-symbol : goal.returns-in_err-symbol
returns-in_err-symbol c =
    let name = c.args.word.now.text.now in
    let cell = c.in_ok-cell.cell.now in
    let found : find (is_at c.args.ns Weak name) c.args.cells.now ≡ Some c.in_ok-cell.cell.now =
    sym (c.holder.ensures ∙ ap (λ (kind : WordKind). find (is_at c.args.ns kind name) c.args.cells.now) c.requires.weak) ∙ ap (option_map (λ r. r.now)) c.in_ok-cell.was in
    let none : symbol_in cell.weak name ≡ None = sym c.symbol_of.ensures ∙ c.in_err-symbol.was in
    ap (option_map provider_as) c.from_residual-in_err-symbol.ensures
    ∙ sym (weak_found c.args.ns name c.args.cells.now ∙ ap (option_and_then (weak_at name)) found ∙ ap (option_map (held_weakly c.args.ns name cell)) none)

pub returns : goal.returns
returns c =
    let name = c.args.word.now.text.now in
    let cell = c.in_ok-cell.cell.now in
    let found : find (is_at c.args.ns Weak name) c.args.cells.now ≡ Some c.in_ok-cell.cell.now =
    sym (c.holder.ensures ∙ ap (λ (kind : WordKind). find (is_at c.args.ns kind name) c.args.cells.now) c.requires.weak) ∙ ap (option_map (λ r. r.now)) c.in_ok-cell.was in
    let symbol : symbol_in cell.weak name ≡ Some c.in_ok-symbol.symbol = sym c.symbol_of.ensures ∙ c.in_ok-symbol.was in
    sym (weak_found c.args.ns name c.args.cells.now ∙ ap (option_and_then (weak_at name)) found ∙ ap (option_map (held_weakly c.args.ns name cell)) symbol)
