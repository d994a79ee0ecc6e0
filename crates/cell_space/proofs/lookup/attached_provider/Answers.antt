use Rattle.std.proofs.Common.{◌≡◌, ◌∙◌, ℕ, List, Some, None, ap, sym}
use Rattle.std.specs.Prelude.{◌&&◌, find, option_map, option_and_then}
use Rattle.cell_world.specs.Names.{chain, symbol_in}
use Rattle.cell_world.specs.declared.state.Standing.TheVariants.{Attached}
use Rattle.cell_space.specs.declared.cell.SpaceCell.{SpaceCell}
use Rattle.cell_space.specs.declared.word.WordKind.{WordKind}
use Rattle.cell_space.specs.declared.word.WordKind.TheVariants.{Name}
use Rattle.cell_space.specs.Index.{has_word}
use Rattle.cell_space.specs.Named.{is_holder, provider_at, provider_as}
use Rattle.cell_space.proofs.Finding.{provider_found, has, made}
use Rattle.cell_space.proofs.lookup.attached_provider.Goals as goal

same_word : (kind : WordKind) (text spaces name : List ℕ) (cells : List SpaceCell) → kind ≡ Name → text ≡ name
    → find (λ x. has_word kind text x && is_holder spaces Attached x) cells ≡ find (has spaces name) cells
same_word kind text spaces name cells is same =
    ap (λ (k : WordKind). find (λ x. has_word k text x && is_holder spaces Attached x) cells) is
    ∙ ap (λ (t : List ℕ). find (λ x. has_word Name t x && is_holder spaces Attached x) cells) same

pub returns-in_err-cell : goal.returns-in_err-cell
returns-in_err-cell c =
    let spaces = chain c.args.namespaces.now c.args.ns in
    let none : find (has spaces c.args.name.now) c.args.cells.now ≡ None = sym (c.lowest_above.ensures ∙ same_word c.of-word.result.kind c.of-word.result.text.now spaces c.args.name.now c.args.cells.now c.of-word.ensures.kind c.of-word.ensures.text) ∙ ap (option_map (λ r. r.now)) c.in_err-cell.was in
    ap (option_map provider_as) c.from_residual.ensures
    ∙ sym (provider_found spaces c.args.name.now c.args.cells.now ∙ ap (option_and_then (provider_at c.args.name.now)) none)

pub returns-in_err-symbol : goal.returns-in_err-symbol
returns-in_err-symbol c =
    let spaces = chain c.args.namespaces.now c.args.ns in
    let cell = c.in_ok-cell.cell.now in
    let found : find (has spaces c.args.name.now) c.args.cells.now ≡ Some c.in_ok-cell.cell.now = sym (c.lowest_above.ensures ∙ same_word c.of-word.result.kind c.of-word.result.text.now spaces c.args.name.now c.args.cells.now c.of-word.ensures.kind c.of-word.ensures.text) ∙ ap (option_map (λ r. r.now)) c.in_ok-cell.was in
    let none : symbol_in cell.names c.args.name.now ≡ None = sym c.symbol_of.ensures ∙ c.in_err-symbol.was in
    ap (option_map provider_as) c.from_residual-in_err-symbol.ensures
    ∙ sym (provider_found spaces c.args.name.now c.args.cells.now ∙ ap (option_and_then (provider_at c.args.name.now)) found ∙ ap (option_map (made spaces c.args.name.now cell)) none)

pub returns : goal.returns
returns c =
    let spaces = chain c.args.namespaces.now c.args.ns in
    let cell = c.in_ok-cell.cell.now in
    let found : find (has spaces c.args.name.now) c.args.cells.now ≡ Some c.in_ok-cell.cell.now = sym (c.lowest_above.ensures ∙ same_word c.of-word.result.kind c.of-word.result.text.now spaces c.args.name.now c.args.cells.now c.of-word.ensures.kind c.of-word.ensures.text) ∙ ap (option_map (λ r. r.now)) c.in_ok-cell.was in
    let symbol : symbol_in cell.names c.args.name.now ≡ Some c.in_ok-symbol.symbol = sym c.symbol_of.ensures ∙ c.in_ok-symbol.was in
    sym (provider_found spaces c.args.name.now c.args.cells.now ∙ ap (option_and_then (provider_at c.args.name.now)) found ∙ ap (option_map (made spaces c.args.name.now cell)) symbol)
