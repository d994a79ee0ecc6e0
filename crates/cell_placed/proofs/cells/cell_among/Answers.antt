use Rattle.std.proofs.Common.{sym, ◌∙◌, ap}
use Rattle.std.specs.Prelude.{◌==◌, find, nat_lt, option_map}
use Rattle.std.specs.Option.{option_or}
use Rattle.std.proofs.lemmas.List.Folds.{find-append}
use Rattle.cell_world.proofs.InOrder.{pairs_back, pairs_front}
use Rattle.cell_world.specs.declared.state.NewCell.{NewCell}
use Rattle.cell_placed.proofs.cells.cell_among.Goals as goal

pub cell_numbered-requires : goal.cell_numbered-requires
cell_numbered-requires c = pairs_front (λ (a b : NewCell). nat_lt a.id.0 b.id.0) c.args.present.now c.args.fresh.now c.requires

pub returns-in-Some : goal.returns-in-Some
returns-in-Some c =
    let is_it = λ (d : NewCell). d.id.0 == c.args.number in
    ap (λ o. option_or o (find is_it c.args.fresh.now)) (c.in-Some.ensures {u = tt}) ∙ sym (find-append is_it c.args.present.now c.args.fresh.now)

pub cell_numbered-requires-2 : goal.cell_numbered-requires-2
cell_numbered-requires-2 c = pairs_back (λ (a b : NewCell). nat_lt a.id.0 b.id.0) c.args.present.now c.args.fresh.now c.requires

pub returns : goal.returns
returns c =
    let is_it = λ (d : NewCell). d.id.0 == c.args.number in
    c.cell_numbered-2.ensures
    ∙ (ap (λ o. option_or o (find is_it c.args.fresh.now)) (ap (option_map (λ d. d.now)) (sym c.in_default.is) ∙ c.cell_numbered.ensures)
    ∙ sym (find-append is_it c.args.present.now c.args.fresh.now))
