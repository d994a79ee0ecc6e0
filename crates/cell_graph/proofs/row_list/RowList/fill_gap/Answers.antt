use Rattle.std.proofs.Common.{◌∷◌, ◌-◌, ◌∙◌, ap, arith, drop, length, refl}
use Rattle.std.specs.List.{insert}
use Rattle.cell_graph.specs.Gaps.{around}
use Rattle.cell_graph.proofs.Gapped.{filled, filled_behind, filled_length}
use Rattle.cell_graph.proofs.row_list.RowList.fill_gap.Goals as goal

pub returns-clause-behind : goal.returns-clause-behind
returns-clause-behind g c =
    let seen = ap (λ v. length v.items) c.self.view_is in
    filled_behind c.self.inside.list.items _ (c.args.gap.back - 1) c.args.gap.back c.args.at
    (omega (arith, c.requires.left)) (omega (arith, c.requires.gap.within, c.requires.left, seen)) refl
    ∙ ap (λ v. c.args.at ∷ drop c.args.gap.back v.items) c.self.view_is

pub returns-clause-items : goal.returns-clause-items
returns-clause-items g c =
    let seen = ap (λ v. length v.items) c.self.view_is in
    filled c.self.inside.list.items _ c.args.gap.front (c.args.gap.back - 1) c.args.gap.back c.args.at
    (omega (arith, c.requires.left)) (omega (arith, c.requires.left)) (omega (arith, c.requires.gap.within, c.requires.left, seen)) refl
    ∙ ap (λ v. insert (around c.args.gap v.items) c.args.gap.front c.args.at) c.self.view_is

pub returns-clause-gap : goal.returns-clause-gap
returns-clause-gap g c =
    let seen = ap (λ v. length v.items) c.self.view_is in
    let same = filled_length c.self.inside.list.items _ (c.args.gap.back - 1) c.args.at refl in
    record { ordered = omega (arith, c.requires.left); within = omega (arith, c.requires.gap.within, seen, same) }
