use Rattle.std.proofs.Common.{◌∙◌, ap, ◌++◌}
use Rattle.std.specs.Prelude.{◌&&◌, ◌==◌}
use Rattle.cell_num.specs.Lists.{equals}
use Rattle.cell_world.specs.declared.state.Standing.TheVariants.{Attached}
use Rattle.cell_space.specs.Named.{cell_at, is_in, number_as}
use Rattle.cell_space.proofs.Layered.{answered_first, answered_next, number-append}
use Rattle.cell_space.proofs.ahead.Ahead.cell_at.Goals as goal

pub returns-in-Some : goal.returns-in-Some
returns-in-Some c =
    let at = cell_at c.args.ns c.args.stem.now in
    let old = c.self.inside.present.now.cells in
    let new = c.self.inside.fresh.items in
    answered_first number_as c.in-Some.cell (at old) (at new) (at (old ++ new)) (number-append (λ d. is_in Attached d && d.ns == c.args.ns && equals d.stem c.args.stem.now) old new) c.in-Some.ensures
    ∙ ap (λ s. cell_at c.args.ns c.args.stem.now s.cells) c.self.view_is

pub returns-in-None : goal.returns-in-None
returns-in-None c =
    let at = cell_at c.args.ns c.args.stem.now in
    let old = c.self.inside.present.now.cells in
    let new = c.self.inside.fresh.items in
    answered_next number_as c.cell_at-in-None.result (at old) (at new) (at (old ++ new)) (number-append (λ d. is_in Attached d && d.ns == c.args.ns && equals d.stem c.args.stem.now) old new) c.in-None.ensures
    (c.cell_at-in-None.ensures ∙ ap at c.deref.ensures.value)
    ∙ ap (λ s. cell_at c.args.ns c.args.stem.now s.cells) c.self.view_is
