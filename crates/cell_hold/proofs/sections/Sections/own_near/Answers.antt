use Rattle.std.proofs.Common.{ap, ◌∙◌, List}
use Rattle.std.specs.Prelude.{◌==◌, ◌&&◌, filter}
use Rattle.std.specs.List.{list_any}
use Rattle.cell_world.specs.declared.state.Placed.{Placed}
use Rattle.cell_hold.proofs.Indexing.{any_own}
use Rattle.cell_hold.proofs.sections.Sections.own_near.Goals as goal

pub returns : goal.returns
returns c = λ p.
    any_own c.self.inside.list.items c.self.inside.by_cell.items c.self.invariant p c.args.cell.0 c.sections_near.result.0.now
    (c.sections_near.ensures ∙ ap (λ (places : List Placed). filter (λ s. s.key.cell.0 == c.args.cell.0) places) c.deref.ensures.value)
    ∙ ap (λ (places : List Placed). list_any (λ s. s.key.cell.0 == c.args.cell.0 && p s) places) c.self.view_is
