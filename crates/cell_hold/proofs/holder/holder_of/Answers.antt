use Rattle.std.proofs.Common.{◌≡◌, subst, ℕ, List, map}
use Rattle.cell_world.specs.Kept.{holder_in, kept_in}
use Rattle.cell_world.specs.declared.state.Placed.{Placed}
use Rattle.cell_hold.specs.Roots.{holding_by}
use Rattle.cell_hold.proofs.holder.holder_of.Goals as goal

pub returns : goal.returns
returns c =
    subst (λ (ps : List Placed). (cells : List ℕ) → map (λ k. k.0) c.args.kept.now ≡ kept_in (holding_by cells c.args.graph.now c.args.memory.now ps c.args.roots.now)
    → c.find_holder.result ≡ holder_in (holding_by cells c.args.graph.now c.args.memory.now ps c.args.roots.now) c.args.cell.0)
    c.places.view_is c.find_holder.ensures
