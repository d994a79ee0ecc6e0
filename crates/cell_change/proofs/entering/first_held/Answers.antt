use Rattle.std.proofs.Common.{[], ◌∙◌, ap, sym, subst, Bool, List, None, map}
use Rattle.std.specs.Prelude.{if◌then◌else◌}
use Rattle.cell_num.specs.declared.ids.CellId.{CellId}
use Rattle.cell_world.specs.Commands.UnloadCommand.{first_held}
use Rattle.cell_unload.specs.Sweep.{holding_in}
use Rattle.cell_change.specs.Entering.{Reads}
use Rattle.cell_change.proofs.entering.first_held.Goals as goal

pub returns-in-Some : goal.returns-in-Some
returns-in-Some c =
    let m = c.args.machine.now in
    let asked = c.args.asked.now in
    let reads = subst (Reads m asked.replaced.items) c.in-Some.is c.requires in
    c.first_held.ensures [] reads.1
    ∙ (ap (λ (old : List CellId). first_held (holding_in m []) (map (λ (x : CellId). x.0) old)) c.deref.ensures.value
    ∙ ap (λ (b : Bool). if b then first_held (holding_in m []) (map (λ (x : CellId). x.0) asked.replaced.items) else None) (sym (sym c.is_strict.ensures ∙ c.if-not-is_strict.false)))
