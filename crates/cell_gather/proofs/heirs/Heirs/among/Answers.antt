use Rattle.std.proofs.Common.{List, subst, sym}
use Rattle.cell_world.specs.World.{Alias}
use Rattle.cell_gather.specs.Renaming.{AreHeirs}
use Rattle.cell_space.proofs.Apart.{take_next}
use Rattle.cell_gather.proofs.heirs.Heirs.among.Goals as goal

pub loop-place-preserved : goal.loop-place-preserved
loop-place-preserved c =
    let row : Alias = record { name = c.at-symbol.result.0.now; symbol = c.at-symbol.result.1 } in
    subst (λ (rows : List Alias). AreHeirs rows c.note.new.self) (sym (take_next c.args.names.now c.loop-place.place row c.at-symbol.ensures))
    ((c.in_ok-note.ensures {u = tt}) _ c.loop-place.invariant)
