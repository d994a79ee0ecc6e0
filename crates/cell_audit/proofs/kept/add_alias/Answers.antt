use Rattle.std.proofs.Common.{◌-◌, refl, arith}
use Rattle.cell_audit.specs.Kept.{HasAlias}
use Rattle.cell_audit.proofs.Cells.{last_goes}
use Rattle.cell_audit.proofs.kept.add_alias.Goals as goal

pub returns : goal.returns
returns c =
    let cells = c.args.cells.now in
    let size = cells.ok.0 in
    last_goes (HasAlias c.args.alias) cells.items c.index_mut.result.now _ (c.len-last.result - 1) (omega (arith, size, c.requires)) (omega (arith, size, c.requires, c.len-last.ensures)) c.index_mut.ensures.value
    (record { added = c.in_ok-push.ensures.items; others = refl })
