use Rattle.std.proofs.Common.{◌≤◌, length, take, sym, subst, arith}
use Rattle.std.proofs.lemmas.List.{take_all}
use Rattle.std.proofs.lemmas.List.Elements.{All-same}
use Rattle.cell_space.specs.Index.{held, IsListed}
use Rattle.cell_space.proofs.Holding.{front_more}
use Rattle.cell_space.proofs.index.index_of.Goals as goal

pub loop-cell-preserved : goal.loop-cell-preserved
loop-cell-preserved c =
    let cells = c.args.cells.now in
    front_more cells c.requires c.cell-item.result.cell.0 (held c.loop-cell.index) (held c.claim_cell.new.self) c.loop-cell.cell-index c.cell-item.result c.loop-cell-test.true
    c.in_ok-claim_cell.ensures.grows (subst (IsListed (held c.claim_cell.new.self)) c.cell-item.is c.in_ok-claim_cell.ensures.taken) c.loop-cell.invariant

pub returns : goal.returns
returns c =
    let cells = c.args.cells.now in
    let le : length cells ≤ c.loop-cell.cell-index = omega arith in
    record { each = All-same (IsListed (held c.loop-cell.index)) cells (take c.loop-cell.cell-index cells) (sym (take_all c.loop-cell.cell-index cells le)) c.loop-cell.invariant }
