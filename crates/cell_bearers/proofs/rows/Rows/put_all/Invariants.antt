use Rattle.std.proofs.Common.{◌≡◌, cond, take}
use Rattle.std.specs.List.{list_any}
use Rattle.cell_bearers.specs.Namings.{is_owners}
use Rattle.cell_bearers.specs.Rows.{HasSameWidths, owned_at}
use Rattle.cell_bearers.specs.declared.named.Owner.{Owner}
use Rattle.cell_bearers.proofs.rows.Rows.put_all.Given as goal

-- the row of those so far, and the rows of others
abbrev pub invariant-loop-index : goal.invariant-loop-index
invariant-loop-index l = record {
  widths : HasSameWidths l.fn.self l.self;
  rows : (o : Owner) → owned_at l.self o ≡ cond (list_any (λ n. is_owners o n.owner) (take l.index l.namings)) l.row (owned_at l.fn.self o);
}
