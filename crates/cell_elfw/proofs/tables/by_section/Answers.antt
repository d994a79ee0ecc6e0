use Rattle.std.proofs.Common.{◌∷◌, [], length, length-append, ap, arith}
use Rattle.cell_elfw.proofs.Grouped.{empty_put_to}
use Rattle.cell_elfw.proofs.tables.by_section.Goals as goal

pub loop-preserved : goal.loop-preserved
loop-preserved c = record {
  count = omega (arith, ap length c.in_ok-push.ensures.items, length-append c.loop.tables.items (c.new.result ∷ []), c.loop.invariant.count);
  none = empty_put_to (λ table. table.items) c.loop.tables.items c.push.new.self.items c.new.result c.in_ok-push.ensures.items c.new.ensures.items c.loop.invariant.none;
}
