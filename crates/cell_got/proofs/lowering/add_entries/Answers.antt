use Rattle.std.proofs.Common.{◌∙◌, ap, [], ◌∷◌, ◌++◌}
use Rattle.cell_object.specs.declared.object.Entry.{Entry}
use Rattle.cell_got.specs.Lower.{slot_entry}
use Rattle.cell_got.proofs.Adding.{mapped_numbered}
use Rattle.cell_got.proofs.lowering.add_entries.Goals as goal

pub loop-slot-preserved : goal.loop-slot-preserved
loop-slot-preserved c =
    mapped_numbered c.args.entries.now.items (slot_entry c.args.number) c.args.symbols.now c.loop-slot.slot _ c.loop-slot.entries.items c.push.new.self.items c.loop-slot-test.true c.loop-slot.invariant
    (c.in_ok-push.ensures.items ∙ ap (λ (e : Entry). c.loop-slot.entries.items ++ e ∷ []) c.slot_entry.ensures)
