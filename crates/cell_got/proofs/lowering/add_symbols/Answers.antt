use Rattle.std.proofs.Common.{◌∙◌, ap, [], ◌∷◌, ◌++◌}
use Rattle.cell_object.specs.declared.object.Symbol.{Symbol}
use Rattle.cell_got.specs.Lower.{slot_symbol}
use Rattle.cell_got.proofs.Adding.{mapped_upto}
use Rattle.cell_got.proofs.lowering.add_symbols.Goals as goal

pub loop-slot-preserved : goal.loop-slot-preserved
loop-slot-preserved c =
    mapped_upto c.args.symbols.now.items (slot_symbol c.args.number) c.loop-slot.slot c.loop-slot.symbols.items c.push.new.self.items c.loop-slot.invariant
    (c.in_ok-push.ensures.items ∙ ap (λ (s : Symbol). c.loop-slot.symbols.items ++ s ∷ []) c.slot_symbol.ensures)
