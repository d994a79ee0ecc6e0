use Rattle.std.proofs.Common.{◌≡◌, ◌∙◌, refl, ap}
use Rattle.cell_world.specs.declared.refusal.Refusal.{Refusal}
use Rattle.std.specs.Prelude.{Ok, Err}
use Rattle.cell_xfer.specs.Carried.{with_zeros}
use Rattle.cell_xfer.proofs.CarriedOver.{can_unmap, carried_over, one_failed, zeros_mapped}
use Rattle.cell_xfer.proofs.carrying.carry_over.Goals as goal

pub unmap-requires : goal.unmap-requires
unmap-requires c =
    let e : c.map.new.self ≡ with_zeros c.args.memory.now c.args.given.stack = c.map.ensures ∙ zeros_mapped c.args.memory.now c.args.given c.requires _ (c.of.ensures ∙ c.permission.ensures) in
    can_unmap c.args.memory.now c.args.given c.requires c.map.new.self e c.keeps_shapes.ensures c.laid_out.ensures c.holds_bytes.ensures c.transfer-result.new.memory c.transfer-result.ensures.written c.deref.result.now c.deref.ensures.value

pub refused-requires : goal.refused-requires
refused-requires c =
    let e : c.map.new.self ≡ with_zeros c.args.memory.now c.args.given.stack = c.map.ensures ∙ zeros_mapped c.args.memory.now c.args.given c.requires _ (c.of.ensures ∙ c.permission.ensures) in
    one_failed c.args.memory.now c.args.given c.requires c.map.new.self e c.keeps_shapes.ensures c.laid_out.ensures c.holds_bytes.ensures c.transfer-result.new.memory c.transfer-result.ensures.written c.deref.result.now c.deref.ensures.value c.in-Err.failure c.in-Err.ensures.answer

pub returns-in-Ok : goal.returns-in-Ok
returns-in-Ok c =
    let e : c.map.new.self ≡ with_zeros c.args.memory.now c.args.given.stack = c.map.ensures ∙ zeros_mapped c.args.memory.now c.args.given c.requires _ (c.of.ensures ∙ c.permission.ensures) in
    carried_over c.args.memory.now c.args.given c.requires c.map.new.self e c.keeps_shapes.ensures c.laid_out.ensures c.holds_bytes.ensures c.transfer-result.new.memory c.transfer-result.ensures.written c.deref.result.now c.deref.ensures.value (Ok tt) _ c.unmap.new.self c.unmap.ensures c.in-Ok.ensures.answer refl

pub returns-in-Err : goal.returns-in-Err
returns-in-Err c =
    let e : c.map.new.self ≡ with_zeros c.args.memory.now c.args.given.stack = c.map.ensures ∙ zeros_mapped c.args.memory.now c.args.given c.requires _ (c.of.ensures ∙ c.permission.ensures) in
    carried_over c.args.memory.now c.args.given c.requires c.map.new.self e c.keeps_shapes.ensures c.laid_out.ensures c.holds_bytes.ensures c.transfer-result.new.memory c.transfer-result.ensures.written c.deref.result.now c.deref.ensures.value (Err c.in-Err.failure) _ c.unmap.new.self c.unmap.ensures c.in-Err.ensures.answer (ap (λ (r : Refusal). Err r) c.refused.ensures)
