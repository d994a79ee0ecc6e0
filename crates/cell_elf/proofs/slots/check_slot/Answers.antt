use Rattle.cell_elf.proofs.SlotPass.{slot_rules_is}
use Rattle.cell_elf.proofs.slots.check_slot.Goals as goal

pub returns : goal.returns
returns c =
    rw (slot_rules_is c.args.table.now.file.bytes.now c.args.table.now.header c.args.number c.in-Some.kind c.row-row.result c.place.result c.is_past_slot-broken.result c.row-row.ensures c.in-Some.ensures c.place.ensures.place c.is_past_slot-broken.ensures) c.refuse_where.ensures
