use Rattle.std.proofs.Common.{◌≤◌, sym, subst, ◌∙◌, None, Some, ℕ}
use Rattle.std.specs.Prelude.{length}
use Rattle.cell_got.proofs.AskedSlots.{slot_found, slot_most}
use Rattle.cell_got.proofs.asked.Slots.slot.Goals as goal

pub returns-in-Some-clause-slot : goal.returns-in-Some-clause-slot
returns-in-Some-clause-slot c =
    let slots = c.args.self.now.symbols.items in
    slot_found slots c.args.symbol (Some c.in-Some.slot.now) (c.in-Some.ensures.value ∙ c.requires.are c.args.symbol)

pub returns-in-Some-clause-most : goal.returns-in-Some-clause-most
returns-in-Some-clause-most c =
    let slots = c.args.self.now.symbols.items in
    let x = c.args.symbol in
    subst (λ (n : ℕ). n ≤ length slots) (sym (slot_found slots x (Some c.in-Some.slot.now) (c.in-Some.ensures.value ∙ c.requires.are x))) (slot_most slots x)

pub returns-in-None-clause-slot : goal.returns-in-None-clause-slot
returns-in-None-clause-slot c =
    let slots = c.args.self.now.symbols.items in
    c.count.ensures ∙ slot_found slots c.args.symbol None (c.in-None.ensures.value ∙ c.requires.are c.args.symbol)
