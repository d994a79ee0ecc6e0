use Rattle.std.proofs.Common.{List, ℕ, sym, subst, ◌∙◌}
use Rattle.std.specs.Ordering.{nat_cmp}
use Rattle.std.specs.BTreeMap.{get}
use Rattle.cell_got.specs.Asked.{AreSlots}
use Rattle.cell_got.proofs.AskedSlots.{slot_kept, slot_put, slots_more, some_held}
use Rattle.cell_got.proofs.asked.Slots.add.Goals as goal

pub returns-then-contains_key-clause-symbols : goal.returns-then-contains_key-clause-symbols
returns-then-contains_key-clause-symbols c =
    let slots = c.args.self.now.symbols.items in
    let x = c.args.symbol in
    slot_kept slots x (some_held slots x (get nat_cmp c.args.self.now.places x) _ (c.requires.are x) (sym c.contains_key.ensures ∙ c.if-contains_key.true))

pub returns-clause-symbols : goal.returns-clause-symbols
returns-clause-symbols c =
    let slots = c.args.self.now.symbols.items in
    let x = c.args.symbol in
    slot_put slots c.push.new.self.items x (some_held slots x (get nat_cmp c.args.self.now.places x) _ (c.requires.are x) (sym c.contains_key.ensures ∙ c.if-contains_key.false)) c.in_ok-push.ensures.items

pub returns-clause-are : goal.returns-clause-are
returns-clause-are c =
    let slots = c.args.self.now.symbols.items in
    let x = c.args.symbol in
    subst (λ (new : List ℕ). AreSlots new c.insert.new.self) (sym c.in_ok-push.ensures.items)
    (slots_more slots x c.count-slot.result (get nat_cmp c.args.self.now.places) (get nat_cmp c.insert.new.self) c.count-slot.ensures
    (some_held slots x (get nat_cmp c.args.self.now.places x) _ (c.requires.are x) (sym c.contains_key.ensures ∙ c.if-contains_key.false)) c.requires.are (λ q. c.in_ok-insert.ensures.updates.0 q))
