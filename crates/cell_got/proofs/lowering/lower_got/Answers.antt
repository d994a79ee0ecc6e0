use Rattle.std.proofs.Common.{◌≡◌, ℕ, List, length, suc, false, true, sym, ap, subst, arith, ◌∙◌}
use Rattle.cell_object.specs.declared.object.Section.{Section}
use Rattle.cell_object.specs.declared.object.Symbol.{Symbol}
use Rattle.std.specs.Prelude.{fold, max}
use Rattle.cell_got.specs.Lower.{asked, got_number, slots_of}
use Rattle.cell_got.proofs.LowerSound.{slots_few}
use Rattle.std.specs.List.{list_any}
use Rattle.cell_object.specs.Readable.{is_got}
use Rattle.cell_object.specs.Sound.{IsLoadable}
use Rattle.cell_got.proofs.AskedSlots.{none_lowered}
use Rattle.cell_got.proofs.Building.{built}
use Rattle.cell_got.proofs.LowerLoadable.{lower_loadable}
use Rattle.cell_got.proofs.lowering.lower_got.Goals as goal

pub returns-then-not-any_asks-clause-lowered : goal.returns-then-not-any_asks-clause-lowered
returns-then-not-any_asks-clause-lowered c =
    let none : list_any is_got c.args.object.entries ≡ false = ap (list_any is_got) (sym c.as_slice.ensures) ∙ (sym c.any_asks.ensures ∙ c.if-not-any_asks.true) in
    sym (none_lowered c.args.object none)

pub returns-then-not-any_asks-clause-loadable : goal.returns-then-not-any_asks-clause-loadable
returns-then-not-any_asks-clause-loadable c =
    let none : list_any is_got c.args.object.entries ≡ false = ap (list_any is_got) (sym c.as_slice.ensures) ∙ (sym c.any_asks.ensures ∙ c.if-not-any_asks.true) in
    subst IsLoadable (none_lowered c.args.object none) (lower_loadable c.args.object c.requires)

pub count-count-requires : goal.count-count-requires
count-count-requires c =
    let few = slots_few c.args.object c.requires.readable c.requires.room.symbols in
    let same : c.in_ok-slots.slots.symbols.items ≡ slots_of c.args.object = c.in_ok-slots.ensures.symbols ∙ ap asked c.as_slice-2.ensures in
    let n : length c.in_ok-slots.slots.symbols.items ≡ length (slots_of c.args.object) = ap length same in
    omega (arith, few, n)

pub got_section-requires : goal.got_section-requires
got_section-requires c =
    let few = slots_few c.args.object c.requires.readable c.requires.room.symbols in
    let same : c.in_ok-slots.slots.symbols.items ≡ slots_of c.args.object = c.in_ok-slots.ensures.symbols ∙ ap asked c.as_slice-2.ensures in
    let n : length c.in_ok-slots.slots.symbols.items ≡ length (slots_of c.args.object) = ap length same in
    let m = c.count-count.ensures in
    omega (arith, few, n, m)

pub with_entries-requires-clause-few : goal.with_entries-requires-clause-few
with_entries-requires-clause-few c =
    let few = slots_few c.args.object c.requires.readable c.requires.room.symbols in
    let same : c.in_ok-slots.slots.symbols.items ≡ slots_of c.args.object = c.in_ok-slots.ensures.symbols ∙ ap asked c.as_slice-2.ensures in
    let n : length c.in_ok-slots.slots.symbols.items ≡ length (slots_of c.args.object) = ap length same in
    omega (arith, few, n)

pub returns-clause-lowered : goal.returns-clause-lowered
returns-clause-lowered c =
    let o = c.args.object in
    let asks : list_any is_got o.entries ≡ true = ap (list_any is_got) (sym c.as_slice.ensures) ∙ (sym c.any_asks.ensures ∙ c.if-not-any_asks.false) in
    let same : c.in_ok-slots.slots.symbols.items ≡ slots_of o = c.in_ok-slots.ensures.symbols ∙ ap asked c.as_slice-2.ensures in
    let number : c.got_number-number.result ≡ got_number o = c.got_number-number.ensures ∙ ap (λ (ss : List Section). suc (fold (λ (m : ℕ) (t : Section). max m t.number) 0 ss)) c.as_slice-3.ensures in
    let first : c.first_slot-first.result ≡ suc (length o.symbols) = c.first_slot-first.ensures.first ∙ ap (λ (ys : List Symbol). suc (length ys)) c.as_slice-4.ensures in
    built o c.in_ok-slots.slots.symbols.items c.got_number-number.result c.count-count.result c.first_slot-first.result c.in_ok-section.section same number c.count-count.ensures first c.in_ok-section.ensures
    c.in_ok-with_section.field-0 c.in_ok-with_symbols.field-0 c.in_ok-with_entries.field-0 asks c.in_ok-with_section.ensures c.in_ok-with_symbols.ensures c.in_ok-with_entries.ensures

pub returns-clause-loadable : goal.returns-clause-loadable
returns-clause-loadable c =
    let o = c.args.object in
    let asks : list_any is_got o.entries ≡ true = ap (list_any is_got) (sym c.as_slice.ensures) ∙ (sym c.any_asks.ensures ∙ c.if-not-any_asks.false) in
    let same : c.in_ok-slots.slots.symbols.items ≡ slots_of o = c.in_ok-slots.ensures.symbols ∙ ap asked c.as_slice-2.ensures in
    let number : c.got_number-number.result ≡ got_number o = c.got_number-number.ensures ∙ ap (λ (ss : List Section). suc (fold (λ (m : ℕ) (t : Section). max m t.number) 0 ss)) c.as_slice-3.ensures in
    let first : c.first_slot-first.result ≡ suc (length o.symbols) = c.first_slot-first.ensures.first ∙ ap (λ (ys : List Symbol). suc (length ys)) c.as_slice-4.ensures in
    subst IsLoadable (sym (built o c.in_ok-slots.slots.symbols.items c.got_number-number.result c.count-count.result c.first_slot-first.result c.in_ok-section.section same number c.count-count.ensures first c.in_ok-section.ensures
    c.in_ok-with_section.field-0 c.in_ok-with_symbols.field-0 c.in_ok-with_entries.field-0 asks c.in_ok-with_section.ensures c.in_ok-with_symbols.ensures c.in_ok-with_entries.ensures)) (lower_loadable o c.requires)
