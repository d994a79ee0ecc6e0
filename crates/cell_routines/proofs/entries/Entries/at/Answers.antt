use Rattle.std.proofs.Common.{◌∙◌, sym, true, false}
use Rattle.cell_routines.proofs.BeginPlaces.{none_at, other_at, this_at}
use Rattle.cell_routines.proofs.entries.Entries.at.Goals as goal

pub returns-in_err-section : goal.returns-in_err-section
returns-in_err-section c =
    c.from_residual.ensures
    ∙ sym (none_at c.args.self.now.cell.now c.args.number c.args.offset c.as_slice-sections.result.now c.as_slice-sections.ensures c.args.self.now.rising
    c.sections_before-place.result c.sections_before-place.ensures (c.in_err-section.ensures {u = tt}).lookup.0)

pub returns-then-section-number : goal.returns-then-section-number
returns-then-section-number c =
    let at = (c.in_ok-section.ensures {u = tt}).lookup in
    sym (other_at c.args.self.now.cell.now c.args.number c.args.offset c.as_slice-sections.result.now c.as_slice-sections.ensures c.args.self.now.rising
    c.sections_before-place.result c.sections_before-place.ensures c.in_ok-section.section.now at.0 at.1 c.if-section-number.true)

pub returns-then-not-is_entry : goal.returns-then-not-is_entry
returns-then-not-is_entry c =
    let at = (c.in_ok-section.ensures {u = tt}).lookup in
    sym (this_at c.args.self.now.cell.now c.args.number c.args.offset c.as_slice-sections.result.now c.as_slice-sections.ensures c.args.self.now.rising
    c.sections_before-place.result c.sections_before-place.ensures c.in_ok-section.section.now at.0 at.1 c.if-section-number.false
    c.args.self.now.offsets.items c.args.self.now.laid_out c.index.result.now c.index.ensures false (sym c.if-not-is_entry.ensures))

pub returns : goal.returns
returns c =
    let at = (c.in_ok-section.ensures {u = tt}).lookup in
    sym (this_at c.args.self.now.cell.now c.args.number c.args.offset c.as_slice-sections.result.now c.as_slice-sections.ensures c.args.self.now.rising
    c.sections_before-place.result c.sections_before-place.ensures c.in_ok-section.section.now at.0 at.1 c.if-section-number.false
    c.args.self.now.offsets.items c.args.self.now.laid_out c.index.result.now c.index.ensures true (sym c.if-not-is_entry.ensures))
