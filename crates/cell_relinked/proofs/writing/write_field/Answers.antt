use Rattle.std.proofs.Common.{ap, arith, ◌∙◌, length}
use Rattle.std.specs.Prelude.{slice_set}
use Rattle.cell_num.specs.Bits.{bytes_of}
use Rattle.cell_num.specs.Kinds.{width_of}
use Rattle.cell_num.proofs.Elements.{get-In}
use Rattle.cell_world.specs.Running.Memory.{pasted}
use Rattle.cell_relinked.proofs.Gotten.{got}
use Rattle.cell_relinked.proofs.OneField.{none_there, pasted_size, place_below, set_in, size_there, sizes_kept}
use Rattle.cell_relinked.proofs.writing.write_field.Goals as goal

pub returns-in_default-clause-written : goal.returns-in_default-clause-written
returns-in_default-clause-written c = λ own e.
    e ∙ none_there c.args.first.now.section c.args.first.now.offset (bytes_of (width_of c.args.first.now.kind) c.args.value) own c.args.sections.now (c.place_of.ensures.none c.in_default.is)

pub index_mut-requires : goal.index_mut-requires
index_mut-requires c =
    let found = c.in-Some.ensures.found in
    let below = place_below c.args.contents.now.items c.args.sections.now c.requires.sizes c.in-Some.place found.section found.there in
    let size = c.args.contents.now.ok.0 in
    omega (arith, below, size)

pub write_number-requires : goal.write_number-requires
write_number-requires c =
    let found = c.in-Some.ensures.found in
    let contents = c.args.contents.now.items in
    let sections = c.args.sections.now in
    let old = c.index_mut.result.now in
    let below = place_below contents sections c.requires.sizes c.in-Some.place found.section found.there in
    let size = size_there contents sections c.requires.sizes c.in-Some.place found.section found.there old (got contents c.in-Some.place old below c.index_mut.ensures.value) in
    let inside = c.requires.inside found.section (get-In sections c.in-Some.place found.section found.there) found.number_is in
    let width = c.width.ensures in
    omega (arith, size, inside, width)

pub returns-clause-sizes : goal.returns-clause-sizes
returns-clause-sizes c =
    let found = c.in-Some.ensures.found in
    let contents = c.args.contents.now.items in
    let sections = c.args.sections.now in
    let old = c.index_mut.result.now in
    let below = place_below contents sections c.requires.sizes c.in-Some.place found.section found.there in
    let at = got contents c.in-Some.place old below c.index_mut.ensures.value in
    let size = size_there contents sections c.requires.sizes c.in-Some.place found.section found.there old at in
    let inside = c.requires.inside found.section (get-In sections c.in-Some.place found.section found.there) found.number_is in
    let width = c.width.ensures in
    sizes_kept contents c.in-Some.place old c.write_number.new.bytes at
    (ap (λ bytes. length bytes) c.write_number.ensures ∙ pasted_size old c.args.first.now.offset c.width.result c.args.value (omega (arith, size, inside, width)))
    ∙ c.requires.sizes

pub returns-clause-written : goal.returns-clause-written
returns-clause-written c = λ own e.
    let found = c.in-Some.ensures.found in
    let contents = c.args.contents.now.items in
    let sections = c.args.sections.now in
    let old = c.index_mut.result.now in
    let below = place_below contents sections c.requires.sizes c.in-Some.place found.section found.there in
    let at = got contents c.in-Some.place old below c.index_mut.ensures.value in
    ap (λ bytes. slice_set contents c.in-Some.place bytes) (c.write_number.ensures ∙ ap (λ width. pasted old c.args.first.now.offset (bytes_of width c.args.value)) c.width.ensures)
    ∙ set_in c.args.first.now.section c.args.first.now.offset (bytes_of (width_of c.args.first.now.kind) c.args.value) own contents sections c.in-Some.place found.section old c.requires.rising found.there found.number_is at e
