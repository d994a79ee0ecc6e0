use Rattle.std.proofs.Common.{ap, arith, ◌∙◌, ◌<◌, List, get_or, length, map}
use Rattle.std.proofs.lemmas.List.{take_all}
use Rattle.std.proofs.lemmas.Option.{slice_get-get_or}
use Rattle.cell_link.specs.declared.value.FieldValue.{FieldValue}
use Rattle.cell_num.proofs.Elements.{get-In}
use Rattle.cell_object.specs.declared.object.Entry.{Entry}
use Rattle.cell_relinked.specs.Contents.{with_fields}
use Rattle.cell_relinked.proofs.Gotten.{got}
use Rattle.cell_relinked.proofs.ManyFields.{fields_more}
use Rattle.cell_relinked.proofs.writing.write_fields.Goals as goal

pub write_field-requires-clause-inside : goal.write_field-requires-clause-inside
write_field-requires-clause-inside c = λ s i e.
    let firsts = c.args.fields.now.firsts.items in
    let test = c.loop-index-test.true in
    let end = c.len-index-end.ensures in
    let size = c.args.fields.now.firsts.ok.0 in
    let below : c.loop-index.index < length firsts = omega (arith, test, end, size) in
    c.requires.inside c.index.result.now s (get-In firsts c.loop-index.index c.index.result.now (got firsts c.loop-index.index c.index.result.now below c.index.ensures)) i e

pub loop-index-preserved : goal.loop-index-preserved
loop-index-preserved c =
    let firsts = c.args.fields.now.firsts.items in
    let values = c.as_slice-values.result.now in
    let i = c.loop-index.index in
    let test = c.loop-index-test.true in
    let end = c.len-index-end.ensures in
    let size = c.args.fields.now.firsts.ok.0 in
    let below : i < length firsts = omega (arith, test, end, size) in
    let many = ap (λ (vs : List FieldValue). length vs) c.as_slice-values.ensures ∙ c.requires.each in
    let few : i < length values = omega (arith, below, many) in
    let none : FieldValue = record { addr = 0; width = 0; value = 0 } in
    record {
      sizes = c.write_field.ensures.sizes;
      written = λ value own e f.
          fields_more value values firsts i c.index.result.now (get_or values i none) (got firsts i c.index.result.now below c.index.ensures) (slice_get-get_or values i none few)
          (ap (map (λ (v : FieldValue). v.value)) c.as_slice-values.ensures ∙ e) c.args.sections.now own c.loop-index.contents.items c.write_field.new.contents.items (c.loop-index.invariant.written value own e f) c.write_field.ensures.written;
    }

pub returns : goal.returns
returns c = λ value own e f.
    let firsts = c.args.fields.now.firsts.items in
    let past = c.loop-index-test.false in
    let end = c.len-index-end.ensures in
    let size = c.args.fields.now.firsts.ok.0 in
    c.loop-index.invariant.written value own e f
    ∙ ap (λ (fs : List Entry). map (λ s. with_fields value fs s (own s)) c.args.sections.now) (take_all c.loop-index.index firsts (omega (arith, past, end, size)))
