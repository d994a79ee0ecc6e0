use Rattle.std.proofs.Common.{◌≡◌, ◌∙◌, ap, length, map, subst, sym, List}
use Rattle.std.specs.Prelude.{filter}
use Rattle.std.specs.BTreeSet.{contains}
use Rattle.std.proofs.lemmas.Result.{IfOk-weaker}
use Rattle.cell_object.specs.declared.object.Entry.{Entry}
use Rattle.cell_link.specs.Applied.{spot_of}
use Rattle.cell_link.specs.Tables.{spot_cmp}
use Rattle.cell_world.specs.Linked.Field.{fields_of}
use Rattle.cell_plan.specs.Changes.{IsSpots, change_by}
use Rattle.cell_plan.specs.Steps.{is_marked_spot}
use Rattle.cell_plan.proofs.Marking.{fields_marked}
use Rattle.cell_plan.proofs.changes.marked_fields.Goals as goal

pub spots_of-requires : goal.spots_of-requires
spots_of-requires c = c.requires.marks ∙ ap (length {A = Entry}) (sym c.as_slice.ensures)

pub fields_at-requires : goal.fields_at-requires
fields_at-requires c = c.requires.values ∙ ap (length {A = Entry}) (sym (c.deref.ensures.value ∙ c.in_ok-firsts.ensures))

pub returns : goal.returns
returns c = λ value are.
    let object = c.args.object.now in
    let marks = c.args.marks.now in
    let spots = c.in_ok-spots.spots in
    let firsts = c.deref.result.now in
    let same = c.deref.ensures.value ∙ c.in_ok-firsts.ensures in
    let right = subst (λ (es : List Entry). IsSpots es marks spots) c.as_slice.ensures c.in_ok-spots.ensures in
    IfOk-weaker c.fields_at.result
    (λ changes. changes.items ≡ map (change_by value) (filter (λ f. contains spot_cmp spots (spot_of f)) firsts))
    (λ changes. changes.items ≡ map (change_by value) (filter (λ f. is_marked_spot object.entries marks (spot_of f)) (fields_of object)))
    (λ changes is. fields_marked value object.entries marks spots right firsts (fields_of object) same changes.items is)
    (c.fields_at.ensures value (are ∙ ap (map value) (sym same)))
