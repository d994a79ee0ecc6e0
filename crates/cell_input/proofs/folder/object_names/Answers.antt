use Rattle.std.proofs.Common.{◌≡◌, List, ℕ, map, sym, ap, ◌∙◌, arith, rules, string_bytes}
use Rattle.cell_depot.specs.ObjectName.{is_object_name}
use Rattle.cell_input.proofs.ObjectFiles.{map-insert_key, goes_in, passed_over}
use Rattle.cell_input.proofs.folder.object_names.Goals as goal
use Rattle.cell_input.proofs.folder.object_names.Goals.{then-is_object_name+in_ok-clone+in_ok-insert, else-is_object_name}

pub loop-name-preserved : goal.loop-name-preserved
loop-name-preserved c =
    let names = c.args.names.now in
    let acc : List (List ℕ) = map string_bytes c.loop-name.objects.keys in
    let test = ap is_object_name (ap string_bytes (sym c.name-item.is) ∙ sym c.as_bytes.ensures.value) ∙ sym c.is_object_name.ensures in
    elim c.if-is_object_name.branch [
      | then-is_object_name+in_ok-clone+in_ok-insert w ↦
          let same : string_bytes w.in_ok-clone.field-0 ≡ string_bytes c.name-item.result = search rules in
          rw (w.objects-is, w.in_ok-insert.ensures.keys, map-insert_key, same, c.name-item.is)
          (goes_in acc _ names c.loop-name.name-index c.name-item.result (omega arith) (test ∙ w.if-is_object_name.true) c.loop-name.invariant)
      | else-is_object_name w ↦
          rw w.objects-is (passed_over acc _ names c.loop-name.name-index c.name-item.result (omega arith) (test ∙ w.if-is_object_name.false) c.loop-name.invariant)
    ]
