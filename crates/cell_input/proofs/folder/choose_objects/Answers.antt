use Rattle.std.proofs.Common.{map, arith, string_bytes}
use Rattle.std.proofs.lemmas.List.{length-map}
use Rattle.cell_input.proofs.OrderedNames.{are_objects}
use Rattle.cell_input.proofs.folder.choose_objects.Goals as goal

pub returns-clause-chosen : goal.returns-clause-chosen
returns-clause-chosen g c =
    are_objects (map string_bytes c.args.names.now) (map string_bytes c.in_ok-objects.objects.keys) c.in_ok-objects.ensures
    (omega (arith, length-map c.in_ok-objects.objects.keys string_bytes, c.len.ensures.len))
