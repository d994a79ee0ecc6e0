use Rattle.std.proofs.Common.{◌≤◌, ◌∙◌, ap, sym, subst, All, List, [], length, map}
use Rattle.std.specs.List.{list_all}
use Rattle.cell_num.specs.Limits.{max_file_bytes}
use Rattle.cell_num.proofs.Elements.{In-All}
use Rattle.cell_depot.specs.Files.{are_apart}
use Rattle.cell_depot.specs.ObjectName.{is_object_name}
use Rattle.cell_world.specs.declared.file.File.{File}
use Rattle.cell_world.specs.Gather.{Source, source_of}
use Rattle.cell_origin_law.specs.Readings.{AreRead, IsRead}
use Rattle.cell_origin_law.specs.Spelled.{IsSpelled}
use Rattle.cell_origin_law.proofs.Commands.{empty_spelled, files_named}
use Rattle.cell_system.proofs.system.System.new.Goals as goal

pub invariant_of-result : goal.invariant_of-result
invariant_of-result c =
    let sources : List Source = map source_of c.in_ok-of_files.field-0 in (
      c.in_ok-new.ensures.sound,
      subst (AreRead sources) (sym c.in_ok-new.ensures.empty) (In-All (IsRead sources) [] (λ d i. absurd i)),
      subst (λ (files : List File). All (λ f. length f.bytes ≤ max_file_bytes) files) (sym c.in_ok-of_files.ensures) c.requires.small,
      ap are_apart c.in_ok-of_files.ensures ∙ c.requires.apart,
      subst IsSpelled (sym c.in_ok-new.ensures.empty) (empty_spelled c.args.base c.args.pages),
      files_named c.in_ok-of_files.field-0 (ap (list_all (λ (f : File). is_object_name f.name)) c.in_ok-of_files.ensures ∙ c.requires.named),
    )
