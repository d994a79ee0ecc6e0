use Rattle.std.proofs.Common.{◌≡◌, true, ap, ◌∙◌}
use Rattle.cell_depot.specs.Files.{are_apart}
use Rattle.cell_input.proofs.DistinctFiles.{apart}
use Rattle.cell_verdict.proofs.judge.verdict.Goals as goal

pub of_files-requires-clause-apart : goal.of_files-requires-clause-apart
of_files-requires-clause-apart c = ap are_apart c.into_vec.ensures ∙ apart c.args.folder.files c.requires.files.ordered
