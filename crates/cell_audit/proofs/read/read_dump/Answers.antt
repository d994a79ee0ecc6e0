use Rattle.std.proofs.Common.{sym, ◌∙◌, ap, option_map}
use Rattle.cell_audit.specs.Within.{texts_of}
use Rattle.cell_audit.proofs.Spaced.{tells_spaced}
use Rattle.cell_audit.proofs.read.read_dump.Goals as goal

pub returns-in-Some-clause-space : goal.returns-in-Some-clause-space
returns-in-Some-clause-space c =
    tells_spaced c.args.file.now c.in-Some.lines c.read_lines.result (sym c.dump_in.ensures.lines ∙ ap (option_map (texts_of c.args.file.now)) c.in-Some.is) c.read_lines.ensures.read
