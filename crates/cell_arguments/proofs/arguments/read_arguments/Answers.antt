use Rattle.std.proofs.Common.{map, sym, ap, ◌∙◌, string_bytes, option_map}
use Rattle.cell_arguments.specs.Arguments.{said}
use Rattle.cell_arguments.proofs.Reading.{refused_words, taken}
use Rattle.cell_arguments.proofs.arguments.read_arguments.Goals as goal

pub returns-in-Err-clause-reads : goal.returns-in-Err-clause-reads
returns-in-Err-clause-reads c = refused_words c.in-Err.fault (map string_bytes c.args.words.now) c.in-Err.ensures.refused

pub returns-in-Some-clause-reads : goal.returns-in-Some-clause-reads
returns-in-Some-clause-reads c =
    taken (map string_bytes c.args.words.now) _ _ c.in-Ok.ensures.taken c.in-Ok.ensures.rows (sym (ap (option_map said) c.in-Some.is) ∙ c.arguments_in.ensures.reads)

pub returns-clause-reads : goal.returns-clause-reads
returns-clause-reads c =
    taken (map string_bytes c.args.words.now) _ _ c.in-Ok.ensures.taken c.in-Ok.ensures.rows (sym (ap (option_map said) c.in-None.is) ∙ c.arguments_in.ensures.reads)
