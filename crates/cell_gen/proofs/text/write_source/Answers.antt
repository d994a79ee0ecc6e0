use Rattle.std.proofs.Common.{◌≡◌, ◌++◌, ap, ◌∙◌}
use Rattle.cell_gen.specs.Generated.{function_text, source, table_text}
use Rattle.cell_gen.proofs.Sizes.{short_source}
use Rattle.cell_gen.proofs.text.write_source.Goals as goal

pub returns-clause-short : goal.returns-clause-short
returns-clause-short c =
    let t = c.args.drawn in
    let function = function_text c.args.number c.args.body.now in
    let table = table_text c.args.number t.first t.second t.third in
    let written : c.put_table.new.text.items ≡ source c.args.number c.args.body.now t.first t.second t.third
    = c.in_ok-put_table.ensures ∙ ap (λ x. x ++ table) (c.in_ok-put_function.ensures ∙ ap (λ x. x ++ function) c.clear.ensures.items) in
    rw written (short_source c.args.number c.args.body.now t.first t.second t.third c.requires)
