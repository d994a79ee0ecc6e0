use Rattle.std.proofs.Common.{◌+◌, Some, take, drop, sym, ap, ◌∙◌}
use Rattle.std.specs.Prelude.{option_map}
use Rattle.cell_input.proofs.ObjectFiles.{rest_of}
use Rattle.cell_input.proofs.object_name.cut.Goals as goal

pub returns-in-None : goal.returns-in-None
returns-in-None c = ap (option_map (λ i. (take i c.args.text.now, drop (i + 1) c.args.text.now))) (sym c.in-None.is ∙ c.place_of.ensures.place)

pub returns-in-Some : goal.returns-in-Some
returns-in-Some c =
    ap (λ rest. Some (take c.in-Some.i c.args.text.now, rest)) (rest_of c.args.text.now (c.in-Some.i + 1))
    ∙ ap (option_map (λ i. (take i c.args.text.now, drop (i + 1) c.args.text.now))) (sym c.in-Some.is ∙ c.place_of.ensures.place)
