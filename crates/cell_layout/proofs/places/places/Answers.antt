use Rattle.std.proofs.Common.{◌∙◌, ap, sym, subst, length, get_or, arith}
use Rattle.cell_object.specs.declared.object.Section.{Section}
use Rattle.cell_num.specs.Lists.{In}
use Rattle.cell_layout.proofs.Runs.{in_get}
use Rattle.cell_layout.proofs.places.places.Goals as goal

pub place-requires-clause-low : goal.place-requires-clause-low
place-requires-clause-low c =
    let sections = c.args.object.now.sections in
    let item = c.index-sections-index.is ∙ ap (λ xs. get_or xs c.loop-index.index c.index-sections-index.result) c.as_slice-sections.ensures in
    c.requires.low c.index-sections-index.result
    (subst (λ (s : Section). In s sections) (sym item) (in_get sections c.loop-index.index c.index-sections-index.result (omega (arith, ap length c.as_slice-sections.ensures))))
