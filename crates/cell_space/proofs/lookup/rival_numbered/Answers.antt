use Rattle.std.proofs.Common.{◌∙◌, ◌<◌, ap, length, sym}
use Rattle.std.specs.Prelude.{option_map}
use Rattle.cell_space.specs.declared.cell.SpaceCell.{SpaceCell}
use Rattle.cell_space.specs.Named.{is_numbered}
use Rattle.cell_space.proofs.Changes.{All-find}
use Rattle.cell_space.proofs.lookup.rival_numbered.Goals as goal

pub has-requires-clause-there : goal.has-requires-clause-there
has-requires-clause-there c =
    All-find (λ (d : SpaceCell). d.ns < length c.args.namespaces.now) (is_numbered c.args.number) c.args.cells.now c.in-Some.cell.now c.requires.inside
    (sym c.cell_numbered.ensures ∙ ap (option_map (λ r. r.now)) c.in-Some.is)
