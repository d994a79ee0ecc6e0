-- What the audit says of the machine that a dump describes.
--     said_of ground objects texts     the first entry that can't be linked, or else the first of the texts that differs
use Rattle.std.specs.Prelude.{List, [], ◌∷◌, ◌++◌, map}
use Rattle.cell_object.specs.declared.object.Object.{Object}
use Rattle.cell_audit.specs.Audits.{Audit, ◌>>◌, first_difference, refused_by}
use Rattle.cell_audit.specs.Dumps.{Text}
use Rattle.cell_world.specs.declared.line.DumpLine.TheVariants.{End}
use Rattle.cell_relinked.specs.Linking.{lined, unlinked, world_in}
use Rattle.cell_relinked.specs.declared.ground.Ground.{Ground}
use Rattle.cell_compared.specs.Shown.{lines_shown, relinked_in}

abbrev pub said_of : Ground → List Object → List Text → Audit (Unit {0})
said_of g objects texts =
    unlinked (world_in g objects) (map (lined g objects) g.cells.now)
    >> refused_by (λ fault. fault) (first_difference texts (lines_shown (relinked_in g objects) (world_in g objects) ++ End ∷ []))
