-- The machine that a dump describes is that of its cells.
use Rattle.std.proofs.Common.{◌≡◌, sym, ◌∙◌, ap, ℕ, List, map}
use Rattle.std.specs.Prelude.{filter_map}
use Rattle.cell_object.specs.declared.object.Object.{Object}
use Rattle.cell_world.specs.Gather.{Source}
use Rattle.cell_world.specs.World.{Cell, World}
use Rattle.cell_world.specs.declared.state.Namespace.{Namespace}
use Rattle.cell_audit.specs.Audits.{refused_by}
use Rattle.cell_audit.specs.Described.{cell_of, described, namespace_of, space_of}
use Rattle.cell_audit.specs.Dumps.{Row, lines_of}
use Rattle.cell_audit.specs.Linking.{first_unlinked}
use Rattle.cell_audit.specs.declared.fail.AuditFail.TheVariants.{Unlinked}
use Rattle.cell_described.specs.Describes.{numbered_cell}
use Rattle.cell_relinked.specs.Fit.{machine}
use Rattle.cell_relinked.specs.Linking.{lined, seen_by, unlinked, world_in}
use Rattle.cell_relinked.specs.declared.ground.Ground.{Ground}
use Rattle.cell_relinked.proofs.Earlier.{among_rows}

module _ (sources : List Source) (rows : List Row) (g : Ground) (objects : List Object) where
  pub machine_is : (g.base, g.pages) ≡ space_of (lines_of rows) → g.namespaces.now ≡ filter_map namespace_of (lines_of rows)
      → map (seen_by g objects) g.cells.now ≡ filter_map (cell_of sources (lines_of rows)) (lines_of rows) → described sources (lines_of rows) ≡ world_in g objects
  machine_is space namespaces cells =
      ap (λ (s : ℕ × ℕ). machine s.0 s.1 (filter_map namespace_of (lines_of rows)) (filter_map (cell_of sources (lines_of rows)) (lines_of rows))) (sym space)
      ∙ (ap (λ (ns : List Namespace). machine g.base g.pages ns (filter_map (cell_of sources (lines_of rows)) (lines_of rows))) (sym namespaces)
      ∙ ap (machine g.base g.pages g.namespaces.now) (sym cells))

  -- the first entry that can't be linked, by rows
  pub unlinked_rows : (w : World) → map (lined g objects) g.cells.now ≡ filter_map (numbered_cell sources rows) rows
      → unlinked w (map (lined g objects) g.cells.now) ≡ refused_by (λ at. Unlinked at.0 at.1) (first_unlinked sources (lines_of rows) w rows)
  unlinked_rows w lines = ap (λ (cells : List (ℕ × Cell)). unlinked w cells) lines ∙ ap (refused_by (λ at. Unlinked at.0 at.1)) (sym (among_rows sources rows rows w))
