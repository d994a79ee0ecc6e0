-- What is said of the machine that is described is what the audit says of the dump.
use Rattle.std.proofs.Common.{◌≡◌, sym, ◌∙◌, ap, ap₂, subst, ℕ, ◌+◌, ◌*◌, ◌<◌, ◌≤◌, List, [], ◌∷◌, ◌++◌, map, Ok}
use Rattle.std.specs.Prelude.{All, Some, filter_map}
use Rattle.cell_num.specs.Limits.{page_size}
use Rattle.cell_object.specs.declared.object.Object.{Object}
use Rattle.cell_audit.specs.Audits.{Audit, ◌>>◌, audit_of, first_difference, reading_of, refused_by}
use Rattle.cell_audit.specs.Described.{byte_at, cell_of, described, space_of}
use Rattle.cell_audit.specs.Dumps.{Row, Text, dump_in, lines_of}
use Rattle.cell_audit.specs.Kept.{Tells}
use Rattle.cell_audit.specs.Linking.{first_unlinked, fresh_lines}
use Rattle.cell_audit.specs.Told.{byte_told}
use Rattle.cell_audit.specs.declared.fail.AuditFail.{AuditFail}
use Rattle.cell_audit.specs.declared.fail.AuditFail.TheVariants.{Unlinked}
use Rattle.cell_audit.specs.declared.kept.WrittenDump.{WrittenDump}
use Rattle.cell_audit.specs.declared.told_bytes.Told.{Told}
use Rattle.cell_described.specs.Describes.{IsDescribed, cell_seen, numbered_cell}
use Rattle.cell_described.specs.Faults.{object_at}
use Rattle.cell_described.specs.Standing.{Stand}
use Rattle.cell_described.specs.declared.cell.DescribedCell.{DescribedCell}
use Rattle.cell_described.specs.declared.describing.Described.{Described}
use Rattle.cell_world.specs.Gather.{Source}
use Rattle.cell_world.specs.Placed.Pages.{IsSpace}
use Rattle.cell_world.specs.World.{World}
use Rattle.cell_world.specs.declared.line.DumpLine.{DumpLine}
use Rattle.cell_world.specs.declared.line.DumpLine.TheVariants.{End}
use Rattle.cell_relinked.specs.Fit.{IsFit}
use Rattle.cell_relinked.specs.Linking.{lined, seen_by, unlinked, world_in}
use Rattle.cell_relinked.specs.declared.ground.Ground.{Ground}
use Rattle.cell_relinked.proofs.Bridging.{machine_is, unlinked_rows}
use Rattle.cell_relinked.proofs.Fitting.{all_fit}
use Rattle.cell_compared.specs.Said.{said_of}
use Rattle.cell_compared.specs.Shown.{lines_shown, relinked_in}
use Rattle.cell_compared.proofs.Audited.{described_on, rows_are}
use Rattle.cell_compared.proofs.Freshly.{fresh_is}
use Rattle.cell_compared.proofs.Standing.{content_same}

module _ (sources : List Source) (file : List ℕ) (rows : List Row) (w : WrittenDump) (d : Described) (space : IsSpace w.base w.pages) (t : Tells file rows w) (is : IsDescribed sources file rows d) where
  stand : All (λ c. Stand (w.base, w.pages) (object_at d.objects.items c.object).sections c.places) d.cells.items
  stand = subst (λ (s : ℕ × ℕ). All (λ (c : DescribedCell). Stand s (object_at d.objects.items c.object).sections c.places) d.cells.items) (sym t.space) is.stand

  pub whole_fit : All (IsFit d.objects.items) d.cells.items
  whole_fit = all_fit w.base w.pages space d.objects.items d.cells.items is.loadable is.objects_there stand

  module _ (g : Ground) (objects : List Object) (files : g.file.now ≡ file) (base : g.base ≡ w.base) (pages : g.pages ≡ w.pages) (spaces : g.namespaces.now ≡ w.namespaces.items) (cells : g.cells.now ≡ d.cells.items)
      (bytes : g.told.now ≡ w.told) (os : objects ≡ d.objects.items) where
    abbrev lines : List DumpLine
    lines = lines_of rows

    -- what is so of the cells that are described is so of those of the ground
    moved : (P : ℕ × ℕ → List ℕ → List Object → List DescribedCell → Type 0) → P (w.base, w.pages) file d.objects.items d.cells.items → P (g.base, g.pages) g.file.now objects g.cells.now
    moved P h =
        subst (λ (cs : List DescribedCell). P (g.base, g.pages) g.file.now objects cs) (sym cells)
        (subst (λ (xs : List Object). P (g.base, g.pages) g.file.now xs d.cells.items) (sym os)
        (subst (λ (f : List ℕ). P (g.base, g.pages) f d.objects.items d.cells.items) (sym files)
        (subst (λ (n : ℕ). P (g.base, n) file d.objects.items d.cells.items) (sym pages) (subst (λ (n : ℕ). P (n, w.pages) file d.objects.items d.cells.items) (sym base) h))))

    cells_are : map (seen_by g objects) g.cells.now ≡ filter_map (cell_of sources lines) lines
    cells_are = moved (λ s f xs cs. map (cell_seen f xs) cs ≡ filter_map (cell_of sources lines) lines) is.cells_are

    lined_are : map (lined g objects) g.cells.now ≡ filter_map (numbered_cell sources rows) rows
    lined_are = moved (λ s f xs cs. map (λ (c : DescribedCell). (c.line, cell_seen f xs c)) cs ≡ filter_map (numbered_cell sources rows) rows) is.lines_are

    machine : described sources lines ≡ world_in g objects
    machine = machine_is sources rows g objects (moved (λ s f xs cs. s ≡ space_of lines) t.space) (spaces ∙ t.namespaces) cells_are

    telling : (addr : ℕ) → g.base ≤ addr → addr < g.base + page_size * g.pages → byte_told g.told.now addr ≡ byte_at lines addr
    telling addr low high =
        ap (λ (x : Told). byte_told x addr) bytes
        ∙ t.told addr (subst (λ (n : ℕ). n ≤ addr) base low) (subst (λ (n : ℕ). addr < w.base + page_size * n) pages (subst (λ (n : ℕ). addr < n + page_size * g.pages) base high))

    fresh : lines_shown (relinked_in g objects) (world_in g objects) ++ End ∷ [] ≡ fresh_lines lines (described sources lines)
    fresh =
        fresh_is (world_in g objects) (relinked_in g objects) lines
        (content_same g objects lines (moved (λ s f xs cs. All (IsFit xs) cs) whole_fit) (moved (λ s f xs cs. All (λ (c : DescribedCell). Stand s (object_at xs c.object).sections c.places) cs) stand) telling)
        ∙ ap (fresh_lines lines) (sym machine)

    linked : unlinked (world_in g objects) (map (lined g objects) g.cells.now) ≡ refused_by (λ at. Unlinked at.0 at.1) (first_unlinked sources lines (described sources lines) rows)
    linked =
        unlinked_rows sources rows g objects (world_in g objects) lined_are
        ∙ ap (λ (m : World). refused_by (λ (at : ℕ × ℕ). Unlinked at.0 at.1) (first_unlinked sources lines m rows)) (sym machine)

    pub said_is : (texts : List Text) → dump_in file ≡ Some texts → reading_of file ≡ Ok rows → said_of g objects texts ≡ audit_of file sources
    said_is texts e r =
        ap₂ (λ (a b : Audit (Unit {0})). a >> b) linked (ap (λ (ls : List DumpLine). refused_by (λ (fault : AuditFail). fault) (first_difference texts ls)) fresh)
        ∙ sym (described_on file sources texts rows e (rows_are file sources texts rows e r) is.none_lacking is.none_misplaced)
