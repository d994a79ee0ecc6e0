use Rattle.std.proofs.Common.{◌≡◌, refl, subst, sym, map, true, ℕ, List, ◌∙◌}
use Rattle.std.specs.Prelude.{All, nat_lt}
use Rattle.cell_num.specs.Lists.{each_pair}
use Rattle.cell_object.specs.declared.object.Object.{Object}
use Rattle.cell_bearers.specs.Index.{IsIndex}
use Rattle.cell_bearers.specs.declared.index.Index.{Index}
use Rattle.cell_described.specs.declared.cell.DescribedCell.{DescribedCell}
use Rattle.cell_audit.specs.Audits.{audit_of}
use Rattle.cell_audit.specs.Outcome.{Agrees}
use Rattle.cell_audit.specs.Within.{texts_of}
use Rattle.cell_relinked.specs.Fit.{IsFit}
use Rattle.cell_world.specs.Gather.{source_of}
use Rattle.cell_compared.specs.Said.{said_of}
use Rattle.cell_compared.proofs.Audited.{agrees_same}
use Rattle.cell_compared.proofs.Whole.{said_is, whole_fit}
use Rattle.cell_compared.proofs.auditing.audit.Goals as goal

pub audit_described-requires-clause-whole : goal.audit_described-requires-clause-whole
audit_described-requires-clause-whole c =
    let dump = c.args.dump.now in
    let sources = map source_of c.args.depot.now in
    let written = c.in_ok-written.written in
    let described = c.in_ok-described.described in
    let h = c.in_ok-written.ensures.rows in
    let is = c.in_ok-described.ensures dump h.0 h.2.cells (sym h.2.space) in
    subst (All (IsFit described.objects.items)) (sym (c.ground_of-ground.ensures.cells ∙ c.deref-4.ensures.value)) (whole_fit sources dump h.0 written described c.in_ok-written.ensures.space h.2 is)

pub audit_described-requires-clause-indexed : goal.audit_described-requires-clause-indexed
audit_described-requires-clause-indexed c =
    let dump = c.args.dump.now in
    let described = c.in_ok-described.described in
    let objects = described.objects.items in
    let g = c.ground_of-ground.result in
    let e = c.ground_of-ground.ensures in
    let h = c.in_ok-written.ensures.rows in
    let is = c.in_ok-described.ensures dump h.0 h.2.cells (sym h.2.space) in
    let cells = e.cells ∙ c.deref-4.ensures.value in
    record {
      index =
          subst (λ (x : Index). IsIndex g.file.now objects g.cells.now x) (sym e.index)
          (subst (λ (f : List ℕ). IsIndex f objects g.cells.now c.in_ok-index.index) (sym e.file)
          (subst (λ (cs : List DescribedCell). IsIndex dump objects cs c.in_ok-index.index) (c.deref-2.ensures.value ∙ sym cells)
          (subst (λ (os : List Object). IsIndex dump os c.deref-2.result.now c.in_ok-index.index) c.deref.ensures.value c.in_ok-index.ensures)));
      rising = subst (λ (cs : List DescribedCell). each_pair (λ (a b : DescribedCell). nat_lt a.id.0 b.id.0) cs ≡ true) (sym cells) is.rising;
    }

pub returns : goal.returns
returns c =
    let dump = c.args.dump.now in
    let sources = map source_of c.args.depot.now in
    let written = c.in_ok-written.written in
    let described = c.in_ok-described.described in
    let g = c.ground_of-ground.result in
    let e = c.ground_of-ground.ensures in
    let h = c.in_ok-written.ensures.rows in
    let is = c.in_ok-described.ensures dump h.0 h.2.cells (sym h.2.space) in
    agrees_same (said_of g described.objects.items (texts_of dump written.lines)) (audit_of dump sources) c.audit_described.result
    (said_is sources dump h.0 written described c.in_ok-written.ensures.space h.2 is g described.objects.items e.file e.base e.pages (e.namespaces ∙ c.deref-3.ensures.value) (e.cells ∙ c.deref-4.ensures.value) e.told refl
    (texts_of dump written.lines) c.in_ok-written.ensures.texts h.1)
    (subst (λ file. Agrees (said_of g described.objects.items (texts_of file written.lines)) c.audit_described.result) e.file c.audit_described.ensures)
