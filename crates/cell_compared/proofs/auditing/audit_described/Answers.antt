use Rattle.std.proofs.Common.{◌≡◌, Ok, ap, refl, subst, sym, [], List, None, ◌∷◌, ◌++◌, ◌∙◌, map}
use Rattle.std.specs.Prelude.{Option, Some}
use Rattle.std.proofs.lemmas.Result.{err_from_is_err_and}
use Rattle.cell_audit.specs.Audits.{first_difference, refused_by}
use Rattle.cell_audit.specs.Dumps.{Text}
use Rattle.cell_audit.specs.Linking.{unlinked_in}
use Rattle.cell_audit.specs.Within.{texts_of}
use Rattle.cell_audit.specs.declared.dump.Lines.{Lines}
use Rattle.cell_object.specs.declared.object.Object.{Object}
use Rattle.cell_relinked.specs.Linking.{lined, seen_by, unlinked, world_in}
use Rattle.cell_world.specs.declared.line.DumpLine.TheVariants.{End}
use Rattle.cell_compared.specs.Left.{left}
use Rattle.cell_compared.specs.Said.{said_of}
use Rattle.cell_compared.specs.Shown.{lines_shown, relinked_in}
use Rattle.cell_compared.specs.Walk.{ended, walk}
use Rattle.cell_compared.proofs.Audited.{agrees_failing, agrees_same, all_linked, then_goes}
use Rattle.cell_compared.proofs.Walking.{fails_same, walk_differs, walked_ended}
use Rattle.cell_compared.proofs.auditing.audit_described.Goals as goal

pub returns-in_err-check_linked : goal.returns-in_err-check_linked
returns-in_err-check_linked c =
    let p = err_from_is_err_and c.from_residual.result c.from_residual.ensures.1 in
    rw (p.1, p.2) (agrees_failing c.in_err-check_linked.field-0.0 _ _ c.in_err-check_linked.ensures.fault)

pub compare-requires-clause-linked : goal.compare-requires-clause-linked
compare-requires-clause-linked c = λ d i.
    let g = c.args.ground.now in
    subst (λ (os : List Object). unlinked_in (world_in g os) (seen_by g os d) ≡ None) (sym c.check_linked.ensures.same) (all_linked g c.args.objects.now.items c.in_ok-check_linked.ensures.linked d i)

pub returns-in_err-compare : goal.returns-in_err-compare
returns-in_err-compare c =
    let p = err_from_is_err_and c.from_residual-in_err-compare.result c.from_residual-in_err-compare.ensures.1 in
    let g = c.args.ground.now in
    let objects = c.args.objects.now.items in
    let texts = texts_of g.file.now c.args.lines in
    let cursor : left c.new-cursor.result ≡ texts =
    ap (λ (o : Option Lines). elim o as (λ _. List Text) [ None ↦ [] | Some lines ↦ texts_of c.new-cursor.result.file.now lines ]) c.new-cursor.ensures.lines ∙ ap (λ file. texts_of file c.args.lines) c.new-cursor.ensures.file in
    rw (p.1, p.2)
    (fails_same c.in_err-compare.field-0.0 _ _ (sym (then_goes (unlinked (world_in g objects) (map (lined g objects) g.cells.now)) (refused_by (λ fault. fault) (first_difference texts (lines_shown (relinked_in g objects) (world_in g objects) ++ End ∷ []))) c.in_ok-check_linked.ensures.linked))
    (walk_differs c.in_err-compare.field-0.0 texts _
    (fails_same c.in_err-compare.field-0.0 _ _
    (ap (λ (ts : List Text). walk ts (lines_shown (relinked_in g c.check_linked.new.objects.items) (world_in g c.check_linked.new.objects.items) ++ End ∷ [])) cursor
    ∙ ap (λ (os : List Object). walk texts (lines_shown (relinked_in g os) (world_in g os) ++ End ∷ [])) c.check_linked.ensures.same) c.in_err-compare.ensures)))

pub returns : goal.returns
returns c =
    let g = c.args.ground.now in
    let objects = c.args.objects.now.items in
    let texts = texts_of g.file.now c.args.lines in
    let cursor : left c.new-cursor.result ≡ texts =
    ap (λ (o : Option Lines). elim o as (λ _. List Text) [ None ↦ [] | Some lines ↦ texts_of c.new-cursor.result.file.now lines ]) c.new-cursor.ensures.lines ∙ ap (λ file. texts_of file c.args.lines) c.new-cursor.ensures.file in
    let walked : walk texts (lines_shown (relinked_in g objects) (world_in g objects) ++ End ∷ []) ≡ Ok (left c.compare.new.cursor) =
    sym (ap (λ (ts : List Text). walk ts (lines_shown (relinked_in g c.check_linked.new.objects.items) (world_in g c.check_linked.new.objects.items) ++ End ∷ [])) cursor
    ∙ ap (λ (os : List Object). walk texts (lines_shown (relinked_in g os) (world_in g os) ++ End ∷ [])) c.check_linked.ensures.same) ∙ c.in_ok-compare.ensures in
    agrees_same (ended (left c.compare.new.cursor)) (said_of g objects texts) c.finish.result
    (sym (then_goes (unlinked (world_in g objects) (map (lined g objects) g.cells.now)) _ c.in_ok-check_linked.ensures.linked ∙ walked_ended texts (left c.compare.new.cursor) _ (ended (left c.compare.new.cursor)) walked refl))
    c.finish.ensures
