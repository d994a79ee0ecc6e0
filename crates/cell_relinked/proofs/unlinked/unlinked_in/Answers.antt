use Rattle.std.proofs.Common.{◌≡◌, rules, ◌∙◌, Err, List, None, Some, subst}
use Rattle.cell_link.specs.declared.fail.LinkFail.TheVariants.{Overflow}
use Rattle.cell_object.specs.declared.object.Object.{Object}
use Rattle.cell_relinked.specs.Entries.{AreEntries}
use Rattle.cell_relinked.specs.Fit.{placed_in}
use Rattle.cell_relinked.specs.Linking.{seen_by, world_in}
use Rattle.cell_relinked.proofs.Seeing.{overflow_at, unlinked_by}
use Rattle.cell_relinked.proofs.unlinked.unlinked_in.Goals as goal

pub returns-in-Ok-clause-place : goal.returns-in-Ok-clause-place
returns-in-Ok-clause-place c =
    let g = c.args.ground.now in
    let objects = c.args.objects.now.items in
    let are = subst (λ (os : List Object). AreEntries (world_in g os) (seen_by g os c.args.cell.now) c.in_ok-entries.entries) c.deref.ensures.value c.in_ok-entries.ensures in
    c.earlier.ensures ∙ unlinked_by (world_in g objects) (seen_by g objects c.args.cell.now) c.in_ok-entries.entries c.deref-2.result.now None are c.deref-2.ensures.value c.in-Ok.ensures.linked.0

pub returns-in-Err-Overflow-clause-place : goal.returns-in-Err-Overflow-clause-place
returns-in-Err-Overflow-clause-place c =
    let g = c.args.ground.now in
    let objects = c.args.objects.now.items in
    let are = subst (λ (os : List Object). AreEntries (world_in g os) (seen_by g os c.args.cell.now) c.in_ok-entries.entries) c.deref.ensures.value c.in_ok-entries.ensures in
    let at : c.link_described.result ≡ Err (Overflow c.in-Err-Overflow.entry) = search rules in
    c.earlier-in-Err-Overflow.ensures
    ∙ unlinked_by (world_in g objects) (seen_by g objects c.args.cell.now) c.in_ok-entries.entries c.deref-2.result.now (Some c.in-Err-Overflow.entry) are c.deref-2.ensures.value
    (overflow_at (placed_in objects c.args.cell.now) c.deref-2.result.now c.link_described.result c.in-Err-Overflow.entry at c.link_described.ensures.linked)
