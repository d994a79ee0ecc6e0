use Rattle.std.proofs.Common.{◌≡◌, ◌∙◌, ap, arith, suc}
use Rattle.cell_described.specs.Faults.{object_at}
use Rattle.cell_object.specs.declared.object.Object.{Object}
use Rattle.cell_relinked.specs.Scene.{seen_in, world_of}
use Rattle.cell_relinked.proofs.Gotten.{got_by_test, none_by_test}
use Rattle.cell_relinked.proofs.Naming.{lacking_found, lacking_missing, target_found, target_missing}
use Rattle.cell_relinked.proofs.scene.Scene.numbered.Goals as goal

pub known-requires-clause-there : goal.known-requires-clause-there
known-requires-clause-there c =
    let at = c.in-Some-get.ensures.lookup in
    got_by_test c.as_slice.result.now (object_at c.args.self.now.objects.now c.args.cell.now.object).symbols (c.as_slice.ensures ∙ ap (λ (o : Object). o.symbols) c.object.ensures) c.in-Some.place c.in-Some-get.symbol.now at.1 at.0

pub returns-in-Some-get-clause-target : goal.returns-in-Some-get-clause-target
returns-in-Some-get-clause-target c =
    let at = c.in-Some-get.ensures.lookup in
    let e = c.in-Some.ensures in
    let is : c.args.number ≡ suc c.in-Some.place = omega (arith, e) in
    c.known.ensures.target
    ∙ target_found (world_of c.args.self.now) (seen_in c.args.self.now c.args.cell.now) c.args.number c.in-Some.place is c.in-Some-get.symbol.now
    (got_by_test c.as_slice.result.now (object_at c.args.self.now.objects.now c.args.cell.now.object).symbols (c.as_slice.ensures ∙ ap (λ (o : Object). o.symbols) c.object.ensures) c.in-Some.place c.in-Some-get.symbol.now at.1 at.0)

pub returns-in-Some-get-clause-lacking : goal.returns-in-Some-get-clause-lacking
returns-in-Some-get-clause-lacking c =
    let at = c.in-Some-get.ensures.lookup in
    let e = c.in-Some.ensures in
    let is : c.args.number ≡ suc c.in-Some.place = omega (arith, e) in
    c.known.ensures.lacking
    ∙ lacking_found (world_of c.args.self.now) (seen_in c.args.self.now c.args.cell.now) c.args.number c.in-Some.place is c.in-Some-get.symbol.now
    (got_by_test c.as_slice.result.now (object_at c.args.self.now.objects.now c.args.cell.now.object).symbols (c.as_slice.ensures ∙ ap (λ (o : Object). o.symbols) c.object.ensures) c.in-Some.place c.in-Some-get.symbol.now at.1 at.0)

pub returns-in-None-clause-target : goal.returns-in-None-clause-target
returns-in-None-clause-target c =
    let e = c.in-Some.ensures in
    let is : c.args.number ≡ suc c.in-Some.place = omega (arith, e) in
    target_missing (world_of c.args.self.now) (seen_in c.args.self.now c.args.cell.now) c.args.number c.in-Some.place is
    (none_by_test c.as_slice.result.now (object_at c.args.self.now.objects.now c.args.cell.now.object).symbols (c.as_slice.ensures ∙ ap (λ (o : Object). o.symbols) c.object.ensures) c.in-Some.place c.in-None.ensures.lookup.0)

pub returns-in-None-clause-lacking : goal.returns-in-None-clause-lacking
returns-in-None-clause-lacking c =
    let e = c.in-Some.ensures in
    let is : c.args.number ≡ suc c.in-Some.place = omega (arith, e) in
    lacking_missing (world_of c.args.self.now) (seen_in c.args.self.now c.args.cell.now) c.args.number c.in-Some.place is
    (none_by_test c.as_slice.result.now (object_at c.args.self.now.objects.now c.args.cell.now.object).symbols (c.as_slice.ensures ∙ ap (λ (o : Object). o.symbols) c.object.ensures) c.in-Some.place c.in-None.ensures.lookup.0)
