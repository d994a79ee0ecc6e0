use Rattle.std.proofs.Common.{◌∙◌, sym}
use Rattle.cell_audit.specs.Described.{standing_of}
use Rattle.cell_num.proofs.Elements.{get-In}
use Rattle.cell_described.specs.Faults.{object_at}
use Rattle.cell_target.proofs.Asking.{local_is, undefined_is}
use Rattle.cell_relinked.specs.Fit.{placed_in}
use Rattle.cell_relinked.specs.Scene.{seen_in, world_of}
use Rattle.cell_relinked.proofs.Lacking.{lacks, local_has}
use Rattle.cell_relinked.proofs.Provided.{symbol_bearers}
use Rattle.cell_relinked.proofs.scene.Scene.known.Goals as goal

pub defined_target-requires-clause-bearers : goal.defined_target-requires-clause-bearers
defined_target-requires-clause-bearers c = λ shared.
    c.of_symbol-bearers.ensures ∙ symbol_bearers c.args.self.now c.args.cell.now c.requires.fit c.args.place c.args.symbol.now c.requires.there shared

pub defined_target-requires-clause-there : goal.defined_target-requires-clause-there
defined_target-requires-clause-there c = get-In (object_at c.args.self.now.objects.now c.args.cell.now.object).symbols c.args.place c.args.symbol.now c.requires.there

pub asked-requires-clause-bearers : goal.asked-requires-clause-bearers
asked-requires-clause-bearers c =
    c.of_symbol-bearers.ensures ∙ symbol_bearers c.args.self.now c.args.cell.now c.requires.fit c.args.place c.args.symbol.now c.requires.there (sym c.is_local.ensures ∙ c.if-is_local.false)

pub returns-then-is_local-clause-target : goal.returns-then-is_local-clause-target
returns-then-is_local-clause-target c =
    let s = c.args.self.now in
    let x = c.args.symbol.now in
    let cell = c.args.cell.now in
    local_is (world_of s) (standing_of cell.group) x cell.ns (sym c.is_local.ensures ∙ c.if-is_local.true)
    ∙ undefined_is (world_of s) (placed_in s.objects.now cell) (standing_of cell.group) x x.home (sym c.if-not-is_undefined.ensures)

pub returns-then-is_local-clause-lacking : goal.returns-then-is_local-clause-lacking
returns-then-is_local-clause-lacking c = local_has (world_of c.args.self.now) (seen_in c.args.self.now c.args.cell.now) c.args.symbol.now (sym c.is_local.ensures ∙ c.if-is_local.true)

pub returns-clause-target : goal.returns-clause-target
returns-clause-target c =
    let s = c.args.self.now in
    let x = c.args.symbol.now in
    let cell = c.args.cell.now in
    c.asked.ensures.target ∙ undefined_is (world_of s) (placed_in s.objects.now cell) (standing_of cell.group) x x.home (sym c.if-not-is_undefined.ensures)

pub returns-clause-lacking : goal.returns-clause-lacking
returns-clause-lacking c =
    c.asked.ensures.lacking ∙ lacks (world_of c.args.self.now) (seen_in c.args.self.now c.args.cell.now) c.args.symbol.now (sym c.if-not-is_undefined.ensures)
