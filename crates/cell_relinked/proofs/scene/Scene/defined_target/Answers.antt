use Rattle.std.proofs.Common.{◌∙◌, sym}
use Rattle.cell_audit.specs.Described.{standing_of}
use Rattle.cell_object.specs.Parts.{is_defined, is_weak}
use Rattle.cell_relinked.proofs.Provided.{weak_shared}
use Rattle.std.proofs.lemmas.Bool.{and_parts}
use Rattle.cell_target.proofs.Asking.{own_is, yielding_is}
use Rattle.cell_relinked.specs.Fit.{placed_in}
use Rattle.cell_relinked.specs.Scene.{world_of}
use Rattle.cell_relinked.proofs.scene.Scene.defined_target.Goals as goal

pub yielding_target-requires-clause-bearers : goal.yielding_target-requires-clause-bearers
yielding_target-requires-clause-bearers c =
    let x = c.args.symbol.now in
    c.requires.bearers (weak_shared x.bind (and_parts (is_weak x.bind) (is_defined x.home) (sym c.is_weak_definition.ensures ∙ c.if-is_weak_definition.true)).0)

pub returns-then-is_weak_definition : goal.returns-then-is_weak_definition
returns-then-is_weak_definition c =
    let s = c.args.self.now in
    let x = c.args.symbol.now in
    c.yielding_target.ensures
    ∙ yielding_is (world_of s) (placed_in s.objects.now c.args.cell.now) (standing_of c.args.cell.now.group) x x.home (sym c.is_weak_definition.ensures ∙ c.if-is_weak_definition.true)

pub returns : goal.returns
returns c =
    let s = c.args.self.now in
    let x = c.args.symbol.now in
    c.own_target.ensures
    ∙ own_is (world_of s) (placed_in s.objects.now c.args.cell.now) (standing_of c.args.cell.now.group) x x.home c.requires.defined (sym c.is_weak_definition.ensures ∙ c.if-is_weak_definition.false)
