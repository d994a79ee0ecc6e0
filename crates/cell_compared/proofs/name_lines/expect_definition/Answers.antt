use Rattle.std.proofs.Common.{ap, cond, sym, Bool, [], ◌∙◌}
use Rattle.std.specs.List.{cons_option}
use Rattle.cell_bearers.specs.Bearers.{bearers_of}
use Rattle.cell_world.specs.DumpLines.{provider_line}
use Rattle.cell_relinked.specs.Scene.{world_of}
use Rattle.cell_compared.specs.Left.{left}
use Rattle.cell_compared.specs.Walk.{walk}
use Rattle.cell_compared.proofs.Walking.{walk_none, walks_same}
use Rattle.cell_compared.proofs.name_lines.expect_definition.Goals as goal

pub expect_name-requires-clause-bearers : goal.expect_name-requires-clause-bearers
expect_name-requires-clause-bearers c =
    let scene = c.args.asked.now.scene.now in
    c.requires.bearers (sym c.if-not-is_definition.ensures) ∙ ap (bearers_of scene.file.now scene.objects.now scene.cells.now) (sym c.as_slice.ensures)

pub returns-then-not-is_definition : goal.returns-then-not-is_definition
returns-then-not-is_definition c =
    ap (λ (b : Bool). walk (left c.args.cursor.now) (cond b (cons_option (provider_line (world_of c.args.asked.now.scene.now) c.args.asked.now.ns c.args.symbol.now.name) []) [])) (sym c.if-not-is_definition.ensures)
    ∙ walk_none (left c.args.cursor.now)

pub returns : goal.returns
returns c =
    let w = world_of c.args.asked.now.scene.now in
    let ns = c.args.asked.now.ns in
    walks_same (left c.args.cursor.now) (left c.expect_name.new.cursor) _ _ c.expect_name.result
    (ap (λ name. cons_option (provider_line w ns name) []) c.as_slice.ensures ∙ ap (λ (b : Bool). cond b (cons_option (provider_line w ns c.args.symbol.now.name) []) []) c.if-not-is_definition.ensures)
    (c.expect_name.ensures 0)
