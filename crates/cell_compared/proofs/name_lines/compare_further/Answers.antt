use Rattle.std.proofs.Common.{ap, map, sym, ℕ, [], List, arith, length, ◌<◌, ◌≤◌, ◌∙◌}
use Rattle.std.proofs.lemmas.List.{drop_all}
use Rattle.std.proofs.lemmas.Result.{err_from_is_err_and}
use Rattle.cell_bearers.specs.Bearers.{bearers_of}
use Rattle.cell_relinked.proofs.Gotten.{got}
use Rattle.cell_compared.specs.Left.{left}
use Rattle.cell_compared.proofs.Pieces.{named_on}
use Rattle.cell_compared.proofs.Walking.{all_gone, fails_here, fails_same, goes_on}
use Rattle.cell_audit.specs.declared.written.WrittenAlias.{WrittenAlias}
use Rattle.cell_described.specs.Describes.{alias_seen}
use Rattle.std.specs.List.{cons_option}
use Rattle.cell_compared.specs.Shown.{name_lines}
use Rattle.cell_compared.specs.Walk.{walk}
use Rattle.cell_world.specs.DumpLines.{provider_line}
use Rattle.cell_relinked.specs.Scene.{world_of}
use Rattle.cell_compared.proofs.name_lines.compare_further.Goals as goal

pub expect_name-requires-clause-bearers : goal.expect_name-requires-clause-bearers
expect_name-requires-clause-bearers c =
    let scene = c.args.asked.now.scene.now in
    let xs = c.args.cell.now.aliases.items in
    let below : c.loop-index.index < length xs = let test = c.loop-index-test.true in let end = c.len-index-end.ensures in let size = c.args.cell.now.aliases.ok.0 in omega (arith, test, end, size) in
    c.of_alias-bearers.ensures
    ∙ (scene.indexed.aliases c.args.place c.loop-index.index c.args.cell.now c.index-alias.result.now c.requires.there (got xs c.loop-index.index c.index-alias.result.now below c.index-alias.ensures)
    ∙ ap (bearers_of scene.file.now scene.objects.now scene.cells.now) (sym c.text_at-name.ensures))

pub returns-in_err-expect_name : goal.returns-in_err-expect_name
returns-in_err-expect_name c =
    let p = err_from_is_err_and c.from_residual.result c.from_residual.ensures.1 in
    let scene = c.args.asked.now.scene.now in
    let w = world_of scene in
    let ns = c.args.asked.now.ns in
    let xs = c.args.cell.now.aliases.items in
    let below : c.loop-index.index < length xs = let test = c.loop-index-test.true in let end = c.len-index-end.ensures in let size = c.args.cell.now.aliases.ok.0 in omega (arith, test, end, size) in
    rw (p.1, p.2)
    (fails_here c.in_err-expect_name.field-0.0 (left c.loop-index.cursor) _ _ _ _ (named_on w ns scene.file.now xs c.loop-index.index c.index-alias.result.now below c.index-alias.ensures) c.loop-index.invariant
    (fails_same c.in_err-expect_name.field-0.0 _ _ (ap (λ (name : List ℕ). walk (left c.loop-index.cursor) (cons_option (provider_line w ns name) [])) c.text_at-name.ensures) (c.in_err-expect_name.ensures 0)))

pub loop-index-preserved : goal.loop-index-preserved
loop-index-preserved c =
    let scene = c.args.asked.now.scene.now in
    let w = world_of scene in
    let ns = c.args.asked.now.ns in
    let xs = c.args.cell.now.aliases.items in
    let below : c.loop-index.index < length xs = let test = c.loop-index-test.true in let end = c.len-index-end.ensures in let size = c.args.cell.now.aliases.ok.0 in omega (arith, test, end, size) in
    goes_on (left c.loop-index.cursor) (left c.expect_name.new.cursor) _ _ _ _ (named_on w ns scene.file.now xs c.loop-index.index c.index-alias.result.now below c.index-alias.ensures) c.loop-index.invariant (ap (λ (name : List ℕ). walk (left c.loop-index.cursor) (cons_option (provider_line w ns name) [])) (sym c.text_at-name.ensures) ∙ c.in_ok-expect_name.ensures 0)

pub returns : goal.returns
returns c =
    let scene = c.args.asked.now.scene.now in
    let w = world_of scene in
    let ns = c.args.asked.now.ns in
    let xs = c.args.cell.now.aliases.items in
    let past : length xs ≤ c.loop-index.index = let test = c.loop-index-test.false in let end = c.len-index-end.ensures in let size = c.args.cell.now.aliases.ok.0 in omega (arith, test, end, size) in
    all_gone (left c.loop-index.cursor) _ _ (ap (λ (ys : List WrittenAlias). name_lines w ns (map (alias_seen scene.file.now) ys)) (drop_all c.loop-index.index xs past)) c.loop-index.invariant
