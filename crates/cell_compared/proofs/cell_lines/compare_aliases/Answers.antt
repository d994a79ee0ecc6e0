use Rattle.std.proofs.Common.{ap, map, refl, List, arith, length, ◌<◌, ◌≤◌}
use Rattle.std.proofs.lemmas.List.{drop_all}
use Rattle.std.proofs.lemmas.Result.{err_from_is_err_and}
use Rattle.cell_compared.specs.Left.{left}
use Rattle.cell_compared.proofs.Pieces.{mapped_twice}
use Rattle.cell_compared.proofs.Walking.{all_gone, fails_here, goes_on}
use Rattle.cell_audit.specs.declared.written.WrittenAlias.{WrittenAlias}
use Rattle.cell_described.specs.Describes.{alias_seen}
use Rattle.cell_relinked.specs.Scene.{seen_in}
use Rattle.cell_world.specs.DumpLines.{alias_line}
use Rattle.cell_compared.proofs.cell_lines.compare_aliases.Goals as goal

pub returns-in_err-expect_alias : goal.returns-in_err-expect_alias
returns-in_err-expect_alias c =
    let p = err_from_is_err_and c.from_residual.result c.from_residual.ensures.1 in
    let scene = c.args.scene.now in
    let cell = c.args.cell.now in
    let xs = cell.aliases.items in
    let below : c.loop-index.index < length xs = let test = c.loop-index-test.true in let end = c.len-index-end.ensures in let size = c.args.cell.now.aliases.ok.0 in omega (arith, test, end, size) in
    rw (p.1, p.2)
    (fails_here c.in_err-expect_alias.field-0.0 (left c.loop-index.cursor) _ _ _ _ (mapped_twice xs xs refl c.loop-index.index c.index.result.now below c.index.ensures (alias_seen scene.file.now) (alias_line (seen_in scene cell))) c.loop-index.invariant c.in_err-expect_alias.ensures)

pub loop-index-preserved : goal.loop-index-preserved
loop-index-preserved c =
    let scene = c.args.scene.now in
    let cell = c.args.cell.now in
    let xs = cell.aliases.items in
    let below : c.loop-index.index < length xs = let test = c.loop-index-test.true in let end = c.len-index-end.ensures in let size = c.args.cell.now.aliases.ok.0 in omega (arith, test, end, size) in
    goes_on (left c.loop-index.cursor) (left c.expect_alias.new.cursor) _ _ _ _ (mapped_twice xs xs refl c.loop-index.index c.index.result.now below c.index.ensures (alias_seen scene.file.now) (alias_line (seen_in scene cell))) c.loop-index.invariant c.in_ok-expect_alias.ensures

pub returns : goal.returns
returns c =
    let scene = c.args.scene.now in
    let cell = c.args.cell.now in
    let xs = cell.aliases.items in
    let past : length xs ≤ c.loop-index.index = let test = c.loop-index-test.false in let end = c.len-index-end.ensures in let size = c.args.cell.now.aliases.ok.0 in omega (arith, test, end, size) in
    all_gone (left c.loop-index.cursor) _ _ (ap (λ (ys : List WrittenAlias). map (alias_line (seen_in scene cell)) (map (alias_seen scene.file.now) ys)) (drop_all c.loop-index.index xs past)) c.loop-index.invariant
