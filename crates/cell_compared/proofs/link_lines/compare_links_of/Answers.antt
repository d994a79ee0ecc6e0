use Rattle.std.proofs.Common.{ap, arith, get_or, length, map, List, ◌<◌, ◌∙◌}
use Rattle.std.specs.Prelude.{filter_map, unwrap_or}
use Rattle.std.proofs.lemmas.List.{drop_all, get_or-map}
use Rattle.std.proofs.lemmas.Result.{err_from_is_err_and}
use Rattle.cell_described.specs.Faults.{object_at}
use Rattle.cell_num.specs.Lists.{numbered_from}
use Rattle.cell_object.specs.declared.object.Entry.{Entry}
use Rattle.cell_object.specs.declared.object.Object.{Object}
use Rattle.cell_relinked.specs.Scene.{seen_in, world_of}
use Rattle.cell_world.specs.DumpLines.{link_line}
use Rattle.cell_world.specs.Linked.Relink.{link_of}
use Rattle.cell_world.specs.Linked.Target.{target_of}
use Rattle.cell_world.specs.declared.state.Target.{Target}
use Rattle.cell_world.specs.declared.state.Target.TheVariants.{Number}
use Rattle.cell_compared.specs.Left.{left}
use Rattle.cell_compared.proofs.Pieces.{linked, user_is}
use Rattle.cell_compared.proofs.Walking.{all_gone, fails_here, goes_on}
use Rattle.cell_compared.proofs.link_lines.compare_links_of.Goals as goal

pub returns-in_err-expect_link : goal.returns-in_err-expect_link
returns-in_err-expect_link c =
    let p = err_from_is_err_and c.from_residual.result c.from_residual.ensures.1 in
    let scene = c.args.scene.now in
    let w = world_of scene in
    let cell = seen_in scene c.args.cell.now in
    let read = c.as_slice-entries.result.now in
    let xs = (object_at scene.objects.now c.args.cell.now.object).entries in
    let i = c.loop-index.index in
    let same = c.as_slice-entries.ensures ∙ ap (λ (o : Object). o.entries) c.object.ensures in
    let below : i < length xs = let test = c.loop-index-test.true in let size = ap length same in omega (arith, test, size) in
    rw (p.1, p.2)
    (fails_here c.in_err-expect_link.field-0.0 (left c.loop-index.cursor) _ _ _ _
    (linked w cell xs i _ below _ (ap (λ (ts : List Target). get_or ts i _) c.requires.targets ∙ get_or-map (λ (e : Entry). unwrap_or (target_of w cell e) (Number 0)) xs i _ _ below)) c.loop-index.invariant
    (c.in_err-expect_link.ensures cell (get_or xs i _) (user_is c.args.cell.now.id.0 read xs same i _)))

pub loop-index-preserved : goal.loop-index-preserved
loop-index-preserved c =
    let scene = c.args.scene.now in
    let w = world_of scene in
    let cell = seen_in scene c.args.cell.now in
    let read = c.as_slice-entries.result.now in
    let xs = (object_at scene.objects.now c.args.cell.now.object).entries in
    let i = c.loop-index.index in
    let same = c.as_slice-entries.ensures ∙ ap (λ (o : Object). o.entries) c.object.ensures in
    let below : i < length xs = let test = c.loop-index-test.true in let size = ap length same in omega (arith, test, size) in
    goes_on (left c.loop-index.cursor) (left c.expect_link.new.cursor) _ _ _ _
    (linked w cell xs i _ below _ (ap (λ (ts : List Target). get_or ts i _) c.requires.targets ∙ get_or-map (λ (e : Entry). unwrap_or (target_of w cell e) (Number 0)) xs i _ _ below)) c.loop-index.invariant
    (c.in_ok-expect_link.ensures cell (get_or xs i _) (user_is c.args.cell.now.id.0 read xs same i _))

pub returns : goal.returns
returns c =
    let scene = c.args.scene.now in
    let w = world_of scene in
    let cell = seen_in scene c.args.cell.now in
    let read = c.as_slice-entries.result.now in
    let xs = (object_at scene.objects.now c.args.cell.now.object).entries in
    let i = c.loop-index.index in
    let same = c.as_slice-entries.ensures ∙ ap (λ (o : Object). o.entries) c.object.ensures in
    let past = c.loop-index-test.false in
    all_gone (left c.loop-index.cursor) _ _ (ap (λ (ys : List Entry). map link_line (filter_map (link_of w cell) (numbered_from i ys))) (drop_all i xs (omega (arith, past, ap length same)))) c.loop-index.invariant
