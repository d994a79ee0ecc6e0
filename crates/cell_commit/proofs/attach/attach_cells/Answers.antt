use Rattle.std.proofs.Common.{◌∙◌, ◌++◌, refl, ap, subst, sym, arith, map}
use Rattle.std.proofs.lemmas.List.{nil_from_length}
use Rattle.cell_commit.specs.Cells.{AreFree, arrived}
use Rattle.cell_commit.proofs.NewcomersLeft.{all_left, all_named, cells_done, cells_more, count_here, free_here, free_more, names_here}
use Rattle.cell_commit.proofs.attach.attach_cells.Goals as goal

pub loop-newcomer-init : goal.loop-newcomer-init
loop-newcomer-init c =
    let all = c.into_iter-newcomer-iterator.ensures.into_iter_gives.0 in
    record {
      cells = ap (λ ns. c.args.spaces.now.cells ++ map arrived ns) all;
      namespaces = refl;
      free = subst (AreFree c.args.spaces.now.namespaces c.args.spaces.now.cells) (sym all) c.requires.free;
      room = all_left _ _ _ all c.requires.room;
      room_for_names = all_named _ _ _ all c.requires.room_for_names;
    }

pub attach-requires-clause-free : goal.attach-requires-clause-free
attach-requires-clause-free c = free_here _ _ _ (c.in-Some.ensures {u = tt}).steps.0 _ _ c.loop-newcomer.invariant.free

pub attach-requires-clause-room : goal.attach-requires-clause-room
attach-requires-clause-room c = let n = count_here _ _ _ (c.in-Some.ensures {u = tt}).steps.0 in omega (arith, n, c.loop-newcomer.invariant.room)

pub attach-requires-clause-room_for_names : goal.attach-requires-clause-room_for_names
attach-requires-clause-room_for_names c =
    let left = (c.in-Some.ensures {u = tt}).steps.0 in
    let n = count_here _ _ _ left in
    let names = names_here _ _ _ left in
    omega (arith, n, names, c.loop-newcomer.invariant.room_for_names)

pub loop-newcomer-preserved : goal.loop-newcomer-preserved
loop-newcomer-preserved c =
    let left = (c.in-Some.ensures {u = tt}).steps.0 in
    let n = count_here _ _ _ left in
    let names = names_here _ _ _ left in
    record {
      cells = cells_more _ _ _ left _ _ _ c.attach.ensures.cells c.loop-newcomer.invariant.cells;
      namespaces = c.attach.ensures.namespaces ∙ c.loop-newcomer.invariant.namespaces;
      free = free_more _ _ _ left _ _ _ _ c.attach.ensures.namespaces c.attach.ensures.cells c.loop-newcomer.invariant.free;
      room = omega (arith, n, c.attach.ensures.room, c.loop-newcomer.invariant.room);
      room_for_names = omega (arith, n, names, c.attach.ensures.room_for_names, c.loop-newcomer.invariant.room_for_names);
    }

pub returns-clause-cells : goal.returns-clause-cells
returns-clause-cells c =
    let left = c.loop-newcomer.newcomer-iterator.rest in
    let none = (c.in-None.ensures {u = tt}).steps.0 in
    cells_done _ _ _ (nil_from_length left.items (omega (arith, none, left.ok.0))) c.loop-newcomer.invariant.cells
