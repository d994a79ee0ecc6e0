use Rattle.std.proofs.Common.{◌≡◌, ◌∙◌, ◌<◌, ◌≤◌, ap, subst, arith, get_or, length, take, take_all, List}
use Rattle.std.specs.Prelude.{flat_map}
use Rattle.std.proofs.lemmas.List.{length-map}
use Rattle.cell_world.specs.declared.state.NewCell.{NewCell}
use Rattle.cell_num.specs.Lists.{In}
use Rattle.cell_space.specs.Joined.{placed_of}
use Rattle.cell_machine.specs.Machine.{world_of}
use Rattle.cell_machine.proofs.Joined.{cell_at, placed_in}
use Rattle.cell_change.proofs.Arrival.StillDetached.{all_detached, detached, one_more}
use Rattle.cell_change.proofs.sweep.list_detached.Goals as goal

pub group-requires-clause-there : goal.group-requires-clause-there
group-requires-clause-there c =
    let m = c.args.machine.now in
    let x = c.index-cells-place.result in
    let lt : c.loop-place.place < length m.cells.items = omega (arith, c.loop-place-test.true, ap length c.as_slice-cells.ensures.value) in
    let at = cell_at m c.requires.sound c.loop-place.place x lt (c.index-cells-place.is ∙ ap (λ (cs : List NewCell). get_or cs c.loop-place.place x) c.as_slice-cells.ensures.value) in
    subst (λ (y : NewCell). In y m.cells.items) at.placed (placed_in m c.requires.sound at.cell at.there)

pub loop-place-preserved : goal.loop-place-preserved
loop-place-preserved c =
    let m = c.args.machine.now in
    let x = c.index-cells-place.result in
    let lt : c.loop-place.place < length m.cells.items = omega (arith, c.loop-place-test.true, ap length c.as_slice-cells.ensures.value) in
    let at = cell_at m c.requires.sound c.loop-place.place x lt (c.index-cells-place.is ∙ ap (λ (cs : List NewCell). get_or cs c.loop-place.place x) c.as_slice-cells.ensures.value) in
    record {
      cells = one_more (world_of m).cells c.loop-place.place at.cell at.next x at.placed c.group.result (c.group.ensures at.cell at.there at.placed)
          c.loop-place.into.items c.add_detached.new.into.items c.loop-place.invariant.cells c.add_detached.ensures.cells;
      few = omega (arith, c.add_detached.ensures.more, c.loop-place.invariant.few);
      room = omega (arith, c.add_detached.ensures.room, c.loop-place.invariant.room);
    }

pub returns : goal.returns
returns c =
    let m = c.args.machine.now in
    let enough : length (world_of m).cells ≤ c.loop-place.place =
    omega (arith, c.loop-place-test.false, ap length c.as_slice-cells.ensures.value, length-map (world_of m).cells placed_of, ap length c.requires.sound.joined.placed) in
    c.loop-place.invariant.cells
    ∙ (ap (flat_map detached) (let all : take c.loop-place.place (world_of m).cells ≡ (world_of m).cells = take_all c.loop-place.place (world_of m).cells enough in all)
    ∙ all_detached (world_of m).cells)
