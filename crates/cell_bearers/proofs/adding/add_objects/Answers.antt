use Rattle.std.proofs.Common.{◌++◌, arith, refl}
use Rattle.std.specs.Prelude.{flat_map}
use Rattle.cell_num.specs.Lists.{numbered}
use Rattle.cell_bearers.specs.Namings.{object_namings}
use Rattle.cell_bearers.proofs.Stepping.{list_more, lists_done}
use Rattle.cell_bearers.proofs.adding.add_objects.Goals as goal

pub loop-place-preserved : goal.loop-place-preserved
loop-place-preserved c =
    let xs = c.args.objects.now in
    list_more (c.args.namings.now.items ++ flat_map object_namings (numbered xs)) c.loop-place.namings.items c.add_object.new.namings.items
    xs xs refl c.loop-place.place c.index-objects-place.result c.loop-place-test.true c.index-objects-place.is
    object_namings c.in_ok-add_object.ensures c.loop-place.invariant

pub returns : goal.returns
returns c =
    let xs = c.args.objects.now in
    let past = c.loop-place-test.false in
    lists_done (c.args.namings.now.items ++ flat_map object_namings (numbered xs)) c.loop-place.namings.items xs c.loop-place.place (omega (arith, past)) object_namings c.loop-place.invariant
