use Rattle.std.proofs.Common.{arith, map}
use Rattle.std.proofs.lemmas.Result.{err_from_is_err_and}
use Rattle.cell_world.specs.Commands.Asked.{want_of}
use Rattle.cell_world.specs.Gather.{source_of}
use Rattle.cell_machine.specs.Machine.{world_of}
use Rattle.cell_commands.specs.Items.{options_of}
use Rattle.cell_commands.proofs.ItemLemmas.{all_asked, item_asked, item_failed, nothing_asked}
use Rattle.cell_commands.proofs.swapping.change_for.Goals as goal

pub loop-item-init : goal.loop-item-init
loop-item-init c = nothing_asked (map source_of c.args.depot.now) (world_of c.args.machine.now) (options_of c.args.words.now) (want_of (map source_of c.args.depot.now) (world_of c.args.machine.now)) c.args.items.now _ c.new.ensures.items c.new-2.ensures.items c.new-3.ensures.items c.options.ensures

pub returns-in_err-add_item : goal.returns-in_err-add_item
returns-in_err-add_item c =
    let p = err_from_is_err_and c.from_residual.result c.from_residual.ensures.1 in
    rw (p.1, p.2)
    (item_failed (map source_of c.args.depot.now) (world_of c.args.machine.now) (options_of c.args.words.now) (want_of (map source_of c.args.depot.now) (world_of c.args.machine.now)) c.args.items.now c.loop-item.item-index c.loop-item.change c.loop-item.invariant (omega arith) c.item-item.result c.item-item.is c.in_err-add_item.field-0.0 c.add_item.new.change
    (c.in_err-add_item.ensures {u = tt}))

pub loop-item-preserved : goal.loop-item-preserved
loop-item-preserved c =
    item_asked (map source_of c.args.depot.now) (world_of c.args.machine.now) (options_of c.args.words.now) (want_of (map source_of c.args.depot.now) (world_of c.args.machine.now)) c.args.items.now c.loop-item.item-index c.loop-item.change c.loop-item.invariant (omega arith) c.item-item.result c.item-item.is c.add_item.new.change (c.in_ok-add_item.ensures {u = tt})

pub returns : goal.returns
returns c = all_asked (map source_of c.args.depot.now) (world_of c.args.machine.now) (options_of c.args.words.now) (want_of (map source_of c.args.depot.now) (world_of c.args.machine.now)) c.args.items.now c.loop-item.item-index c.loop-item.change c.loop-item.invariant (omega arith)
