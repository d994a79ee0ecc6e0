use Rattle.std.proofs.Common.{List, subst, sym}
use Rattle.cell_num.specs.declared.ids.CellId.{CellId}
use Rattle.cell_mem.specs.State.{MemoryState}
use Rattle.cell_change.specs.Entering.{Reads}
use Rattle.cell_change.specs.Restarting.{CanRestart}
use Rattle.cell_change.proofs.Arrival.BegunAgain.{can_restart, entered_then, looks_then, renewed, restarted_so, whole_then}
use Rattle.cell_change.proofs.Arrival.Tried.{all_there}
use Rattle.cell_change.proofs.entering.renew.Goals as goal

pub forget-requires : goal.forget-requires
forget-requires c = c.requires.can.entered.way_back.undo.begun

pub restart-requires : goal.restart-requires
restart-requires c =
    subst (λ (s : MemoryState). CanRestart (record c.args.machine.now { memory = s }) c.args.again) (sym c.forget.ensures)
    (can_restart c.requires.can.entered c.args.again c.requires.can.begun)

pub read-requires-clause-whole : goal.read-requires-clause-whole
read-requires-clause-whole c =
    let has = restarted_so c.args.machine.now c.args.again c.args.outlook c.forget.new.self c.forget.ensures c.restart.new.machine c.restart.new.outlook c.restart.ensures (can_restart c.requires.can.entered c.args.again c.requires.can.begun) in
    whole_then c.requires.can.entered c.args.again c.requires.can.begun c.restart.new.machine c.restart.new.outlook has

pub read-requires-clause-looks : goal.read-requires-clause-looks
read-requires-clause-looks c =
    let has = restarted_so c.args.machine.now c.args.again c.args.outlook c.forget.new.self c.forget.ensures c.restart.new.machine c.restart.new.outlook c.restart.ensures (can_restart c.requires.can.entered c.args.again c.requires.can.begun) in
    rw c.deref.ensures.value (looks_then c.requires.can.entered c.args.again c.requires.can.begun c.restart.new.machine c.restart.new.outlook has)

pub read-requires-clause-room : goal.read-requires-clause-room
read-requires-clause-room c =
    let has = restarted_so c.args.machine.now c.args.again c.args.outlook c.forget.new.self c.forget.ensures c.restart.new.machine c.restart.new.outlook c.restart.ensures (can_restart c.requires.can.entered c.args.again c.requires.can.begun) in
    rw c.deref.ensures.value (all_there (entered_then c.requires.can.entered c.args.again c.requires.can.begun c.restart.new.machine c.restart.new.outlook has) _ c.requires.can.fits)

pub returns : goal.returns
returns c e =
    renewed e.entered c.args.again e.begun c.restart.new.machine c.restart.new.outlook (restarted_so c.args.machine.now c.args.again c.args.outlook c.forget.new.self c.forget.ensures c.restart.new.machine c.restart.new.outlook c.restart.ensures (can_restart e.entered c.args.again e.begun)) c.read.result
    (subst (λ (old : List CellId). Reads c.restart.new.machine old c.read.result) c.deref.ensures.value c.read.ensures)
