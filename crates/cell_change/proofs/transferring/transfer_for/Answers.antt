use Rattle.std.proofs.Common.{subst, sym, ◌∙◌, refl, ap₂, List, map}
use Rattle.cell_world.specs.declared.state.NewCell.{NewCell}
use Rattle.cell_routines.specs.Begins.{begin_as}
use Rattle.cell_routines.specs.Placed.{routines_among}
use Rattle.cell_routines.specs.declared.entries.Begin.{Begin}
use Rattle.cell_num.specs.declared.ids.CellId.{CellId}
use Rattle.cell_xfer.specs.Named.{AnswersAs}
use Rattle.cell_change.specs.Transferring.{AreOld, old_rows}
use Rattle.cell_change.proofs.transferring.transfer_for.Goals as goal

pub old_addresses-requires : goal.old_addresses-requires
old_addresses-requires c = subst (AreOld c.args.machine.now) (sym c.deref.ensures.value) c.requires.old

pub returns : goal.returns
returns c = record {
  names = c.in_ok-copies.ensures {u = tt};
  routines = (c.in_ok-routines_at.ensures {u = tt}) ∙ ap₂ (λ (cells : List NewCell) (begins : List Begin). routines_among cells (map begin_as begins)) c.deref-2.ensures.value c.deref-3.ensures.value;
  budget_is = refl;
  stack = c.in-Some.is;
  zeros = c.in_ok-zeros.ensures {u = tt};
  before = subst (λ (ids : List CellId). AnswersAs c.in_ok-old_addresses.field-0 (old_rows c.args.machine.now ids)) c.deref.ensures.value (c.in_ok-old_addresses.ensures {u = tt});
  after = c.in_ok-new_addresses.ensures {u = tt};
}
