use Rattle.std.proofs.Common.{◌≤◌, map}
use Rattle.std.specs.Prelude.{vec_capacity, vec_len}
use Rattle.cell_num.specs.declared.ids.CellId.{CellId}
use Rattle.cell_unload.proofs.Walked.{IsWalked}
use Rattle.cell_unload.proofs.survey.Survey.list_unkept.Given as goal

abbrev pub invariant-loop-place : goal.invariant-loop-place
invariant-loop-place l = record {
  walked : IsWalked (map (λ (c : CellId). c.0) l.self.kept.items) l.machine.cells.items l.place l.kept l.into.items;
  few : vec_len l.into ≤ l.place;
  room : vec_capacity l.fn.into ≤ vec_capacity l.into;
}
