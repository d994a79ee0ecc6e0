use Rattle.std.proofs.Common.{◌≡◌, false, take}
use Rattle.std.specs.Prelude.{filter, fold}
use Rattle.std.specs.List.{list_any}
use Rattle.cell_world.specs.Linked.Field.{is_at, own_number}
use Rattle.cell_link.specs.Linked.{bound_in}
use Rattle.cell_link.specs.Applied.{applied, is_unfit_at}
use Rattle.cell_link.proofs.one_field.Table.value.Given as goal

abbrev pub invariant-loop-index : goal.invariant-loop-index
invariant-loop-index l =
    let c = l.self.cell.now in
    let bound = bound_in c l.self.targets.now in
    record {
      fit : list_any (is_unfit_at c bound l.first) (take l.index bound) ≡ false;
      value : l.value ≡ fold (applied c bound) (own_number c.object l.first) (filter (λ b. is_at l.first b.entry) (take l.index bound));
    }
