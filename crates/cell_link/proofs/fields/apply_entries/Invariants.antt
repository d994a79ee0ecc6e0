use Rattle.std.proofs.Common.{◌≡◌, [], false, not, take}
use Rattle.std.specs.List.{list_any}
use Rattle.cell_world.specs.Linked.Field.{fields_among, fits}
use Rattle.cell_link.specs.Linked.{bound_in}
use Rattle.cell_link.specs.Applied.{IsHeld}
use Rattle.cell_link.proofs.fields.apply_entries.Given as goal

abbrev pub invariant-loop-index : goal.invariant-loop-index
invariant-loop-index l =
    let c = l.linker.numbers.places.cell.now in
    let bound = bound_in c l.linker.numbers.targets.now in
    record {
      fit : list_any (λ b. not (fits c bound b)) (take l.index bound) ≡ false;
      firsts : l.fields.firsts.items ≡ fields_among [] (take l.index c.object.entries);
      held : IsHeld c bound (take l.index bound) l.fields.held;
    }
