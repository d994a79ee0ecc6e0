use Rattle.std.proofs.Common.{◌∙◌, ap, sym, subst, true, List, ◌≡◌}
use Rattle.std.specs.Prelude.{find, nat_lt}
use Rattle.cell_num.specs.Lists.{each_pair}
use Rattle.cell_space.proofs.Joined.{is_numbered}
use Rattle.cell_world.specs.declared.state.NewCell.{NewCell}
use Rattle.cell_machine.proofs.Looked.{found_is, in_order}
use Rattle.cell_machine.proofs.machine.Machine.cell.Goals as goal

pub cell_numbered-requires : goal.cell_numbered-requires
cell_numbered-requires c =
    subst (λ (cells : List NewCell). each_pair (λ (a b : NewCell). nat_lt a.id.0 b.id.0) cells ≡ true) (sym c.deref.ensures.value) (in_order c.args.self.now c.requires)

pub returns : goal.returns
returns c = c.cell_numbered.ensures ∙ (ap (find (is_numbered c.args.number)) c.deref.ensures.value ∙ found_is c.args.self.now c.requires c.args.number)
