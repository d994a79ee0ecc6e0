use Rattle.std.proofs.Common.{◌≡◌, sym, ap, subst, ◌++◌, List, Option, None, Some}
use Rattle.std.specs.Prelude.{◌==◌, IfOk, IsTrue, find, is_some, nat_lt, option_and_then}
use Rattle.cell_num.specs.Lists.{each_pair}
use Rattle.cell_num.proofs.Elements.{found-In}
use Rattle.cell_world.specs.Commands.SpawnCommand.{entry_offset}
use Rattle.cell_world.specs.declared.state.NewCell.{NewCell}
use Rattle.cell_change.proofs.restarting.may_begin_at.Goals as goal

pub cell_among-requires : goal.cell_among-requires
cell_among-requires c =
    subst (λ (cs : List NewCell). IsTrue (each_pair (λ (a b : NewCell). nat_lt a.id.0 b.id.0) (cs ++ c.deref-2.result.now))) (sym c.deref.ensures.value)
    (subst (λ (cs : List NewCell). IsTrue (each_pair (λ (a b : NewCell). nat_lt a.id.0 b.id.0) (c.args.machine.now.cells.items ++ cs))) (sym c.deref-2.ensures.value) c.requires.rise)

pub can_begin_at-requires : goal.can_begin_at-requires
can_begin_at-requires c =
    let is_it = λ (d : NewCell). d.id.0 == c.args.provider.now.cell.0 in
    let among = subst (λ (cs : List NewCell). Some c.in-Some.cell.now ≡ find is_it (cs ++ c.deref-2.result.now)) c.deref.ensures.value (c.in-Some.ensures {u = tt}) in
    let there = subst (λ (cs : List NewCell). Some c.in-Some.cell.now ≡ find is_it (c.args.machine.now.cells.items ++ cs)) c.deref-2.ensures.value among in
    c.requires.loadable c.in-Some.cell.now (found-In is_it (c.args.machine.now.cells.items ++ c.args.gathered.now.cells.items) c.in-Some.cell.now (sym there)).0

pub returns-in-Some : goal.returns-in-Some
returns-in-Some c =
    let is_it = λ (d : NewCell). d.id.0 == c.args.provider.now.cell.0 in
    let among = subst (λ (cs : List NewCell). Some c.in-Some.cell.now ≡ find is_it (cs ++ c.deref-2.result.now)) c.deref.ensures.value (c.in-Some.ensures {u = tt}) in
    let there = subst (λ (cs : List NewCell). Some c.in-Some.cell.now ≡ find is_it (c.args.machine.now.cells.items ++ cs)) c.deref-2.ensures.value among in
    subst (λ (o : Option NewCell). IfOk c.can_begin_at.result (λ can. can ≡ is_some (option_and_then (λ (d : NewCell). entry_offset d.object c.args.provider.now.symbol) o))) there c.can_begin_at.ensures

pub returns-in-None : goal.returns-in-None
returns-in-None c =
    let is_it = λ (d : NewCell). d.id.0 == c.args.provider.now.cell.0 in
    let among = subst (λ (cs : List NewCell). None ≡ find is_it (cs ++ c.deref-2.result.now)) c.deref.ensures.value (c.in-None.ensures {u = tt}) in
    let there = subst (λ (cs : List NewCell). None ≡ find is_it (c.args.machine.now.cells.items ++ cs)) c.deref-2.ensures.value among in
    ap (λ (o : Option NewCell). is_some (option_and_then (λ (d : NewCell). entry_offset d.object c.args.provider.now.symbol) o)) there
