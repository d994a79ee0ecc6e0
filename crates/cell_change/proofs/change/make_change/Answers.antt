use Rattle.std.proofs.Common.{sym, subst, Global, List, Vec}
use Rattle.std.specs.Prelude.{option_map}
use Rattle.std.proofs.lemmas.Result.{err_from_is_err_and}
use Rattle.cell_num.specs.declared.ids.CellId.{CellId}
use Rattle.cell_hold.specs.declared.roots.Root.{Root}
use Rattle.cell_machine.specs.Same.{without_counts}
use Rattle.cell_machine.proofs.Unchanged.{same_itself}
use Rattle.cell_change.specs.OldCells.{AreThere, CanReturn, IsAside}
use Rattle.cell_change.specs.Exchanged.{AreRoots, HasBegun}
use Rattle.cell_change.proofs.ChangeAnswered.{all_done, aside_same, begun, can_return, old_there, same_then, taken_back}
use Rattle.cell_change.proofs.change.make_change.Goals as goal

pub returns-in_err-roots : goal.returns-in_err-roots
returns-in_err-roots c a =
    let p = err_from_is_err_and c.from_residual.result c.from_residual.ensures.1 in
    rw (p.1, p.2) (same_itself c.args.machine.now)

pub put_aside-requires-clause-there : goal.put_aside-requires-clause-there
put_aside-requires-clause-there c =
    subst (λ (old : List CellId). AreThere c.args.machine.now.spaces.cells old) (sym c.deref-2.ensures.value) (old_there c.args.depot.now c.args.machine.now c.requires.sound c.args.asked.now c.requires.asked)

pub exchange-requires : goal.exchange-requires
exchange-requires c =
    let m = c.args.machine.now in
    let aside = subst (λ (old : List CellId). IsAside m old c.put_aside.new.machine) c.deref-2.ensures.value c.put_aside.ensures in
    let roots = subst (λ (old : List CellId). AreRoots m old (option_map (λ (list : Vec Root Global). list.items) c.in_ok-roots.roots)) c.deref.ensures.value (c.in_ok-roots.ensures {u = tt}) in
    record { begun = begun c.args.depot.now c.args.machine.now c.requires.sound c.args.asked.now c.requires.asked c.requires.small c.put_aside.new.machine aside; rooted = roots }

pub reattach-requires : goal.reattach-requires
reattach-requires c =
    let m = c.args.machine.now in
    let aside = subst (λ (old : List CellId). IsAside m old c.put_aside.new.machine) c.deref-2.ensures.value c.put_aside.ensures in
    let roots = subst (λ (old : List CellId). AreRoots m old (option_map (λ (list : Vec Root Global). list.items) c.in_ok-roots.roots)) c.deref.ensures.value (c.in_ok-roots.ensures {u = tt}) in
    let a = c.requires.asked in
    let h : HasBegun c.args.depot.now c.args.asked.now c.put_aside.new.machine (option_map (λ (list : Vec Root Global). list.items) c.in_ok-roots.roots) =
    record { begun = begun c.args.depot.now c.args.machine.now c.requires.sound c.args.asked.now a c.requires.small c.put_aside.new.machine aside; rooted = roots } in
    let same = same_then c.args.depot.now c.args.machine.now c.requires.sound c.args.asked.now a c.requires.small c.put_aside.new.machine aside c.in-Err.fail c.exchange.new.machine (c.in-Err.ensures h) in
    subst (λ (old : List CellId). CanReturn c.exchange.new.machine old) (sym c.deref-in-Err.ensures.value)
    (can_return c.args.depot.now c.args.machine.now c.requires.sound c.args.asked.now a c.requires.small c.put_aside.new.machine aside c.exchange.new.machine same)

pub returns-in-Ok : goal.returns-in-Ok
returns-in-Ok c a =
    let m = c.args.machine.now in
    let aside = subst (λ (old : List CellId). IsAside m old c.put_aside.new.machine) c.deref-2.ensures.value c.put_aside.ensures in
    let roots = subst (λ (old : List CellId). AreRoots m old (option_map (λ (list : Vec Root Global). list.items) c.in_ok-roots.roots)) c.deref.ensures.value (c.in_ok-roots.ensures {u = tt}) in
    let h : HasBegun c.args.depot.now c.args.asked.now c.put_aside.new.machine (option_map (λ (list : Vec Root Global). list.items) c.in_ok-roots.roots) =
    record { begun = begun c.args.depot.now c.args.machine.now c.requires.sound c.args.asked.now a c.requires.small c.put_aside.new.machine aside; rooted = roots } in
    all_done c.args.depot.now c.args.machine.now c.requires.sound c.args.asked.now a c.requires.small c.put_aside.new.machine aside c.in-Ok.made c.exchange.new.machine (c.in-Ok.ensures h)

pub returns-in-Err : goal.returns-in-Err
returns-in-Err c a =
    let m = c.args.machine.now in
    let aside = subst (λ (old : List CellId). IsAside m old c.put_aside.new.machine) c.deref-2.ensures.value c.put_aside.ensures in
    let roots = subst (λ (old : List CellId). AreRoots m old (option_map (λ (list : Vec Root Global). list.items) c.in_ok-roots.roots)) c.deref.ensures.value (c.in_ok-roots.ensures {u = tt}) in
    let h : HasBegun c.args.depot.now c.args.asked.now c.put_aside.new.machine (option_map (λ (list : Vec Root Global). list.items) c.in_ok-roots.roots) =
    record { begun = begun c.args.depot.now c.args.machine.now c.requires.sound c.args.asked.now a c.requires.small c.put_aside.new.machine aside; rooted = roots } in
    let same = same_then c.args.depot.now c.args.machine.now c.requires.sound c.args.asked.now a c.requires.small c.put_aside.new.machine aside c.in-Err.fail c.exchange.new.machine (c.in-Err.ensures h) in
    let r : CanReturn c.exchange.new.machine c.deref-in-Err.result.now = record {
      before = m;
      sound = c.requires.sound;
      there = subst (AreThere m.spaces.cells) (sym c.deref-in-Err.ensures.value) (old_there c.args.depot.now c.args.machine.now c.requires.sound c.args.asked.now a);
      aside = subst (λ (old : List CellId). IsAside m old (without_counts m c.exchange.new.machine)) (sym c.deref-in-Err.ensures.value) (aside_same m c.args.asked.now.replaced.items c.put_aside.new.machine c.exchange.new.machine aside same);
    } in
    taken_back c.args.depot.now c.args.machine.now c.requires.sound c.args.asked.now a c.requires.small c.put_aside.new.machine aside c.in-Err.fail c.exchange.new.machine c.reattach.new.machine (c.in-Err.ensures h)
    (c.reattach.ensures.same r) c.reattach.ensures.memory
