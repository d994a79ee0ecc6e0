use Rattle.std.proofs.Common.{◌++◌, ◌∷◌, [], ◌+◌, List, arith, get_or, subst, sym, take}
use Rattle.std.proofs.lemmas.List.{take_more}
use Rattle.cell_gather.specs.declared.copies.Original.{Original}
use Rattle.cell_change.specs.declared.request.CellCopy.{CellCopy}
use Rattle.cell_change.specs.Copying.{AreOriginals}
use Rattle.cell_change.proofs.Decision.Originals.{one_more_original}
use Rattle.cell_change.proofs.copying.originals.Goals as goal

pub loop-copy-preserved : goal.loop-copy-preserved
loop-copy-preserved c =
    let none : CellCopy = record { original = record { 0 = 0 }; ns = 0 } in
    let index = c.loop-copy.copy-index in
    let list = take index c.args.copies.now in
    let copy = get_or c.args.copies.now index none in
    subst (λ (copies : List CellCopy). AreOriginals c.args.machine.now copies c.push.new.self.items) (sym (take_more c.args.copies.now index none (omega arith)))
    (subst (λ (all : List Original). AreOriginals c.args.machine.now (list ++ copy ∷ []) all) (sym (c.in_ok-push.ensures {u = tt}).items)
    (one_more_original c.args.machine.now list c.loop-copy.all.items copy c.original.result c.loop-copy.invariant c.original.ensures))
