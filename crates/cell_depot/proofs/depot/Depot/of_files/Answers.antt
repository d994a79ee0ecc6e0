use Rattle.std.proofs.Common.{◌≡◌, List, Some, cond, ◌&&◌, ◌∙◌, sym, ap, take, arith, subst}
use Rattle.std.proofs.lemmas.List.{take_all}
use Rattle.cell_world.specs.declared.file.File.{File}
use Rattle.cell_depot.specs.Shelves.{AreTables, with_place, places_at}
use Rattle.cell_num.specs.Lists.{equals}
use Rattle.cell_depot.proofs.MorePlaces.{with_file}
use Rattle.cell_depot.proofs.depot.Depot.of_files.Goals as goal

pub loop-place-preserved : goal.loop-place-preserved
loop-place-preserved c =
    with_file c.deref-file-items.result.now c.loop-place.place c.file-item.result c.loop-place.shelves c.add.new.self c.loop-place.names c.put_first.new.self c.bytes-name.result.now
    c.namespace_of.result.now c.stem_of.result.now (omega arith) c.file-item.is c.bytes-name.ensures c.namespace_of.ensures c.stem_of.ensures c.loop-place.invariant
    (λ n s.
    c.in_ok-add.ensures {u = tt} n s
    ∙ ap (λ (files : List File). cond (equals c.namespace_of.result.now n && equals c.stem_of.result.now s) (Some (with_place files (places_at c.loop-place.shelves n s) c.loop-place.place)) (places_at c.loop-place.shelves n s))
    (c.deref.ensures.value ∙ sym c.deref-file-items.ensures.value))
    (λ q. c.in_ok-put_first.ensures {u = tt} q)

pub invariant_of-result : goal.invariant_of-result
invariant_of-result c =
    let all : take c.loop-place.place c.deref-file-items.result.now ≡ c.deref-file-items.result.now = take_all c.loop-place.place _ (omega arith) in
    let P : List File → Type 0 = λ files. AreTables c.deref-file-items.result.now files c.loop-place.shelves c.loop-place.names in
    let Q : List File → Type 0 = λ files. AreTables files files c.loop-place.shelves c.loop-place.names in
    subst Q c.deref-file-items.ensures.value (subst P all c.loop-place.invariant)
