use Rattle.std.proofs.Common.{◌≡◌, ◌∙◌, sym, subst, refl, arith, List, ◌++◌}
use Rattle.std.specs.Prelude.{All, Err, Ok}
use Rattle.std.specs.Vec.{with_items}
use Rattle.std.proofs.lemmas.List.{with_items_is}
use Rattle.std.proofs.lemmas.Result.{err_from_is_err_and}
use Rattle.cell_object.specs.Sound.{IsSoundObject}
use Rattle.cell_world.specs.declared.state.NewCell.{NewCell}
use Rattle.cell_target.specs.Scene.{AreCells, seen}
use Rattle.cell_load.specs.Linking.{CanLink, LinksAll}
use Rattle.cell_load.specs.Places.{Stands}
use Rattle.cell_load.proofs.Stagings.{are_cells, can_link_all, landed, link_failed, place_failed, sound}
use Rattle.cell_load.proofs.landing.land.Goals as goal

pub place-requires : goal.place-requires
place-requires c =
    subst (λ (cells : List NewCell). All (λ c. IsSoundObject c.object) cells) (sym c.deref_mut.ensures.value) (sound c.args.machine.now c.args.gathered c.requires c.args.extra)

pub returns-in_err-space : goal.returns-in_err-space
returns-in_err-space c =
    let p = err_from_is_err_and c.from_residual.result c.from_residual.ensures.1 in
    rw (p.1, p.2)
    (place_failed c.args.machine.now c.args.gathered c.requires c.args.extra c.in_err-space.field-0.0 c.place.new.cells
    (subst (λ (cells : List NewCell). Stands c.args.machine.now.space cells c.args.extra (Err c.in_err-space.field-0.0) c.place.new.cells) c.deref_mut.ensures.value (c.in_err-space.ensures {u = tt})))

pub link_among-requires-clause-cells : goal.link_among-requires-clause-cells
link_among-requires-clause-cells c =
    let now : (with_items c.args.gathered.cells c.place.new.cells).items ≡ c.place.new.cells = with_items_is c.args.gathered.cells c.place.new.cells (omega (arith, c.place.auto.cells, c.deref_mut.ensures.len)) in
    let stand = subst (λ (cells : List NewCell). Stands c.args.machine.now.space cells c.args.extra (Ok (c.in_ok-space.space, c.in_ok-space.taken)) c.place.new.cells) c.deref_mut.ensures.value (c.in_ok-space.ensures {u = tt}) in
    subst (λ (cells : List NewCell). AreCells (c.args.gathered.ahead.cells) (c.args.machine.now.cells.items ++ cells)) (sym (c.deref.ensures.value ∙ now))
    (are_cells c.args.machine.now c.args.gathered c.requires c.args.extra c.in_ok-space.space c.in_ok-space.taken c.place.new.cells stand)

pub link_among-requires-clause-can : goal.link_among-requires-clause-can
link_among-requires-clause-can c =
    let now : (with_items c.args.gathered.cells c.place.new.cells).items ≡ c.place.new.cells = with_items_is c.args.gathered.cells c.place.new.cells (omega (arith, c.place.auto.cells, c.deref_mut.ensures.len)) in
    let stand = subst (λ (cells : List NewCell). Stands c.args.machine.now.space cells c.args.extra (Ok (c.in_ok-space.space, c.in_ok-space.taken)) c.place.new.cells) c.deref_mut.ensures.value (c.in_ok-space.ensures {u = tt}) in
    subst (λ (cells : List NewCell). All (CanLink c.args.machine.now.spaces.namespaces) cells) (sym (c.deref.ensures.value ∙ now))
    (can_link_all c.args.machine.now c.args.gathered c.requires c.args.extra c.in_ok-space.space c.in_ok-space.taken c.place.new.cells stand)

pub returns-in_err-linked : goal.returns-in_err-linked
returns-in_err-linked c =
    let p = err_from_is_err_and c.from_residual-in_err-linked.result c.from_residual-in_err-linked.ensures.1 in
    let now : (with_items c.args.gathered.cells c.place.new.cells).items ≡ c.place.new.cells = with_items_is c.args.gathered.cells c.place.new.cells (omega (arith, c.place.auto.cells, c.deref_mut.ensures.len)) in
    let stand = subst (λ (cells : List NewCell). Stands c.args.machine.now.space cells c.args.extra (Ok (c.in_ok-space.space, c.in_ok-space.taken)) c.place.new.cells) c.deref_mut.ensures.value (c.in_ok-space.ensures {u = tt}) in
    let links = subst (λ (cells : List NewCell). LinksAll (seen c.args.machine.now.spaces.namespaces (c.args.machine.now.cells.items ++ cells) (c.args.gathered.ahead.cells)) cells (Err c.in_err-linked.field-0.0)) (c.deref.ensures.value ∙ now) (c.in_err-linked.ensures {u = tt}) in
    rw (p.1, p.2)
    (link_failed c.args.machine.now c.args.gathered c.requires c.args.extra c.in_ok-space.space c.in_ok-space.taken c.place.new.cells stand c.in_err-linked.field-0.0 links)

pub returns : goal.returns
returns c =
    let now : (with_items c.args.gathered.cells c.place.new.cells).items ≡ c.place.new.cells = with_items_is c.args.gathered.cells c.place.new.cells (omega (arith, c.place.auto.cells, c.deref_mut.ensures.len)) in
    let stand = subst (λ (cells : List NewCell). Stands c.args.machine.now.space cells c.args.extra (Ok (c.in_ok-space.space, c.in_ok-space.taken)) c.place.new.cells) c.deref_mut.ensures.value (c.in_ok-space.ensures {u = tt}) in
    let links = subst (λ (cells : List NewCell). LinksAll (seen c.args.machine.now.spaces.namespaces (c.args.machine.now.cells.items ++ cells) (c.args.gathered.ahead.cells)) cells (Ok c.in_ok-linked.linked)) (c.deref.ensures.value ∙ now) (c.in_ok-linked.ensures {u = tt}) in
    landed c.args.machine.now c.args.gathered c.requires c.args.extra c.in_ok-space.space c.in_ok-space.taken c.place.new.cells stand c.in_ok-linked.linked links _ refl now refl refl refl refl refl
