use Rattle.std.proofs.Common.{ap, refl, subst, sym, List, ◌∙◌}
use Rattle.std.proofs.lemmas.Result.{err_from_is_err_and}
use Rattle.cell_world.specs.declared.line.DumpLine.{DumpLine}
use Rattle.cell_relinked.specs.Scene.{seen_in, world_of}
use Rattle.cell_compared.specs.Left.{left}
use Rattle.cell_compared.specs.Walk.{Walks, walk}
use Rattle.cell_compared.proofs.Pieces.{names_aside, names_attached}
use Rattle.cell_compared.proofs.Walking.{fails_same, walk_fails, walk_none, walks_both}
use Rattle.cell_compared.proofs.name_lines.compare_names_of.Goals as goal

pub compare_definitions-requires-clause-asked : goal.compare_definitions-requires-clause-asked
compare_definitions-requires-clause-asked c = record { are = c.in_ok-sights.ensures.are; group = c.in_ok-sights.ensures.group; spaces = c.in_ok-sights.ensures.spaces ∙ (c.deref.ensures.value ∙ c.in_ok-spaces.ensures) }

pub compare_further-requires-clause-asked : goal.compare_further-requires-clause-asked
compare_further-requires-clause-asked c = record { are = c.in_ok-sights.ensures.are; group = c.in_ok-sights.ensures.group; spaces = c.in_ok-sights.ensures.spaces ∙ (c.deref.ensures.value ∙ c.in_ok-spaces.ensures) }

pub returns-then-is_some : goal.returns-then-is_some
returns-then-is_some c =
    let w = world_of c.args.scene.now in
    let cell = seen_in c.args.scene.now c.args.cell.now in
    ap (walk (left c.args.cursor.now)) (names_aside w cell c.args.cell.now.group refl (sym c.is_some.ensures ∙ c.if-is_some.true)) ∙ walk_none (left c.args.cursor.now)

pub returns-in_err-compare_definitions : goal.returns-in_err-compare_definitions
returns-in_err-compare_definitions c =
    let p = err_from_is_err_and c.from_residual-in_err-compare_definitions.result c.from_residual-in_err-compare_definitions.ensures.1 in
    let w = world_of c.args.scene.now in
    let cell = seen_in c.args.scene.now c.args.cell.now in
    rw (p.1, p.2)
    (fails_same c.in_err-compare_definitions.field-0.0 _ _ (ap (walk (left c.args.cursor.now)) (sym (names_attached w cell c.args.cell.now.group refl (sym c.is_some.ensures ∙ c.if-is_some.false))))
    (walk_fails c.in_err-compare_definitions.field-0.0 (left c.args.cursor.now) _ _ c.in_err-compare_definitions.ensures))

pub returns : goal.returns
returns c =
    let w = world_of c.args.scene.now in
    let cell = seen_in c.args.scene.now c.args.cell.now in
    subst (λ (ls : List DumpLine). Walks (left c.args.cursor.now) ls (left c.compare_further.new.cursor) c.compare_further.result) (sym (names_attached w cell c.args.cell.now.group refl (sym c.is_some.ensures ∙ c.if-is_some.false)))
    (walks_both (left c.args.cursor.now) (left c.compare_definitions.new.cursor) (left c.compare_further.new.cursor) _ _ c.compare_further.result c.in_ok-compare_definitions.ensures c.compare_further.ensures)
