-- The regions of a machine, counted.
use Rattle.std.proofs.Common.{◌≡◌, refl, ap, arith, suc, ◌+◌, Bool, true, false, cond, List, [], ◌∷◌, ◌++◌, map, length}
use Rattle.std.specs.Prelude.{flat_map, fold, nat_lt}
use Rattle.std.proofs.lemmas.List.{length-append, length-map}
use Rattle.cell_world.specs.Coherent.{IsCoherent, Shape, shape_of, stack_shape, with_shape}
use Rattle.cell_world.specs.World.{World}
use Rattle.cell_machine.specs.Does.{cell_shapes}

shape_more : (s : Shape) (shapes : List Shape) → length (with_shape s shapes) ≡ suc (length shapes)
shape_more s [] = refl
shape_more s (t ∷ shapes) = go (nat_lt s.start t.start) (shape_more s shapes)
  where
    go : (b : Bool) → length (with_shape s shapes) ≡ suc (length shapes) → length (cond b (s ∷ t ∷ shapes) (t ∷ with_shape s shapes)) ≡ suc (suc (length shapes))
    go true e = refl
    go false e = ap suc e

shapes_more : (new shapes : List Shape) → length (fold (λ shapes s. with_shape s shapes) shapes new) ≡ length new + length shapes
shapes_more [] shapes = omega arith
shapes_more (s ∷ new) shapes = let rest = shapes_more new (with_shape s shapes) in let one = shape_more s shapes in omega (arith, rest, one)

-- a machine has a region for each class of its cells that has a section, and one for each task
pub regions_counted : (w : World) → IsCoherent w → length w.regions ≡ length (flat_map cell_shapes w.cells) + length w.tasks
regions_counted w h =
    let seen = length-map w.regions shape_of in
    let wanted = ap length h.ready.regions in
    let all = shapes_more (flat_map cell_shapes w.cells ++ map stack_shape w.tasks) [] in
    let parts = length-append (flat_map cell_shapes w.cells) (map stack_shape w.tasks) in
    let stacks = length-map w.tasks stack_shape in
    omega (arith, seen, wanted, all, parts, stacks)
