-- What the entries of cells that stay name after a whole swap: what they named when all was linked.
use Rattle.std.proofs.Common.{◌≡◌, sym, ◌∙◌, ap, subst, List, [], ◌∷◌, inl, inr, map, Option}
use Rattle.std.specs.Prelude.{unwrap_or}
use Rattle.cell_num.specs.Lists.{In}
use Rattle.cell_world.specs.World.{World, Cell, cell_of}
use Rattle.cell_world.specs.Changed.{now_in}
use Rattle.cell_world.specs.Coherent.{IsCoherent}
use Rattle.cell_lemmas.proofs.Targeting.Targets.{In-find}

pub mapped_same : {X Y : Type 0} (f g : X → Y) (xs : List X) → map f xs ≡ map g xs → (x : X) → In x xs → f x ≡ g x
mapped_same f g [] e x i = absurd i
mapped_same f g (y ∷ xs) e x (inl q) = subst (λ z. f z ≡ g z) (sym q) cc
mapped_same f g (y ∷ xs) e x (inr i) = let rest : map f xs ≡ map g xs = cc in mapped_same f g xs rest x i

-- in a coherent machine the number finds the cell
pub found_now : (w : World) → IsCoherent w → (c x : Cell) → In x w.cells → c.id.0 ≡ x.id.0 → now_in w c ≡ x
found_now w h c x i e = ap (λ (o : Option Cell). unwrap_or o c) (ap (cell_of w) e ∙ In-find w.cells h.ready.cell_order x i)
