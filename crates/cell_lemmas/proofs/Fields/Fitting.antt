-- Where no new cell has a misfit, each of them fits.
use Rattle.std.proofs.Common.{◌≡◌, sym, ap, subst, inl, inr, true, List, [], ◌∷◌, None}
use Rattle.std.specs.Prelude.{is_none}
use Rattle.cell_world.specs.World.{World, Cell}
use Rattle.cell_world.specs.Linked.Relink.{bound_entries}
use Rattle.cell_world.specs.Linked.Field.{misfit_of}
use Rattle.cell_world.specs.Linked.Fit.{first_misfit, misfit_in, overflow_at}
use Rattle.cell_world.specs.Coherent.{is_fitting}
use Rattle.cell_num.specs.Lists.{In}
use Rattle.cell_num.proofs.Elements.{or_else_parts}
use Rattle.cell_lemmas.proofs.Naming.Appended.{unmapped}

misfits_none : (w : World) (cells : List Cell) → first_misfit w cells ≡ None → (c : Cell) → In c cells → misfit_in w c ≡ None
misfits_none w [] h c k = absurd k
misfits_none w (d ∷ cells) h c (inl e) = subst (λ (x : Cell). misfit_in w x ≡ None) (sym e) (or_else_parts _ _ h).0
misfits_none w (d ∷ cells) h c (inr k) = misfits_none w cells (or_else_parts _ _ h).1 c k

pub new_fits : (w : World) (new : List Cell) → first_misfit w new ≡ None → (c : Cell) → In c new → is_fitting w c ≡ true
new_fits w new h c n = ap is_none (unmapped (overflow_at c) (misfit_of c.placed (bound_entries w c)) (misfits_none w new h c n))
