-- The change that a load asks for.
--     Adds ns file change      it adds a cell of that file in that namespace, and no more
use Rattle.std.specs.Prelude.{◌≡◌, ℕ, false, List, [], ◌∷◌, None}
use Rattle.cell_change.specs.declared.request.Ending.TheVariants.{Lenient}
use Rattle.cell_change.specs.declared.request.Change.{Change}

pub record Adds (ns : ℕ) (file : List ℕ) (change : Change) : Type 0 where
  pub wants : change.wants.items ≡ record { ns = ns; file = file; replaces = None } ∷ []
  pub replaced : change.replaced.items ≡ []
  pub copies : change.copies.items ≡ []
  pub reexport : change.options.reexport ≡ false
  pub routines : change.options.routines.now ≡ []
  pub budget : change.options.budget ≡ 0
  pub ending : change.options.ending ≡ Lenient
