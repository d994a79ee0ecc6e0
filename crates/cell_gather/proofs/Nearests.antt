-- Looking for the nearest file, namespace by namespace.
use Rattle.std.proofs.Common.{◌≡◌, sym, ◌∙◌, ap, ℕ, List, ◌∷◌}
use Rattle.std.specs.Borrow.{Bor}
use Rattle.std.specs.Prelude.{Option, None, Ok, option_map}
use Rattle.cell_world.specs.declared.file.File.{File}
use Rattle.cell_world.specs.declared.state.Namespace.{Namespace}
use Rattle.cell_world.specs.Gather.{Source, source_of, depot_files}
use Rattle.cell_world.specs.Outcome.{Outcome, ◌>>=◌}
use Rattle.cell_gather.specs.Choosing.{one_in, here_or, nearest_now, space_name}

module _ (sources : List Source) (namespaces : List Namespace) (stem : List ℕ) (all left rest : List ℕ) (space : ℕ)
    (far : nearest_now sources namespaces left stem ≡ nearest_now sources namespaces all stem) (steps : left ≡ space ∷ rest) where
  abbrev here : Outcome (Option Source)
  here = one_in (depot_files sources (space_name namespaces space) stem)

  abbrev on : Option Source → Outcome (Option (ℕ × Source))
  on file = here_or space file (nearest_now sources namespaces rest stem)

  step : nearest_now sources namespaces all stem ≡ (here >>= on)
  step = sym far ∙ ap (λ (spaces : List ℕ). nearest_now sources namespaces spaces stem) steps

  pub nearest_on : here ≡ Ok None → nearest_now sources namespaces rest stem ≡ nearest_now sources namespaces all stem
  nearest_on e = sym (step ∙ ap (λ (o : Outcome (Option Source)). o >>= on) e)

pub nothing_there : (o : Option (Bor File)) (r : Outcome (Option Source)) → o ≡ None → r ≡ Ok (option_map (λ f. source_of f.now) o) → r ≡ Ok None
nothing_there o r none e = e ∙ ap (λ (x : Option (Bor File)). Ok (option_map (λ f. source_of f.now) x)) none
