-- The file that brings a name, by what the spaces say of the machine.
--     nearest_now sources s spaces stem      the one file of the first namespace whose depot has one
--     one_in files                           the one file of a depot, or none
--     choose_now sources s ns id name        the namespace and the file that bring the need of a cell, or the refusal
use Rattle.std.specs.Prelude.{ℕ, not, List, [], ◌∷◌, Option, Some, None, Ok, Err, slice_get}
use Rattle.cell_num.specs.declared.ids.CellId.{CellId}
use Rattle.cell_world.specs.declared.refusal.Refusal.{Refusal}
use Rattle.cell_world.specs.declared.refusal.Refusal.TheVariants.{Ambiguous, Missing}
use Rattle.cell_world.specs.declared.state.Namespace.{Namespace}
use Rattle.cell_world.specs.Gather.{Source, depot_files}
use Rattle.cell_world.specs.Names.{chain, crate_of}
use Rattle.cell_world.specs.Outcome.{Outcome, ◌>>=◌, ◌>>◌, need, found}
use Rattle.cell_space.specs.Spaces.{SpacesState}
use Rattle.cell_space.specs.Ahead.{has_stem_in}

abbrev pub space_name : List Namespace → ℕ → List ℕ
space_name spaces ns = elim (slice_get spaces ns) [ None ↦ [] | Some space ↦ space.name ]

-- the one file, where there is one; several are refused
abbrev pub one_in : List Source → Outcome (Option Source)
one_in [] = Ok None
one_in (f ∷ []) = Ok (Some f)
one_in (f ∷ g ∷ files) = Err (Ambiguous f.name g.name)

abbrev pub here_or : ℕ → Option Source → Outcome (Option (ℕ × Source)) → Outcome (Option (ℕ × Source))
here_or ns None rest = rest
here_or ns (Some f) rest = Ok (Some (ns, f))

abbrev pub nearest_now : List Source → List Namespace → List ℕ → List ℕ → Outcome (Option (ℕ × Source))
nearest_now sources namespaces [] stem = Ok None
nearest_now sources namespaces (ns ∷ spaces) stem =
    one_in (depot_files sources (space_name namespaces ns) stem) >>= (λ file. here_or ns file (nearest_now sources namespaces spaces stem))

abbrev pub lacking : List ℕ → CellId → Refusal
lacking name id = Missing name id

abbrev pub choose_now : List Source → SpacesState → ℕ → CellId → List ℕ → Outcome (ℕ × Source)
choose_now sources s ns id name = do
  stem ← found (crate_of name) (lacking name id)
  need (not (has_stem_in (chain s.namespaces ns) stem s.cells)) (lacking name id)
  file ← nearest_now sources s.namespaces (chain s.namespaces ns) stem
  found file (lacking name id)
