-- The steps that make a new cell.
use Rattle.std.proofs.Common.{◌≡◌, refl, sym, ◌∙◌, ap, ℕ, ◌+◌, List, [], ◌∷◌}
use Rattle.std.specs.Prelude.{Option, Ok, option_map}
use Rattle.cell_num.specs.Lists.{or_else}
use Rattle.cell_object.specs.declared.object.Object.{Object}
use Rattle.cell_world.specs.declared.file.File.{File}
use Rattle.cell_world.specs.declared.refusal.Refusal.{Refusal}
use Rattle.cell_world.specs.declared.state.Namespace.{Namespace}
use Rattle.cell_world.specs.declared.state.NewCell.{NewCell}
use Rattle.cell_world.specs.Gather.{source_of, stem_of_file, object_in, duplicate}
use Rattle.cell_world.specs.Names.{definitions_of}
use Rattle.cell_world.specs.Outcome.{Outcome, ◌>>=◌, ◌>>◌, refused_by}
use Rattle.cell_world.specs.World.{Alias}
use Rattle.cell_space.specs.declared.cell.SpaceCell.{SpaceCell}
use Rattle.cell_space.specs.Named.{clash_stem, clash_name}
use Rattle.cell_space.specs.Spaces.{SpacesState}
use Rattle.cell_world.specs.declared.fail.Fail.{Fail}
use Rattle.cell_gather.specs.Appending.{clash_among_now, stem_free, names_free, room_now, cell_from, append_now}
use Rattle.cell_world.specs.Following.{FailsAs}
use Rattle.cell_gather.proofs.Failing.{then_fails, fails_same}

-- spaces of the same namespaces and cells
module _ (s t : SpacesState) (spaces_same : t.namespaces ≡ s.namespaces) (cells_same : t.cells ≡ s.cells) (ns : ℕ) where
  stem_same : (stem : List ℕ) → clash_stem t.namespaces ns stem t.cells ≡ clash_stem s.namespaces ns stem s.cells
  stem_same stem =
      ap (λ (spaces : List Namespace). clash_stem spaces ns stem t.cells) spaces_same
      ∙ ap (λ (cells : List SpaceCell). clash_stem s.namespaces ns stem cells) cells_same

  name_same : (name : List ℕ) → clash_name t.namespaces ns name t.cells ≡ clash_name s.namespaces ns name s.cells
  name_same name =
      ap (λ (spaces : List Namespace). clash_name spaces ns name t.cells) spaces_same
      ∙ ap (λ (cells : List SpaceCell). clash_name s.namespaces ns name cells) cells_same

  among_same : (names : List Alias) → clash_among_now t ns names ≡ clash_among_now s ns names
  among_same [] = refl
  among_same (a ∷ names) =
      ap (λ (o : Option ℕ). or_else (option_map (duplicate a.name) o) (clash_among_now t ns names)) (name_same a.name)
      ∙ ap (λ (o : Option Refusal). or_else (option_map (duplicate a.name) (clash_name s.namespaces ns a.name s.cells)) o) (among_same names)

  pub free_same : (stem : List ℕ) (names : List Alias) → names_free t ns stem names ≡ names_free s ns stem names
  free_same stem names =
      ap (λ (o : Option ℕ). refused_by (option_map (duplicate stem) o) >> refused_by (clash_among_now t ns names)) (stem_same stem)
      ∙ ap (λ (o : Option Refusal). stem_free s ns stem >> refused_by o) (among_same names)

-- `fresh` cells are new
module _ (s : SpacesState) (present first fresh many : ℕ) (counted : fresh ≡ many) (f : File) (ns : ℕ) where
  abbrev cell_of : Object → Outcome NewCell
  cell_of object = names_free s ns (stem_of_file f.name) (definitions_of object) >> Ok (cell_from (first + many) ns f object)

  abbrev read_cell : Outcome NewCell
  read_cell = object_in (source_of f) >>= cell_of

  abbrev appended : Outcome NewCell
  appended = append_now s (present + many) (first + many) f ns

  room_is : room_now (present + many) (first + many) ≡ room_now (present + fresh) (first + fresh)
  room_is = ap (λ (n : ℕ). room_now (present + n) (first + n)) (sym counted)

  module _ (room : room_now (present + fresh) (first + fresh) ≡ Ok tt) where
    with_room : appended ≡ read_cell
    with_room = ap (λ (o : Outcome (Unit {0})). o >> read_cell) (room_is ∙ room)

    module _ (object : Object) (read : object_in (source_of f) ≡ Ok object) (l : SpacesState) (spaces_same : l.namespaces ≡ s.namespaces) (cells_same : l.cells ≡ s.cells)
        (stem : List ℕ) (stem_is : stem ≡ stem_of_file f.name) (names : List Alias) (named : names ≡ definitions_of object) where
      with_object : appended ≡ cell_of object
      with_object = with_room ∙ ap (λ (o : Outcome Object). o >>= cell_of) read

      free_is : names_free s ns (stem_of_file f.name) (definitions_of object) ≡ names_free l ns stem names
      free_is =
          sym
          (free_same s l spaces_same cells_same ns stem names
          ∙ ap (λ (x : List ℕ). names_free s ns x names) stem_is
          ∙ ap (λ (x : List Alias). names_free s ns (stem_of_file f.name) x) named)

      pub not_free : (fail : Fail) → FailsAs fail (names_free l ns stem names) → FailsAs fail appended
      not_free fail e =
          fails_same fail (cell_of object) appended with_object
          (then_fails fail (names_free s ns (stem_of_file f.name) (definitions_of object)) (Ok (cell_from (first + many) ns f object))
          (fails_same fail (names_free l ns stem names) (names_free s ns (stem_of_file f.name) (definitions_of object)) free_is e))

      pub is_new : (c : NewCell) → names_free l ns stem names ≡ Ok tt → c ≡ cell_from (first + fresh) ns f object → appended ≡ Ok c
      is_new c free is =
          with_object
          ∙ ap (λ (o : Outcome (Unit {0})). o >> Ok (cell_from (first + many) ns f object)) (free_is ∙ free)
          ∙ ap (λ (d : NewCell). Ok d) (ap (λ (n : ℕ). cell_from (first + n) ns f object) (sym counted) ∙ sym is)
