-- Bringing one cell, as the definitions say it of a machine and as the spaces do.
use Rattle.std.proofs.Common.{◌≡◌, refl, ◌∙◌, ap, ℕ, Bool, true, false, List, [], ◌∷◌, map}
use Rattle.std.specs.Prelude.{Option, Some, None, Ok, Err, not, ◌&&◌, ◌||◌}
use Rattle.cell_num.specs.Lists.{holds, equals}
use Rattle.cell_world.specs.declared.refusal.Refusal.{Refusal}
use Rattle.cell_world.specs.declared.state.Namespace.{Namespace}
use Rattle.cell_world.specs.World.{World, Cell, is_attached}
use Rattle.cell_world.specs.Names.{chain, crate_of, has_stem_by, of_cell}
use Rattle.cell_world.specs.Gather as gather
use Rattle.cell_world.specs.Gather.{Source, Need, depot_files, name_of_ns, one_file, nearest_file, bring_one, append_cell, missing}
use Rattle.cell_world.specs.Outcome.{Outcome, ◌>>=◌, ◌>>◌, need, found}
use Rattle.cell_space.specs.Machine.{called}
use Rattle.cell_space.specs.Spaces.{SpacesState}
use Rattle.cell_gather.specs.Choosing.{one_in, here_or, nearest_now, space_name, lacking, choose_now}
use Rattle.cell_gather.specs.Gathering.{IsOf}
use Rattle.cell_space.specs.Ahead.{has_stem_in}

any_called : (spaces stem : List ℕ) (cells : List Cell) → has_stem_by of_cell spaces stem cells ≡ has_stem_in spaces stem (map called cells)
any_called spaces stem [] = refl
any_called spaces stem (c ∷ cells) =
    ap (λ b. is_attached c.standing && holds spaces c.ns && equals c.stem stem || b) (any_called spaces stem cells)

abbrev pub source_or : Refusal → Option (ℕ × Source) → Outcome (ℕ × Source)
source_or lack o = found o lack

-- the depot's files, or what is further up
abbrev pub depot_or : Refusal → ℕ → List Source → Outcome (ℕ × Source) → Outcome (ℕ × Source)
depot_or lack ns sources rest =
    elim sources as (λ _. Outcome (ℕ × Source)) [ [] ↦ rest | f ∷ files ↦ one_file (f ∷ files) lack >>= (λ file. let p : ℕ × Source = (ns, file) in Ok p) ]

here : (lack : Refusal) (ns : ℕ) (chosen : List Source) (rest : Outcome (ℕ × Source)) (more : Outcome (Option (ℕ × Source))) → rest ≡ (more >>= source_or lack)
    → depot_or lack ns chosen rest ≡ (one_in chosen >>= (λ file. here_or ns file more) >>= source_or lack)
here lack ns [] rest more e = e
here lack ns (f ∷ []) rest more e = refl
here lack ns (f ∷ g ∷ files) rest more e = refl

module _ (sources : List Source) (s : SpacesState) (next : ℕ) (u : World) (is : IsOf s next u) where
  name_is : (ns : ℕ) → name_of_ns u ns ≡ space_name s.namespaces ns
  name_is ns = ap (λ (spaces : List Namespace). space_name spaces ns) is.namespaces

  nearest_is : (spaces stem : List ℕ) (lack : Refusal) → nearest_file u sources spaces stem lack ≡ (nearest_now sources s.namespaces spaces stem >>= source_or lack)
  nearest_is [] stem lack = refl
  nearest_is (ns ∷ spaces) stem lack =
      ap (λ found. depot_or lack ns found (nearest_file u sources spaces stem lack))
      (ap (λ name. depot_files sources name stem) (name_is ns))
      ∙ here lack ns (depot_files sources (space_name s.namespaces ns) stem) (nearest_file u sources spaces stem lack) (nearest_now sources s.namespaces spaces stem) (nearest_is spaces stem lack)

  module _ (c : Cell) (name : List ℕ) where
    abbrev lack : Need
    lack = record { cell = c; name = name }

    abbrev brought : ℕ × Source → Outcome World
    brought p = append_cell u p.1 p.0

    last_step : (lacks : Refusal) (o : Outcome (Option (ℕ × Source))) → (o >>= source_or lacks >>= (λ file. append_cell u file.1 file.0)) ≡ (o >>= (λ file. found file lacks) >>= brought)
    last_step lacks (Ok None) = refl
    last_step lacks (Ok (Some p)) = refl
    last_step lacks (Err r) = refl

    need_bind : (b : Bool) (r : Refusal) (o : Outcome (ℕ × Source)) → (need b r >> (o >>= brought)) ≡ (need b r >> o >>= brought)
    need_bind true r o = refl
    need_bind false r o = refl

    stem_step : (spaces stem : List ℕ)
        → (need (not (gather.has_stem_in u spaces stem)) (missing lack) >> (nearest_file u sources spaces stem (missing lack) >>= (λ file. append_cell u file.1 file.0)))
        ≡ (need (not (has_stem_in spaces stem s.cells)) (lacking name c.id) >> (nearest_now sources s.namespaces spaces stem >>= (λ file. found file (lacking name c.id))) >>= brought)
    stem_step spaces stem =
        ap (λ b. need (not b) (missing lack) >> (nearest_file u sources spaces stem (missing lack) >>= (λ file. append_cell u file.1 file.0)))
        (any_called spaces stem u.cells ∙ ap (has_stem_in spaces stem) is.cells)
        ∙ ap (λ o. need (not (has_stem_in spaces stem s.cells)) (missing lack) >> o)
        (ap (λ o. o >>= (λ file. append_cell u file.1 file.0)) (nearest_is spaces stem (missing lack)) ∙ last_step (missing lack) (nearest_now sources s.namespaces spaces stem))
        ∙ need_bind (not (has_stem_in spaces stem s.cells)) (lacking name c.id) (nearest_now sources s.namespaces spaces stem >>= (λ file. found file (lacking name c.id)))

    crate_step : (spaces : List ℕ) (crate : Option (List ℕ))
        → (found crate (missing lack) >>= (λ stem. need (not (gather.has_stem_in u spaces stem)) (missing lack) >> (nearest_file u sources spaces stem (missing lack) >>= (λ file. append_cell u file.1 file.0))))
        ≡ (found crate (lacking name c.id) >>= (λ stem. need (not (has_stem_in spaces stem s.cells)) (lacking name c.id) >> (nearest_now sources s.namespaces spaces stem >>= (λ file. found file (lacking name c.id)))) >>= brought)
    crate_step spaces None = refl
    crate_step spaces (Some stem) = stem_step spaces stem

    -- choosing the file, and appending its cell
    pub bring_is : bring_one sources u lack ≡ (choose_now sources s c.ns c.id name >>= brought)
    bring_is =
        ap (λ (namespaces : List Namespace). found (crate_of name) (missing lack) >>= (λ stem. need (not (gather.has_stem_in u (chain namespaces c.ns) stem)) (missing lack) >> (nearest_file u sources (chain namespaces c.ns) stem (missing lack) >>= (λ file. append_cell u file.1 file.0)))) is.namespaces
        ∙ crate_step (chain s.namespaces c.ns) (crate_of name)
