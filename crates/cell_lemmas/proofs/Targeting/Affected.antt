-- What changes when cells come and leave, changes in the cells that await a name which comes and in those with a link into a cell that leaves or yields.
use Rattle.std.proofs.Common.{◌≡◌, refl, ◌∙◌, ap, ℕ, inl, inr, Bool, true, false, cond, not, ◌&&◌, List, [], ◌∷◌, ◌++◌, map, Option, Some, None}
use Rattle.std.specs.Prelude.{filter, filter_map, flat_map, option_map}
use Rattle.std.proofs.lemmas.Bool.{or_parts}
use Rattle.cell_num.specs.Lists.{holds, numbered, or_else, In}
use Rattle.cell_object.specs.declared.object.Entry.{Entry}
use Rattle.cell_world.specs.declared.state.LinkRow.{LinkRow}
use Rattle.cell_world.specs.declared.state.Target.{Target}
use Rattle.cell_world.specs.declared.state.Target.TheVariants.{Section, Number}
use Rattle.cell_world.specs.World.{World, Cell, key_of}
use Rattle.cell_world.specs.Linked.Target.{target_of}
use Rattle.cell_world.specs.Linked.Relink.{bound_entries, link_of, link_to}
use Rattle.cell_world.specs.Linked.Field.{fields_of, fits, is_at}
use Rattle.cell_world.specs.Linked.Fit.{overflow_at}
use Rattle.cell_world.specs.Changed.{now_in, differs, is_changed, changed_in, changed_fields, changed_misfit, first_changed_misfit}
use Rattle.cell_lemmas.specs.Targets.{is_target_in}
use Rattle.cell_lemmas.specs.Touched.{awaits, is_affected, links_into, touched}
use Rattle.cell_num.proofs.Elements.{filter_none, In-none, none-In}
use Rattle.cell_lemmas.proofs.Fields.ChangedFits.{unfound_all}
use Rattle.cell_lemmas.proofs.Naming.Lookups.{filter_map-In, has_place}

and_false : (a : Bool) → (a && false) ≡ false
and_false true = refl
and_false false = refl

-- in a cell of which no entry differs nothing changes
module _ (v w : World) (c : Cell) (same : (e : Entry) → In e c.object.entries → differs v w c e ≡ false) where
  none_changed : (f : Entry) → is_changed v w c f ≡ false
  none_changed f = In-none (λ (e : Entry). is_at f e && differs v w c e) c.object.entries (λ e j. ap (λ b. is_at f e && b) (same e j) ∙ and_false (is_at f e))

  pub nothing_changed : changed_in v w c ≡ []
  nothing_changed = ap (map (λ f. record { cell = now_in w c; field = f })) (filter_none (is_changed v w c) (fields_of c.object) (λ f j. none_changed f))

  pub nothing_misfits : changed_misfit v w c ≡ None
  nothing_misfits =
      ap (option_map (overflow_at (now_in w c)))
      (unfound_all (λ b. is_changed v w c b.entry && not (fits (now_in w c).placed (bound_entries w (now_in w c)) b)) (bound_entries w (now_in w c))
      (λ b j. ap (λ x. x && not (fits (now_in w c).placed (bound_entries w (now_in w c)) b)) (none_changed b.entry)))

-- cells in which nothing changes can be passed over
module _ (v w : World) (p : Cell → Bool) where
  pub changed_among : (cells : List Cell) → ((c : Cell) → In c cells → p c ≡ false → changed_in v w c ≡ []) → flat_map (changed_in v w) cells ≡ flat_map (changed_in v w) (filter p cells)
  changed_among [] f = refl
  changed_among (c ∷ cells) f = go (p c) refl (changed_among cells (λ d i. f d (inr i)))
    where
      go : (b : Bool) → p c ≡ b → flat_map (changed_in v w) cells ≡ flat_map (changed_in v w) (filter p cells)
          → changed_in v w c ++ flat_map (changed_in v w) cells ≡ flat_map (changed_in v w) (cond b (c ∷ filter p cells) (filter p cells))
      go true e ih = ap (λ fields. changed_in v w c ++ fields) ih
      go false e ih = ap (λ fields. fields ++ flat_map (changed_in v w) cells) (f c (inl refl) e) ∙ ih

  pub misfit_among : (cells : List Cell) → ((c : Cell) → In c cells → p c ≡ false → changed_misfit v w c ≡ None) → first_changed_misfit v w cells ≡ first_changed_misfit v w (filter p cells)
  misfit_among [] f = refl
  misfit_among (c ∷ cells) f = go (p c) refl (misfit_among cells (λ d i. f d (inr i)))
    where
      go : (b : Bool) → p c ≡ b → first_changed_misfit v w cells ≡ first_changed_misfit v w (filter p cells)
          → or_else (changed_misfit v w c) (first_changed_misfit v w cells) ≡ first_changed_misfit v w (cond b (c ∷ filter p cells) (filter p cells))
      go true e ih = ap (or_else (changed_misfit v w c)) ih
      go false e ih = ap (λ o. or_else o (first_changed_misfit v w cells)) (f c (inl refl) e) ∙ ih

-- a target in one of the cells would have a link
unlinked : (numbers : List ℕ) (v : World) (c : Cell) → links_into numbers v c ≡ false → (e : Entry) → In e c.object.entries → is_target_in numbers (target_of v c e) ≡ false
unlinked numbers v c none e j = go (target_of v c e) refl
  where
    go : (t : Option Target) → target_of v c e ≡ t → is_target_in numbers t ≡ false
    go None q = refl
    go (Some (Number value)) q = refl
    go (Some (Section key offset addr)) q =
        let n : (n : ℕ) × In (n, e) (numbered c.object.entries) = has_place c.object.entries 0 e j in
        let row : LinkRow = record { user = key_of c.id.0 e.section; entry = n.0; target = key } in
        let one : link_of v c (n.0, e) ≡ Some row = ap (λ o. elim o as (λ _. Option LinkRow) [ None ↦ None | Some target ↦ link_to c n.0 e target ]) q in
        none-In (λ (l : LinkRow). holds numbers l.target.cell.0) (filter_map (link_of v c) (numbered c.object.entries)) none row
        (filter_map-In (link_of v c) (numbered c.object.entries) (n.0, e) row n.1 one)

module _ (v w : World) (old : List ℕ) (comers : List Cell)
    (stays : (c : Cell) → In c v.cells → awaits comers c ≡ false → (e : Entry) → In e c.object.entries → is_target_in (touched v old comers) (target_of v c e) ≡ false → differs v w c e ≡ false) where
  left_alone : (c : Cell) → In c v.cells → is_affected v old comers c ≡ false → (e : Entry) → In e c.object.entries → differs v w c e ≡ false
  left_alone c i a e j =
      let parts = or_parts (awaits comers c) (links_into (touched v old comers) v c) a in
      stays c i parts.0 e j (unlinked (touched v old comers) v c parts.1 e j)

  pub enough_fields : changed_fields v w ≡ flat_map (changed_in v w) (filter (is_affected v old comers) v.cells)
  enough_fields = changed_among v w (is_affected v old comers) v.cells (λ c i a. nothing_changed v w c (left_alone c i a))

  pub enough_misfits : first_changed_misfit v w v.cells ≡ first_changed_misfit v w (filter (is_affected v old comers) v.cells)
  enough_misfits = misfit_among v w (is_affected v old comers) v.cells (λ c i a. nothing_misfits v w c (left_alone c i a))
