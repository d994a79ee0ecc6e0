-- Where no cell has a WEAK symbol, a change changes what was in a replaced cell, in the others, and nothing else.
use Rattle.std.proofs.Common.{◌≡◌, refl, sym, ◌∙◌, ap, ap₂, false, true, not, ◌&&◌, List, [], ℕ, Some, None, Ok}
use Rattle.std.specs.Prelude.{filter, flat_map}
use Rattle.cell_num.specs.Lists.{holds, or_else, In}
use Rattle.cell_object.specs.declared.object.Entry.{Entry}
use Rattle.cell_world.specs.declared.state.Target.{Target}
use Rattle.cell_world.specs.declared.state.Target.TheVariants.{Section, Number}
use Rattle.cell_world.specs.World.{World, Cell, is_ready}
use Rattle.cell_world.specs.Linked.Target.{target_of}
use Rattle.cell_world.specs.Placed.Place.{place_all}
use Rattle.cell_world.specs.Linked.Fit.{first_misfit}
use Rattle.cell_world.specs.Gather.{Source, fresh_cells}
use Rattle.cell_world.specs.Changed.{changed_fields, changed_in, differs, first_changed_misfit}
use Rattle.cell_world.specs.Torn.{first_torn}
use Rattle.cell_world.specs.Linked.Linking.{link_refusal}
use Rattle.cell_world.specs.Coherent.{AreSound, IsCoherent, is_supplied}
use Rattle.cell_lemmas.specs.Firm.{firm_target}
use Rattle.cell_lemmas.specs.Targets.{is_target_in}
use Rattle.cell_object.specs.Parts.{has_no_weak}
use Rattle.cell_num.proofs.Elements.{Has, all-In, filter_none}
use Rattle.cell_lemmas.proofs.Targeting.Affected.{changed_among, misfit_among, nothing_changed, nothing_misfits}
use Rattle.cell_lemmas.proofs.Naming.Known.{object_sound}
use Rattle.cell_lemmas.proofs.Targeting.Plain.{all_firm, decide, none_torn, or_none}
use Rattle.cell_lemmas.proofs.Targeting.Targets.{target_has}
use Rattle.cell_world.specs.Change.{Change, old_of, gather, first_uncovered}
use Rattle.cell_change_law.specs.Sound.{IsSound}
use Rattle.cell_change_law.proofs.Lost.{firm_stays, lost_differs, own_firm_stays}

module _ (sources : List Source) (sound : AreSound sources) (v : World) (h : IsCoherent v) (asked : Change) (good : IsSound sources v asked) (g : World) (gathering : gather sources v asked ≡ Ok g) (w : World)
    (placing : place_all g (fresh_cells v.next_cell g) ≡ Ok w) (covered : first_uncovered v asked g ≡ None) (plain : (c : Cell) → In c v.cells → has_no_weak c.object ≡ true) where
  pub lost_alone : (c : Cell) → In c v.cells → (e : Entry) → In e c.object.entries
      → differs v w c e ≡ (not (holds (old_of asked) c.id.0) && is_target_in (old_of asked) (target_of v c e))
  lost_alone c i e j =
      let had : Has (target_of v c e) = target_has v h.ready.cell_order h.ready.cells c (object_sound v h.ready.objects c i) (all-In (is_supplied v) v.cells h.ready.supplied c i) e j in
      let firm : firm_target v c e ≡ Some had.0 = all_firm v plain c i e ∙ had.1 in
      decide (holds (old_of asked) c.id.0) (is_target_in (old_of asked) (target_of v c e)) (differs v w c e)
      (λ q. own_firm_stays sources sound v h asked good g gathering w placing covered c i e q had.0 firm)
      (λ q t. lost_differs sources sound v h asked good g gathering w placing covered c i e q t)
      (λ q t. firm_stays sources sound v h asked good g gathering w placing covered c i e q had.0 firm (sym (ap (is_target_in (old_of asked)) had.1) ∙ t))

  -- where none is replaced nothing changes
  module _ (none : old_of asked ≡ []) where
    in_none : (c : Cell) → In c v.cells → (e : Entry) → In e c.object.entries → differs v w c e ≡ false
    in_none c i e j =
        let had : Has (target_of v c e) = target_has v h.ready.cell_order h.ready.cells c (object_sound v h.ready.objects c i) (all-In (is_supplied v) v.cells h.ready.supplied c i) e j in
        lost_alone c i e j ∙ (ap (λ (ns : List ℕ). not (holds ns c.id.0) && is_target_in ns (target_of v c e)) none ∙ (ap (is_target_in []) had.1 ∙ out had.0))
      where
        out : (t : Target) → is_target_in [] (Some t) ≡ false
        out (Section key offset addr) = refl
        out (Number value) = refl

    pub nothing_changes : changed_fields v w ≡ []
    nothing_changes =
        changed_among v w (λ c. false) v.cells (λ c i a. nothing_changed v w c (in_none c i))
        ∙ ap (flat_map (changed_in v w)) (filter_none (λ (c : Cell). false) v.cells (λ c i. refl))

    none_misfits : first_changed_misfit v w v.cells ≡ None
    none_misfits =
        misfit_among v w (λ c. false) v.cells (λ c i a. nothing_misfits v w c (in_none c i))
        ∙ ap (first_changed_misfit v w) (filter_none (λ (c : Cell). false) v.cells (λ c i. refl))

    pub new_alone : link_refusal v w ≡ first_misfit w (fresh_cells v.next_cell w)
    new_alone =
        ap₂ (λ a b. or_else (first_misfit w (fresh_cells v.next_cell w)) (or_else a b)) none_misfits
        (ap (λ fields. first_torn fields (filter is_ready v.tasks)) nothing_changes ∙ none_torn (filter is_ready v.tasks))
        ∙ or_none (first_misfit w (fresh_cells v.next_cell w))
