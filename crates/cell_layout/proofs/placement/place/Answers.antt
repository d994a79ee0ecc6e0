use Rattle.std.proofs.Common.{◌∙◌, ◌≤◌, length, sym, subst}
use Rattle.std.specs.Prelude.{List}
use Rattle.std.proofs.lemmas.Result.{err_from_is_err_and}
use Rattle.cell_object.specs.declared.object.Section.{Section}
use Rattle.cell_layout.specs.Layout.{AreEnds}
use Rattle.cell_layout.proofs.Placings.{all_taken_is, places_low}
use Rattle.cell_layout.proofs.placement.place.Goals as goal

pub returns-in_err-starts : goal.returns-in_err-starts
returns-in_err-starts c =
    let o = c.args.object.now in
    let are = subst (AreEnds c.in_ok-layout.layout.ends) c.as_slice.ensures (c.in_ok-layout.ensures {u = tt}).ends in
    let p = err_from_is_err_and c.from_residual-in_err-starts.result c.from_residual-in_err-starts.ensures.1 in
    rw (p.1, p.2) (sym (all_taken_is o c.requires c.in_ok-layout.layout.ends are c.args.space.now.base c.args.space.now.taken) ∙ (c.in_err-starts.ensures {u = tt}).runs)

pub places-requires-clause-low : goal.places-requires-clause-low
places-requires-clause-low c = λ s i.
    let o = c.args.object.now in
    let are = subst (AreEnds c.in_ok-layout.layout.ends) c.as_slice.ensures (c.in_ok-layout.ensures {u = tt}).ends in
    places_low o c.requires c.in_ok-layout.layout.ends are (c.in_ok-layout.ensures {u = tt}).small c.in_ok-starts.starts (c.in_ok-starts.ensures {u = tt}).small s i

pub returns : goal.returns
returns c =
    let o = c.args.object.now in
    let are = subst (AreEnds c.in_ok-layout.layout.ends) c.as_slice.ensures (c.in_ok-layout.ensures {u = tt}).ends in
    let runs = (c.in_ok-starts.ensures {u = tt}).runs in
    record {
      starts = c.in_ok-starts.starts;
      runs = sym (all_taken_is o c.requires c.in_ok-layout.layout.ends are c.args.space.now.base c.args.space.now.taken) ∙ runs.0;
      base = runs.1;
      few = subst (λ (ss : List Section). length ss ≤ 65536) c.as_slice.ensures (c.in_ok-layout.ensures {u = tt}).few;
      places = c.from_vec.ensures ∙ c.in_ok-places.ensures;
      regions = c.in_ok-regions.ensures;
    }
