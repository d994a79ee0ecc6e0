-- What changes in cells once the old ones are put aside and the new ones are in their places, as it is read of the parts.
--     View                    the spaces, the links before, and what cells name by now
--     targets_now x c         what each entry of the cell names by now
--     links_before x c        the cell's links before
--     steps_in x c            each entry's link before and by now
--     patches_of x c          its fields that change, by what they hold by now
--     moves_of, backs_of, binds_of, unbinds_of x c   its links that lead elsewhere, the same as they lead before, those that come, and those that go
--     spans_of x c            where no task may stand
--     unfit_of x c            the refusal of its first entry that doesn't fit
--     first_unfit x cells     the first such refusal of the cells
--     Change x cells result   all of it cell by cell, or the refusal
--     MayChange x c           what is asked of a cell
use Rattle.std.specs.Prelude.{◌≡◌, ◌<◌, ◌^◌, ◌==◌, List, [], ◌∷◌, Option, Some, None, Result, Ok, Err, All, filter, flat_map, length, map, option_map}
use Rattle.cell_num.specs.Lists.{or_else}
use Rattle.cell_world.specs.declared.fail.Fail.{Fail}
use Rattle.cell_world.specs.declared.fail.Fail.TheVariants.{Refused, OutOfMemory}
use Rattle.cell_world.specs.declared.refusal.Refusal.{Refusal}
use Rattle.cell_world.specs.declared.state.LinkRow.{LinkRow}
use Rattle.cell_world.specs.declared.state.NewCell.{NewCell}
use Rattle.cell_world.specs.declared.state.Target.{Target}
use Rattle.cell_world.specs.World.{World, attached}
use Rattle.cell_world.specs.Linked.Field.{misfit_of}
use Rattle.cell_world.specs.Linked.Fit.{overflow_at}
use Rattle.cell_world.specs.Linked.Target.{targets_of}
use Rattle.cell_lemmas.specs.LinkSteps.{LinkStep, binds, moves, unbinds}
use Rattle.cell_commit.specs.Rewiring.{backs}
use Rattle.cell_link.specs.declared.value.FieldValue.{FieldValue}
use Rattle.cell_link.specs.Linked.{bound_in, value_at}
use Rattle.cell_placed.specs.Low.{IsLow}
use Rattle.cell_space.specs.Spaces.{SpacesState, HasCell}
use Rattle.cell_plan.specs.declared.changed.Changed.{Changed}
use Rattle.cell_plan.specs.declared.span.Span.{Span}
use Rattle.cell_plan.specs.Steps.{changed_fields, steps_of}
use Rattle.cell_plan.specs.Coverage.{as_it_stands}
use Rattle.cell_plan.specs.Spans.{span_in}

pub record View : Type 0 where
  pub spaces : SpacesState
  pub links : List LinkRow
  pub now : World

abbrev pub targets_now : View → NewCell → List Target
targets_now x c = targets_of x.now (as_it_stands x.spaces c)

abbrev pub links_before : View → NewCell → List LinkRow
links_before x c = filter (λ l. l.user.cell.0 == c.id.0) x.links

abbrev pub steps_in : View → NewCell → List LinkStep
steps_in x c = steps_of c (targets_now x c) (links_before x c)

abbrev pub patches_of : View → NewCell → List FieldValue
patches_of x c = map (value_at c (targets_now x c)) (changed_fields c (targets_now x c) (links_before x c))

abbrev pub moves_of : View → NewCell → List LinkRow
moves_of x c = moves (steps_in x c)

abbrev pub backs_of : View → NewCell → List LinkRow
backs_of x c = backs (steps_in x c)

abbrev pub binds_of : View → NewCell → List LinkRow
binds_of x c = binds (steps_in x c)

abbrev pub unbinds_of : View → NewCell → List LinkRow
unbinds_of x c = unbinds (steps_in x c)

abbrev pub spans_of : View → NewCell → List Span
spans_of x c = map (span_in c) (changed_fields c (targets_now x c) (links_before x c))

abbrev pub unfit_of : View → NewCell → Option Refusal
unfit_of x c = option_map (overflow_at (attached c)) (misfit_of c (bound_in c (targets_now x c)))

abbrev pub first_unfit : View → List NewCell → Option Refusal
first_unfit x [] = None
first_unfit x (c ∷ cells) = or_else (unfit_of x c) (first_unfit x cells)

pub record IsChange (x : View) (cells : List NewCell) (changed : Changed) : Type 0 where
  pub fit : first_unfit x cells ≡ None
  pub patches : changed.patches.items ≡ flat_map (patches_of x) cells
  pub moves : changed.links.moves.items ≡ flat_map (moves_of x) cells
  pub backs : changed.links.backs.items ≡ flat_map (backs_of x) cells
  pub binds : changed.links.binds.items ≡ flat_map (binds_of x) cells
  pub unbinds : changed.links.unbinds.items ≡ flat_map (unbinds_of x) cells
  pub spans : changed.spans.items ≡ flat_map (spans_of x) cells

abbrev pub Change : View → List NewCell → Result Changed Fail → Type 0
Change x cells (Ok changed) = IsChange x cells changed
Change x cells (Err (Refused refusal)) = first_unfit x cells ≡ Some refusal
Change x cells (Err OutOfMemory) = Unit {0}

pub record MayChange (x : View) (c : NewCell) : Type 0 where
  pub known : HasCell x.spaces c.id.0
  pub ns : c.ns < length x.now.namespaces
  pub few : length c.object.entries < 2 ^ 32
  pub places : All (λ p. p.start < 2 ^ 63) c.places
  pub low : IsLow c
