-- What changes, one user after the other.
use Rattle.std.proofs.Common.{◌≡◌, sym, ◌∙◌, ap, ℕ, ◌+◌, ◌<◌, ◌≤◌, List, [], ◌∷◌, ◌++◌, length, drop, get_or, append_assoc, append-nil}
use Rattle.std.specs.Prelude.{Option, Err, flat_map, option_map}
use Rattle.std.proofs.lemmas.List.{drop_more}
use Rattle.std.proofs.Math.ListN.{drop_of_length-le}
use Rattle.cell_num.specs.Lists.{or_else}
use Rattle.cell_world.specs.declared.fail.Fail.{Fail}
use Rattle.cell_world.specs.declared.fail.Fail.TheVariants.{Refused, OutOfMemory}
use Rattle.cell_world.specs.declared.refusal.Refusal.{Refusal}
use Rattle.cell_world.specs.declared.state.LinkRow.{LinkRow}
use Rattle.cell_world.specs.declared.state.NewCell.{NewCell}
use Rattle.cell_world.specs.declared.state.Target.{Target}
use Rattle.cell_world.specs.Linked.Fit.{overflow_at}
use Rattle.cell_world.specs.World.{attached, Standing}
use Rattle.cell_plan.specs.declared.changed.Changed.{Changed}
use Rattle.cell_plan.specs.declared.span.Span.{Span}
use Rattle.cell_plan.specs.Exchanged.{Change, IsChange, View, backs_of, binds_of, first_unfit, links_before, moves_of, patches_of, spans_of, targets_now, unbinds_of}
use Rattle.cell_plan.specs.Coverage.{state_in}
use Rattle.cell_plan.specs.Taking.{HasTaken}
use Rattle.cell_target.specs.Scene.{in_state}
use Rattle.cell_world.specs.Linked.Target.{targets_of}
use Rattle.cell_plan.specs.Viewed.{Adds, HasAdded}

-- what has been added, with what the users that are left change, is all of it
pub record IsChangeTo (x : View) (users : List NewCell) (place : ℕ) (changed : Changed) : Type 0 where
  pub fit : first_unfit x (drop place users) ≡ first_unfit x users
  pub patches : changed.patches.items ++ flat_map (patches_of x) (drop place users) ≡ flat_map (patches_of x) users
  pub moves : changed.links.moves.items ++ flat_map (moves_of x) (drop place users) ≡ flat_map (moves_of x) users
  pub backs : changed.links.backs.items ++ flat_map (backs_of x) (drop place users) ≡ flat_map (backs_of x) users
  pub binds : changed.links.binds.items ++ flat_map (binds_of x) (drop place users) ≡ flat_map (binds_of x) users
  pub unbinds : changed.links.unbinds.items ++ flat_map (unbinds_of x) (drop place users) ≡ flat_map (unbinds_of x) users
  pub spans : changed.spans.items ++ flat_map (spans_of x) (drop place users) ≡ flat_map (spans_of x) users

-- what is taken in from a cell is what changes in it
pub taken_in : (x : View) (c : NewCell) (state : Standing) (targets : List Target) (links : List LinkRow) (was now : Changed)
    → state ≡ state_in x.spaces c.id.0 → targets ≡ targets_of x.now (in_state c state) → links ≡ links_before x c
    → HasTaken c targets links was now → HasAdded x c was now
taken_in x c state targets links was now same_state same_targets same_links taken =
    let now_named : targets ≡ targets_now x c = same_targets ∙ ap (λ s. targets_of x.now (in_state c s)) same_state in
    let h = rw (now_named, same_links) at taken in
    record {
      fit = ap (option_map (overflow_at (attached c))) h.fit;
      patches = h.patches;
      links = h.steps;
      spans = h.spans;
    }

-- one more part of a list that is gone over
part_more : {X Y : Type 0} (f : X → List Y) (c : X) (rest : List X) (old new all : List Y) → new ≡ old ++ f c → old ++ flat_map f (c ∷ rest) ≡ all → new ++ flat_map f rest ≡ all
part_more f c rest old new all added before = ap (λ ys. ys ++ flat_map f rest) added ∙ (append_assoc old (f c) (flat_map f rest) ∙ before)

module _ (x : View) (users : List NewCell) (place : ℕ) (changed : Changed) (to : IsChangeTo x users place changed) where
  pub all_added : length users ≤ place → IsChange x users changed
  all_added past = record {
    fit = sym to.fit ∙ ap (first_unfit x) none;
    patches = at_end (patches_of x) changed.patches.items to.patches;
    moves = at_end (moves_of x) changed.links.moves.items to.moves;
    backs = at_end (backs_of x) changed.links.backs.items to.backs;
    binds = at_end (binds_of x) changed.links.binds.items to.binds;
    unbinds = at_end (unbinds_of x) changed.links.unbinds.items to.unbinds;
    spans = at_end (spans_of x) changed.spans.items to.spans;
  }
    where
      none : drop place users ≡ []
      none = drop_of_length-le users {i = place} past

      at_end : {Y : Type 0} (f : NewCell → List Y) (ys : List Y) → ys ++ flat_map f (drop place users) ≡ flat_map f users → ys ≡ flat_map f users
      at_end f ys e = sym (append-nil ys) ∙ (ap (λ (cs : List NewCell). ys ++ flat_map f cs) (sym none) ∙ e)

  module _ (here : place < length users) (c : NewCell) (at : c ≡ get_or users place c) where
    next : drop place users ≡ c ∷ drop (place + 1) users
    next = drop_more users place c here ∙ ap (λ (d : NewCell). d ∷ drop (place + 1) users) (sym at)

    pub one_refused : (new : Changed) (fail : Fail) → Adds x c changed (Err fail) new → Change x users (Err fail)
    one_refused new (Refused refusal) e = sym to.fit ∙ (ap (first_unfit x) next ∙ ap (λ (o : Option Refusal). or_else o (first_unfit x (drop (place + 1) users))) e)
    one_refused new OutOfMemory e = tt

    pub one_added : (new : Changed) → HasAdded x c changed new → IsChangeTo x users (place + 1) new
    one_added new added = record {
      fit = sym (ap (first_unfit x) next ∙ ap (λ (o : Option Refusal). or_else o (first_unfit x (drop (place + 1) users))) added.fit) ∙ to.fit;
      patches = part_more (patches_of x) c (drop (place + 1) users) changed.patches.items new.patches.items _ added.patches (ap (λ (cs : List NewCell). changed.patches.items ++ flat_map (patches_of x) cs) (sym next) ∙ to.patches);
      moves = part_more (moves_of x) c (drop (place + 1) users) changed.links.moves.items new.links.moves.items _ added.links.moves_are (ap (λ (cs : List NewCell). changed.links.moves.items ++ flat_map (moves_of x) cs) (sym next) ∙ to.moves);
      backs = part_more (backs_of x) c (drop (place + 1) users) changed.links.backs.items new.links.backs.items _ added.links.backs_are (ap (λ (cs : List NewCell). changed.links.backs.items ++ flat_map (backs_of x) cs) (sym next) ∙ to.backs);
      binds = part_more (binds_of x) c (drop (place + 1) users) changed.links.binds.items new.links.binds.items _ added.links.binds_are (ap (λ (cs : List NewCell). changed.links.binds.items ++ flat_map (binds_of x) cs) (sym next) ∙ to.binds);
      unbinds = part_more (unbinds_of x) c (drop (place + 1) users) changed.links.unbinds.items new.links.unbinds.items _ added.links.unbinds_are (ap (λ (cs : List NewCell). changed.links.unbinds.items ++ flat_map (unbinds_of x) cs) (sym next) ∙ to.unbinds);
      spans = part_more (spans_of x) c (drop (place + 1) users) changed.spans.items new.spans.items _ added.spans (ap (λ (cs : List NewCell). changed.spans.items ++ flat_map (spans_of x) cs) (sym next) ∙ to.spans);
    }
