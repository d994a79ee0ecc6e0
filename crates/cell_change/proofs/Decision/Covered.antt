-- The first need that nobody provides any more, by the cells that may change as the spaces tell them.
use Rattle.std.proofs.Common.{◌≡◌, refl, sym, ◌∙◌, ap, ap₂, subst, ℕ, suc, Bool, true, false, cond, not, ◌||◌, true≢false, List, [], ◌∷◌, ◌++◌, map}
use Rattle.std.specs.Prelude.{Ok, Option, Some, None, filter, is_none, option_map}
use Rattle.std.proofs.lemmas.Bool.{or_parts}
use Rattle.std.proofs.lemmas.List.{map-append}
use Rattle.cell_num.specs.Lists.{first, holds, or_else, In}
use Rattle.cell_world.specs.declared.file.File.{File}
use Rattle.cell_world.specs.declared.refusal.Refusal.{Refusal}
use Rattle.cell_world.specs.declared.state.NewCell.{NewCell}
use Rattle.cell_world.specs.Gather.{Need, first_lack, grown, lacks_of, missing}
use Rattle.cell_world.specs.Names.{needs_of, provider_of}
use Rattle.cell_world.specs.Change.{first_uncovered, gather, set_aside}
use Rattle.cell_world.specs.Outcome.{Outcome}
use Rattle.cell_world.specs.World.{Cell, World}
use Rattle.cell_num.proofs.Elements.{In-filtered, filter-Passes, map_same}
use Rattle.cell_lemmas.proofs.Fields.Relinked.{map_twice}
use Rattle.cell_lemmas.proofs.Naming.Lookups.{filter_swap}
use Rattle.cell_lemmas.proofs.Targeting.Detached.{put_out}
use Rattle.cell_space.specs.Joined.{placed_of}
use Rattle.cell_space.specs.Machine.{called}
use Rattle.cell_space.specs.declared.cell.SpaceCell.{SpaceCell}
use Rattle.cell_gather.specs.declared.gathering.Gathered.{Gathered}
use Rattle.cell_machine.specs.declared.machine.Machine.{Machine}
use Rattle.cell_load.specs.Stages.{new_cells}
use Rattle.cell_plan.specs.Coverage.{IsAhead, as_it_stands, first_lost, others_in}
use Rattle.cell_plan.specs.Staying.{is_user}
use Rattle.cell_change.proofs.Decision.Bystanders.{uncovered_among}
use Rattle.cell_change.specs.declared.request.Change.{Change}
use Rattle.cell_change.specs.Planning.{IsBegun, IsGatheredFor, wish}
use Rattle.cell_change.proofs.Decision.Began.{are, called_are, good, h, old, side_is, sources, u, v}
use Rattle.cell_change.proofs.Decision.ChangeLanded.{new_behind, old_attached}
use Rattle.cell_change.proofs.Decision.Users.{picked, plain, softs, stands, there_aside, users}

mapped_or : {A B : Type 0} (f : A → B) (a b : Option A) → option_map f (or_else a b) ≡ or_else (option_map f a) (option_map f b)
mapped_or f None b = refl
mapped_or f (Some a) b = refl

-- aliases play no part in what a cell needs
module _ (w : World) where
  lack_plain : (c : Cell) (names : List (List ℕ)) → option_map missing (first (map (λ name. let need : Need = record { cell = plain c; name = name } in need) names)) ≡ option_map missing (first (map (λ name. let need : Need = record { cell = c; name = name } in need) names))
  lack_plain c [] = refl
  lack_plain c (name ∷ names) = refl

  lacks_plain : (cells : List Cell) → option_map missing (first_lack w (map plain cells)) ≡ option_map missing (first_lack w cells)
  lacks_plain [] = refl
  lacks_plain (c ∷ cells) =
      mapped_or missing (first (lacks_of w (plain c))) (first_lack w (map plain cells))
      ∙ (ap₂ (λ (a b : Option Refusal). or_else a b) (lack_plain c (filter (λ name. is_none (provider_of w c name)) (needs_of c.object))) (lacks_plain cells)
      ∙ sym (mapped_or missing (first (lacks_of w c)) (first_lack w cells)))

filter_placed : (p : NewCell → Bool) (cells : List Cell) → filter p (map placed_of cells) ≡ map placed_of (filter (λ c. p c.placed) cells)
filter_placed p [] = refl
filter_placed p (c ∷ cells) = go (p c.placed) (filter_placed p cells)
  where
    go : (b : Bool) → filter p (map placed_of cells) ≡ map placed_of (filter (λ c. p c.placed) cells)
        → cond b (c.placed ∷ filter p (map placed_of cells)) (filter p (map placed_of cells)) ≡ map placed_of (cond b (c ∷ filter (λ c. p c.placed) cells) (filter (λ c. p c.placed) cells))
    go true e = ap (λ cs. c.placed ∷ cs) e
    go false e = e

module _ (files : List File) (asked : Change) (m : Machine) (b : IsBegun files asked m) (g : Gathered) (gathered : IsGatheredFor files asked m b g) where
  abbrev before : World
  before = v files asked m b

  abbrev numbers : List ℕ
  numbers = old files asked m b

  -- the machine with the new cells
  abbrev pub G : World
  G = grown (u files asked m b) (new_cells g)

  -- what is gathered, by the machine with the old cells put aside
  pub gathering : gather (sources files asked m b) before (wish b) ≡ Ok G
  gathering = gathered.gathered ∙ ap (λ (w : World). let o : Outcome World = Ok (grown w (new_cells g)) in o) (sym (side_is files asked m b))

  pub covered_here : first_uncovered before (wish b) (grown (set_aside before (wish b)) (new_cells g)) ≡ None → first_uncovered before (wish b) G ≡ None
  covered_here e = ap (λ (w : World). first_uncovered before (wish b) (grown w (new_cells g))) (side_is files asked m b) ∙ e

  pub covered_there : first_uncovered before (wish b) G ≡ None → first_uncovered before (wish b) (grown (set_aside before (wish b)) (new_cells g)) ≡ None
  covered_there e = ap (λ (w : World). first_uncovered before (wish b) (grown w (new_cells g))) (sym (side_is files asked m b)) ∙ e

  pub is_ahead : IsAhead G g.ahead
  is_ahead = record {
    namespaces = sym (gathered.are.namespaces ∙ b.aside.namespaces);
    cells =
        map-append called (u files asked m b).cells (new_cells g)
        ∙ (ap (λ (cs : List SpaceCell). cs ++ map called (new_cells g)) (called_are files asked m b) ∙ sym gathered.are.cells);
  }

  abbrev is_other : Cell → Bool
  is_other c = not (holds numbers c.id.0)

  flipped : (a : Bool) → not a ≡ true → a ≡ false
  flipped true e = absurd (true≢false (sym e))
  flipped false e = refl

  stands_still : (c : Cell) → In c (filter is_other (users files asked m b)) → as_it_stands m.spaces c.placed ≡ plain c
  stands_still c i =
      let user : In c (users files asked m b) = In-filtered is_other (users files asked m b) c i in
      let there : In c before.cells = In-filtered (picked files asked m b) before.cells c user in
      let out : holds numbers c.id.0 ≡ false = flipped (holds numbers c.id.0) (filter-Passes is_other (users files asked m b) c i) in
      stands files asked m b c (subst (λ (x : Cell). In x (u files asked m b).cells) (put_out (suc before.swaps) numbers c out) (there_aside files asked m b c there))

  others_are : others_in m.spaces (map (λ c. c.0) asked.replaced.items) (map placed_of (users files asked m b)) ≡ map plain (filter is_other (users files asked m b))
  others_are =
      ap (λ (ns : List ℕ). others_in m.spaces ns (map placed_of (users files asked m b))) b.found.old
      ∙ (ap (map (as_it_stands m.spaces)) (filter_placed (λ c. not (holds numbers c.id.0)) (users files asked m b))
      ∙ (map_twice (as_it_stands m.spaces) placed_of (filter is_other (users files asked m b))
      ∙ map_same (λ (c : Cell). as_it_stands m.spaces c.placed) plain (filter is_other (users files asked m b)) stands_still))

  pub lost_is : first_lost G (others_in m.spaces (map (λ c. c.0) asked.replaced.items) (map placed_of (users files asked m b))) ≡ option_map missing (first_uncovered before (wish b) G)
  lost_is =
      ap (first_lost G) others_are
      ∙ (lacks_plain G (filter is_other (users files asked m b))
      ∙ ap (option_map missing)
      (ap (first_lack G) (filter_swap is_other (picked files asked m b) before.cells)
      ∙ sym (uncovered_among before (h files asked m b) (wish b)
      (old_attached (sources files asked m b) (are files asked m b) before (h files asked m b) (wish b) (good files asked m b) (new_cells g) gathering)
      G (new_behind (sources files asked m b) (are files asked m b) before (h files asked m b) (wish b) (good files asked m b) (new_cells g) gathering)
      (picked files asked m b) (λ c unpicked. (or_parts (is_user before numbers c) (is_user before (softs files asked m b) c || holds (softs files asked m b) c.id.0) unpicked).0))))
