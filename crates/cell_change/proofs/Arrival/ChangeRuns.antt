-- The cells that a change brings stay, and as many regions came as they have.
use Rattle.std.proofs.Common.{◌≡◌, refl, sym, ◌∙◌, ap, ap₂, subst, arith, ℕ, ◌+◌, ◌<◌, ◌≤◌, ◌⊎◌, inl, inr, Bool, true, false, not, ◌==◌, List, [], ◌∷◌, ◌++◌, map, length}
use Rattle.std.specs.Prelude.{filter, flat_map}
use Rattle.std.proofs.lemmas.Bool.{eq-eqb}
use Rattle.std.proofs.lemmas.Grind.{flat_map-append}
use Rattle.std.proofs.lemmas.List.{length-append}
use Rattle.std.proofs.lemmas.List.Elements.{filter-append}
use Rattle.cell_num.specs.Lists.{holds, In}
use Rattle.cell_world.specs.Answer.{numbers_of}
use Rattle.cell_world.specs.Coherent.{IsCoherent, Shape}
use Rattle.cell_world.specs.Kept.{holding_of, kept_in}
use Rattle.cell_world.specs.Commands.UnloadCommand.{detached_of, garbage_of}
use Rattle.cell_world.specs.World.{World, Cell, Standing, attached, is_attached}
use Rattle.cell_world.specs.declared.state.Standing.TheVariants.{Attached}
use Rattle.cell_world.specs.declared.state.NewCell.{NewCell}
use Rattle.cell_num.proofs.Elements.{In-append, In-filtered, In-map, any-In, filter-Passes, filter_all, filter_none, map-In}
use Rattle.cell_lemmas.proofs.Holding.KeptPaths.{holds-In}
use Rattle.cell_space.specs.Joined.{placed_of}
use Rattle.cell_machine.specs.Does.{cell_shapes}
use Rattle.cell_load.proofs.NewRegions.{regions_counted}

-- the regions of a cell are a matter of its place
shapes_placed : (cells : List Cell) → flat_map cell_shapes cells ≡ flat_map (λ (c : NewCell). cell_shapes (attached c)) (map placed_of cells)
shapes_placed [] = refl
shapes_placed (c ∷ cells) = ap (λ (shapes : List Shape). cell_shapes c ++ shapes) (shapes_placed cells)

module _ (v u : World) (before : IsCoherent v) (after : IsCoherent u) (old new : List Cell) (are : u.cells ≡ old ++ new) (placed : map placed_of old ≡ map placed_of v.cells) (tasks : u.tasks ≡ v.tasks) where
  -- as many regions came as the new cells have
  pub came : (more : ℕ) → length u.regions ≡ length v.regions + more → more ≡ length (flat_map cell_shapes new)
  came more longer =
      let now = regions_counted u after in
      let then = regions_counted v before in
      let all = ap (λ (cs : List Cell). length (flat_map cell_shapes cs)) are in
      let both = ap length (flat_map-append cell_shapes old new) in
      let split = length-append (flat_map cell_shapes old) (flat_map cell_shapes new) in
      let stay = ap length (shapes_placed old ∙ (ap (flat_map (λ (c : NewCell). cell_shapes (attached c))) placed ∙ sym (shapes_placed v.cells))) in
      let same = ap length tasks in
      omega (arith, longer, now, then, all, both, split, stay, same)

module _ (u : World) (old new : List Cell) (are : u.cells ≡ old ++ new) (first : ℕ) (below : (c : Cell) → In c old → c.id.0 < first) (above : (c : Cell) → In c new → first ≤ c.id.0)
    (stand : (c : Cell) → In c new → c.standing ≡ Attached) where
  abbrev is_new : Cell → Bool
  is_new c = holds (numbers_of new) c.id.0

  abbrev stays : Cell → Bool
  stays c = not (holds (garbage_of u) c.id.0)

  not_new : (c : Cell) → In c old → is_new c ≡ false
  not_new c i = go (is_new c) refl
    where
      go : (b : Bool) → is_new c ≡ b → b ≡ false
      go false e = refl
      go true e =
          let d = In-map (λ (x : Cell). x.id.0) new c.id.0 (holds-In (numbers_of new) c.id.0 e) in
          let low = below c i in
          let high = above d.0 d.1 in
          let same : c.id.0 ≡ d.0.id.0 = d.2 in
          absurd (omega (arith, low, high, same))

  itself : (c : Cell) → In c new → is_new c ≡ true
  itself c i = any-In (λ n. n == c.id.0) (numbers_of new) c.id.0 (map-In (λ (d : Cell). d.id.0) new c i) (eq-eqb c.id.0 c.id.0 refl)

  -- a new cell is attached, so it isn't garbage
  no_garbage : (c : Cell) → In c new → (b : Bool) → holds (garbage_of u) c.id.0 ≡ b → b ≡ false
  no_garbage c i false e = refl
  no_garbage c i true e =
      let out : In c.id.0 (detached_of u) = In-filtered (λ n. not (holds (kept_in (holding_of u)) n)) (detached_of u) c.id.0 (holds-In (garbage_of u) c.id.0 e) in
      let d = In-map (λ (x : Cell). x.id.0) (filter (λ (x : Cell). not (is_attached x.standing)) u.cells) c.id.0 out in
      let there : In d.0 (old ++ new) = subst (λ (cs : List Cell). In d.0 cs) are (In-filtered (λ (x : Cell). not (is_attached x.standing)) u.cells d.0 d.1) in
      go d.0 (filter-Passes (λ (x : Cell). not (is_attached x.standing)) u.cells d.0 d.1) d.2 (In-append old new d.0 there)
    where
      go : (d : Cell) → not (is_attached d.standing) ≡ true → c.id.0 ≡ d.id.0 → In d old ⊎ In d new → true ≡ false
      go d t same (inl k) = let low = below d k in let high = above c i in absurd (omega (arith, low, high, same))
      go d t same (inr k) = sym t ∙ ap (λ (standing : Standing). not (is_attached standing)) (stand d k)

  new_stays : (c : Cell) → In c new → stays c ≡ true
  new_stays c i = ap not (no_garbage c i (holds (garbage_of u) c.id.0) refl)

  -- the new cells are there after the purge
  pub stay_all : filter is_new (filter stays u.cells) ≡ new
  stay_all =
      ap (λ (cs : List Cell). filter is_new (filter stays cs)) are
      ∙ (ap (filter is_new) (filter-append stays old new)
      ∙ (filter-append is_new (filter stays old) (filter stays new)
      ∙ ap₂ (λ (xs ys : List Cell). xs ++ ys) (filter_none is_new (filter stays old) (λ c i. not_new c (In-filtered stays old c i)))
      (ap (filter is_new) (filter_all stays new new_stays) ∙ filter_all is_new new itself)))

  -- and without one
  pub stay_here : filter is_new u.cells ≡ new
  stay_here =
      ap (filter is_new) are
      ∙ (filter-append is_new old new
      ∙ ap₂ (λ (xs ys : List Cell). xs ++ ys) (filter_none is_new old not_new) (filter_all is_new new itself))
