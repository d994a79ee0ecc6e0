-- Where cells are removed, the regions that are left are those that there have to be.
use Rattle.std.proofs.Common.{◌≡◌, refl, sym, ◌∙◌, ap, ℕ, Bool, true, false, List, [], ◌∷◌, ◌++◌, inl, inr, length, map, true≢false}
use Rattle.std.specs.Prelude.{Option, Some, None, filter, flat_map, not}
use Rattle.std.proofs.lemmas.List.Elements.{filter-append}
use Rattle.cell_num.specs.Lists.{holds, In}
use Rattle.cell_world.specs.World.{World, Cell, Task}
use Rattle.cell_world.specs.Linked.Relink.{class_start}
use Rattle.cell_world.specs.Placed.Layout.{permission_of, image_of, sections_in}
use Rattle.cell_world.specs.declared.layout.Class.{Class}
use Rattle.cell_world.specs.Commands.UnloadCommand.{without_cells, starts_of}
use Rattle.cell_world.specs.Coherent.{IsCoherent, Shape, shape_of, class_shape, stack_shape, wanted_shapes}
use Rattle.cell_num.proofs.Elements.{In-map, In-flat_map, flat_map-In, filter-In, In-filtered, filter-Passes, filter_all, filter_none}
use Rattle.cell_lemmas.proofs.Placement.Distinct.{cell_shapes, one_class, shape_there}
use Rattle.cell_lemmas.proofs.Fields.FieldsInside.{classes, class-In}
use Rattle.cell_lemmas.proofs.Placement.PlacedAll.{Put}
use Rattle.cell_lemmas.proofs.Targeting.Present.{In-filter_map}
use Rattle.cell_num.proofs.Sublists.{map_filter}
use Rattle.cell_lemmas.proofs.Placement.Shapes.{filter_put}
use Rattle.cell_lemmas.proofs.Tasks.Stacks.{cells_elsewhere}
use Rattle.cell_lemmas.proofs.Holding.KeptPaths.{In-holds, holds-In}
use Rattle.cell_lemmas.proofs.Naming.Lookups.{filter_map-In, flat_kept, unnot, unnot_false}

-- a shape of a cell begins where one of its classes does
shape_class : (c : Cell) (s : Shape) → In s (cell_shapes c) → (class : Class) × (class_start c class ≡ Some s.start)
shape_class c s i = let r : (class : Class) × In class classes × In s (class_shape c class) = In-flat_map (class_shape c) classes s i in (r.0, at r.0 (class_start c r.0) refl r.2)
  where
    at : (class : Class) (o : Option ℕ) → class_start c class ≡ o → In s (elim o as (λ _. List Shape) [ None ↦ [] | Some start ↦ record { start = start; permission = permission_of class; size = length (image_of (sections_in class c.object)) } ∷ [] ]) → class_start c class ≡ Some s.start
    at class None e j = absurd j
    at class (Some n) e (inl j) = e ∙ ap (λ (v : Shape). Some v.start) (sym j)
    at class (Some n) e (inr j) = absurd j

module _ (w : World) (h : IsCoherent w) (numbers : List ℕ) where
  -- the starts of the regions that are removed
  abbrev pub lost_starts : List ℕ
  lost_starts = flat_map starts_of (filter (λ c. holds numbers c.id.0) w.cells)

  pub start_lost : (c : Cell) → In c w.cells → holds numbers c.id.0 ≡ true → (class : Class) (start : ℕ) → class_start c class ≡ Some start → holds lost_starts start ≡ true
  start_lost c i g class start e =
      In-holds lost_starts start (flat_map-In starts_of (filter (λ d. holds numbers d.id.0) w.cells) c start
      (filter-In (λ (d : Cell). holds numbers d.id.0) w.cells c i g) (filter_map-In (class_start c) classes class start (class-In class) e))

  -- whose start it is that is removed
  abbrev IsLostAt : ℕ → Type 0
  IsLostAt n = (d : Cell) × In d w.cells × (holds numbers d.id.0 ≡ true) × (class : Class) × (class_start d class ≡ Some n)

  lost_at : (n : ℕ) → holds lost_starts n ≡ true → IsLostAt n
  lost_at n e =
      let d : (d : Cell) × In d (filter (λ c. holds numbers c.id.0) w.cells) × In n (starts_of d) = In-flat_map starts_of (filter (λ c. holds numbers c.id.0) w.cells) n (holds-In lost_starts n e) in
      let k : (class : Class) × In class classes × (class_start d.0 class ≡ Some n) = In-filter_map (class_start d.0) classes n d.2 in
      (d.0, In-filtered (λ (c : Cell). holds numbers c.id.0) w.cells d.0 d.1, filter-Passes (λ (c : Cell). holds numbers c.id.0) w.cells d.0 d.1, k.0, k.2)

  -- what no removed cell starts at stays
  start_stays : (n : ℕ) → (IsLostAt n → ⊥) → not (holds lost_starts n) ≡ true
  start_stays n f = go (holds lost_starts n) refl
    where
      go : (b : Bool) → holds lost_starts n ≡ b → not b ≡ true
      go true e = absurd (f (lost_at n e))
      go false e = refl

  abbrev left_at : Shape → Bool
  left_at s = not (holds lost_starts s.start)

  kept_shapes : (c : Cell) → In c w.cells → holds numbers c.id.0 ≡ false → filter left_at (cell_shapes c) ≡ cell_shapes c
  kept_shapes c i g = filter_all left_at (cell_shapes c) (λ s j. start_stays s.start (own s (shape_class c s j)))
    where
      own : (s : Shape) → (class : Class) × (class_start c class ≡ Some s.start) → IsLostAt s.start → ⊥
      own s k d =
          let e = one_class w h.ready.regions h.ready.in_space h.ready.apart c d.0 i d.1 k.0 d.3 s.start k.1 d.4 in
          true≢false (sym d.2 ∙ (ap (λ (x : Cell). holds numbers x.id.0) (sym e.0) ∙ g))

  lost_shapes : (c : Cell) → In c w.cells → holds numbers c.id.0 ≡ true → filter left_at (cell_shapes c) ≡ []
  lost_shapes c i g = filter_none left_at (cell_shapes c) (λ s j. at s (shape_class c s j))
    where
      at : (s : Shape) → (class : Class) × (class_start c class ≡ Some s.start) → left_at s ≡ false
      at s k = ap not (start_lost c i g k.0 s.start k.1)

  stack_stays : (s : Shape) → (t : Task) × In t w.tasks × (s ≡ stack_shape t) → left_at s ≡ true
  stack_stays s t = start_stays s.start (λ d.
      cells_elsewhere w h t.0 t.1 (shape d.0 d.3) (flat_map-In cell_shapes w.cells d.0 (shape d.0 d.3) d.1 (flat_map-In (class_shape d.0) classes d.3 (shape d.0 d.3) (class-In d.3) (shape_there d.0 d.3 s.start d.4)))
      (ap (λ (x : Shape). x.start) t.2))
    where
      shape : Cell → Class → Shape
      shape x y = record { start = s.start; permission = permission_of y; size = length (image_of (sections_in y x.object)) }

  pub shapes_left : map shape_of (without_cells w numbers).regions ≡ wanted_shapes (without_cells w numbers)
  shapes_left =
      map_filter shape_of left_at w.regions
      ∙ (ap (filter left_at) h.ready.regions
      ∙ (filter_put left_at (flat_map cell_shapes w.cells ++ map stack_shape w.tasks) [] refl
      ∙ ap (Put [])
      (filter-append left_at (flat_map cell_shapes w.cells) (map stack_shape w.tasks)
      ∙ (ap (λ (v : List Shape). v ++ filter left_at (map stack_shape w.tasks))
      (flat_kept left_at cell_shapes cell_shapes (λ c. not (holds numbers c.id.0)) w.cells
      (λ c i g. kept_shapes c i (unnot (holds numbers c.id.0) g)) (λ c i g. lost_shapes c i (unnot_false (holds numbers c.id.0) g)))
      ∙ ap (λ (v : List Shape). flat_map cell_shapes (filter (λ c. not (holds numbers c.id.0)) w.cells) ++ v)
      (filter_all left_at (map stack_shape w.tasks) (λ s j. stack_stays s (In-map stack_shape w.tasks s j)))))))
