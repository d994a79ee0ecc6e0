-- In a coherent world the regions of the cells that go are there, and start at different places.
use Rattle.std.proofs.Common.{◌≡◌, refl, sym, ◌∙◌, inl, inr, ap, ℕ, Bool, true, false, cond, List, [], ◌∷◌, ◌++◌, length, map}
use Rattle.std.specs.Prelude.{◌==◌, None, Option, Some, filter, find, flat_map, is_some}
use Rattle.std.specs.List.{cons_option, list_all}
use Rattle.std.proofs.lemmas.Bool.{and_from, and_parts, eq-eqb}
use Rattle.std.proofs.lemmas.List.{map-append}
use Rattle.cell_lemmas.proofs.Placement.Distinct.{all_apart, cell_shapes, pairs_across, pairs_first, pairs_second, start_apart}
use Rattle.cell_num.specs.Lists.{In, each_pair, holds}
use Rattle.cell_num.proofs.Elements.{In-all, In-filtered, In-flat_map, filter-Passes, find_there, flat_map-In, pairs-map}
use Rattle.cell_num.proofs.Sublists.{pairs-append}
use Rattle.cell_lemmas.proofs.Fields.FieldsInside.{classes, region_There}
use Rattle.cell_lemmas.proofs.Targeting.Present.{In-filter_map}
use Rattle.cell_world.specs.Coherent.{IsCoherent, Shape, stack_shape}
use Rattle.cell_world.specs.Linked.Relink.{class_start}
use Rattle.cell_world.specs.Placed.Layout.{image_of, permission_of, sections_in}
use Rattle.cell_world.specs.declared.layout.Class.TheVariants.{ReadOnly, Text, Writable}
use Rattle.cell_world.specs.declared.layout.Class.{Class}
use Rattle.cell_world.specs.Commands.UnloadCommand.{starts_of}
use Rattle.cell_world.specs.World.{Cell, World}
use Rattle.cell_unload.specs.Unmapped.{differs, lost_starts}

flat_filtered : {X Y : Type 0} (f : X → List Y) (p : X → Bool) (xs : List X) (y : Y) → In y (flat_map f (filter p xs)) → In y (flat_map f xs)
flat_filtered f p xs y i = let x = In-flat_map f (filter p xs) y i in flat_map-In f xs x.0 y (In-filtered p xs x.0 x.1) x.2

pairs_filtered : {X Y : Type 0} (t : Y → Y → Bool) (f : X → List Y) (p : X → Bool) (xs : List X) → each_pair t (flat_map f xs) ≡ true → each_pair t (flat_map f (filter p xs)) ≡ true
pairs_filtered t f p [] h = refl
pairs_filtered t f p (x ∷ xs) h = go (p x) (pairs_filtered t f p xs (pairs_second t (f x) (flat_map f xs) h))
  where
    go : (b : Bool) → each_pair t (flat_map f (filter p xs)) ≡ true → each_pair t (flat_map f (cond b (x ∷ filter p xs) (filter p xs))) ≡ true
    go true k =
        pairs-append t (f x) (flat_map f (filter p xs)) (pairs_first t (f x) (flat_map f xs) h) k
        (λ a b i j. pairs_across t (f x) (flat_map f xs) h a b i (flat_filtered f p xs b j))
    go false k = k

abbrev start_in : Shape → ℕ
start_in s = s.start

abbrev shaped : Cell → Class → Option ℕ → List Shape
shaped c class o = elim o as (λ _. List Shape) [ None ↦ [] | Some start ↦ record { start = start; permission = permission_of class; size = length (image_of (sections_in class c.object)) } ∷ [] ]

-- the shapes of a cell start where its classes do
starts_shapes : (c : Cell) → map start_in (cell_shapes c) ≡ starts_of c
starts_shapes c = go (class_start c Text) (class_start c ReadOnly) (class_start c Writable)
  where
    go : (a b d : Option ℕ) → map start_in (shaped c Text a ++ (shaped c ReadOnly b ++ (shaped c Writable d ++ []))) ≡ cons_option a (cons_option b (cons_option d []))
    go None None None = refl
    go None None (Some z) = refl
    go None (Some y) None = refl
    go None (Some y) (Some z) = refl
    go (Some x) None None = refl
    go (Some x) None (Some z) = refl
    go (Some x) (Some y) None = refl
    go (Some x) (Some y) (Some z) = refl

all_starts : (cells : List Cell) → map start_in (flat_map cell_shapes cells) ≡ flat_map starts_of cells
all_starts [] = refl
all_starts (c ∷ cells) =
    map-append start_in (cell_shapes c) (flat_map cell_shapes cells)
    ∙ (ap (λ (l : List ℕ). l ++ map start_in (flat_map cell_shapes cells)) (starts_shapes c) ∙ ap (λ (l : List ℕ). starts_of c ++ l) (all_starts cells))

module _ (w : World) (h : IsCoherent w) (numbers : List ℕ) where
  abbrev goes : Cell → Bool
  goes c = holds numbers c.id.0

  -- whose region starts there
  pub record Loser (start : ℕ) : Type 0 where
    pub cell : Cell
    pub present : In cell w.cells
    pub listed : holds numbers cell.id.0 ≡ true
    pub class : Class
    pub at : class_start cell class ≡ Some start

  pub loser_of : (start : ℕ) → In start (lost_starts w.cells numbers) → Loser start
  loser_of start i =
      let c = In-flat_map starts_of (filter goes w.cells) start i in
      let k = In-filter_map (class_start c.0) classes start c.2 in
      record { cell = c.0; present = In-filtered goes w.cells c.0 c.1; listed = filter-Passes goes w.cells c.0 c.1; class = k.0; at = k.2 }

  pub lost_there : (start : ℕ) → In start (lost_starts w.cells numbers) → is_some (find (λ r. r.start == start) w.regions) ≡ true
  lost_there start i =
      let l : Loser start = loser_of start i in
      let q = region_There w h.ready.regions h.ready.apart h.ready.placed h.ready.objects l.cell l.present l.class start l.at in
      ap is_some (find_there (λ r. r.start == start) w.regions q.0 q.1 (eq-eqb q.0.start start q.2)).1

  pub lost_apart : each_pair differs (lost_starts w.cells numbers) ≡ true
  lost_apart =
      pairs_filtered differs starts_of goes w.cells
      (ap (λ (l : List ℕ). each_pair differs l) (sym (all_starts w.cells))
      ∙ (pairs-map differs start_in (flat_map cell_shapes w.cells)
      ∙ pairs_first start_apart (flat_map cell_shapes w.cells) (map stack_shape w.tasks) (all_apart w h.ready.regions h.ready.in_space h.ready.apart)))
