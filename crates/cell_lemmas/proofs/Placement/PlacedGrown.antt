-- The machine with new cells in their places has grown by them.
use Rattle.std.proofs.Common.{◌≡◌, refl, sym, ◌∙◌, ap, subst, ℕ, ◌⊎◌, true, List, ◌++◌, map, Ok}
use Rattle.std.specs.Prelude.{filter, flat_map, nat_le, nat_lt, length, Option, Some, unwrap_or}
use Rattle.std.specs.List.{list_all}
use Rattle.std.proofs.lemmas.List.{map-append}
use Rattle.cell_num.specs.Lists.{each_pair, In}
use Rattle.cell_world.specs.World.{World, Cell, is_attached}
use Rattle.cell_world.specs.Linked.Relink.{class_start}
use Rattle.cell_world.specs.Placed.Layout.{image_of, sections_in, permission_of}
use Rattle.cell_world.specs.declared.layout.Class.{Class}
use Rattle.cell_world.specs.Placed.Place.{place_all}
use Rattle.cell_world.specs.Gather.{fresh_cells}
use Rattle.cell_world.specs.Coherent.{Shape, class_shape}
use Rattle.cell_lemmas.specs.Grown.{HasAttached, IsOwn, IsRegrown}
use Rattle.cell_num.proofs.Elements.{In-All, In-left, In-right, flat_map-In}
use Rattle.cell_lemmas.proofs.Naming.Known.{object_sound}
use Rattle.cell_lemmas.proofs.Naming.Gathered.{Ranks}
use Rattle.cell_lemmas.proofs.Placement.Places.{Spaced}
use Rattle.cell_lemmas.proofs.Fields.FieldsInside.{classes, class-In}
use Rattle.cell_lemmas.proofs.Naming.Renamed.{bare, all_bare, pairs_bare}
use Rattle.cell_num.proofs.Sublists.{In-fixed}
use Rattle.cell_lemmas.proofs.Targeting.Targets.{In-find}
use Rattle.cell_world.specs.Changed.{now_in}
use Rattle.cell_lemmas.proofs.Placement.PlacedAll.{Placed, all_placed}
use Rattle.cell_lemmas.proofs.Placement.NewPlaced.{AllPlaced, new_placed, shapes_of}
use Rattle.cell_lemmas.proofs.Placement.NewRegions.{AllOwn, all_own}
use Rattle.cell_lemmas.proofs.Placement.Ready.{grown, append_same, IsBase}
use Rattle.cell_lemmas.proofs.Placement.PlacedReady.{fresh_is}
use Rattle.cell_lemmas.proofs.Placement.Distinct.{shape_there}

module _ (v : World) (base : IsBase v) (new : List Cell) (next : ℕ) where
  abbrev bare_world : World
  bare_world = grown v (v.cells ++ new) next v.regions

  module _ (w : World) (ranks : Ranks bare_world) (attached : list_all (λ c. is_attached c.standing) new ≡ true) (fresh : list_all (λ c. nat_le v.next_cell c.id.0) new ≡ true) (places : place_all bare_world new ≡ Ok w) where
    spaced : Spaced bare_world
    spaced = record { in_space = base.in_space; apart = base.apart }

    rest : Placed bare_world w
    rest = all_placed bare_world new w spaced places

    all : AllPlaced bare_world v.cells w
    all = new_placed new v.cells bare_world w (λ c k. object_sound bare_world ranks.objects c (In-right v.cells new c k)) refl ranks.order spaced places

    own : AllOwn bare_world v.cells w
    own = all_own new v.cells bare_world w (λ c k. object_sound bare_world ranks.objects c (In-right v.cells new c k)) refl ranks.order spaced places

    new_same : map bare all.new ≡ map bare new
    new_same =
        append_same (map bare v.cells) (map bare all.new) (map bare new)
        (sym (map-append bare v.cells all.new) ∙ (ap (map bare) (sym all.cells) ∙ (rest.cells ∙ map-append bare v.cells new)))

    -- the cells that are there since v are the new ones
    fresh_new : fresh_cells v.next_cell w ≡ all.new
    fresh_new =
        ap (filter (λ c. nat_le v.next_cell c.id.0)) all.cells
        ∙ fresh_is v base all.new next (all_bare (λ c. nat_le v.next_cell c.id.0) (λ c. refl) all.new new new_same fresh)

    shape_new : (c : Cell) → In c all.new → (class : Class) (start : ℕ) → class_start c class ≡ Some start → In (record { start = start; permission = permission_of class; size = length (image_of (sections_in class c.object)) }) (flat_map shapes_of all.new)
    shape_new c k class start e =
        let s : Shape = record { start = start; permission = permission_of class; size = length (image_of (sections_in class c.object)) } in
        flat_map-In shapes_of all.new c s k (flat_map-In (class_shape c) classes class s (class-In class) (shape_there c class start e))

    -- those that are there since v stand behind them, attached
    pub placed_attached : HasAttached v w (fresh_cells v.next_cell w)
    placed_attached = subst (HasAttached v w) (sym fresh_new) (record {
      cells = all.cells;
      attached = all_bare (λ c. is_attached c.standing) (λ c. refl) all.new new new_same attached;
      spaces = ap (λ (u : World). u.namespaces) rest.rest;
    })

    order : each_pair (λ (a b : Cell). nat_lt a.id.0 b.id.0) w.cells ≡ true
    order = pairs_bare (λ a b. nat_lt a.id.0 b.id.0) (λ a b. refl) w.cells bare_world.cells rest.cells ranks.order

    -- and those of v are as they were
    still : (c : Cell) → In c v.cells → now_in w c ≡ c
    still c k = ap (λ (o : Option Cell). unwrap_or o c) (In-find w.cells order c (subst (λ (cs : List Cell). In c cs) (sym all.cells) (In-left v.cells all.new c k)))

    pub placed_regrown : IsRegrown v w (fresh_cells v.next_cell w)
    placed_regrown = subst (IsRegrown v w) (sym fresh_new) (record {
      cells = all.cells ∙ ap (λ (cs : List Cell). cs ++ all.new) (sym (In-fixed (now_in w) v.cells still));
      same = In-All (λ (c : Cell). (now_in w c).placed ≡ c.placed) v.cells (λ c k. ap (λ (x : Cell). x.placed) (still c k));
      old = λ r k. all.adds.stay r k;
      regions = λ r k. subst (λ (cs : List Cell). In r v.regions ⊎ IsOwn cs r) (append_same v.cells own.new all.new (sym own.cells ∙ all.cells)) (own.regions r k);
      starts = λ c k class start e r i. all.adds.apart _ (shape_new c k class start e) r i;
    })
