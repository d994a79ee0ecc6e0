-- In a world whose cells are placed, an image has the size of its region.
use Rattle.std.proofs.Common.{◌≡◌, sym, ◌∙◌, ap, arith, ℕ, ◌+◌, ◌<◌, ◌⊎◌, inl, inr, true, List, map, length, Some}
use Rattle.std.specs.Prelude.{All, filter}
use Rattle.std.specs.List.{list_all}
use Rattle.std.proofs.lemmas.Bool.{leb-true}
use Rattle.cell_num.specs.Lists.{each_pair, In}
use Rattle.cell_world.specs.World.{World, Region}
use Rattle.cell_world.specs.Linked.Relink.{class_start, is_region_of, images_for, relink}
use Rattle.cell_world.specs.Placed.Layout.{sections_in, image_of}
use Rattle.cell_world.specs.declared.layout.Class.TheVariants.{Text, ReadOnly}
use Rattle.cell_world.specs.declared.layout.Class.{Class}
use Rattle.cell_world.specs.Coherent.{shape_of, wanted_shapes, is_placed, is_in_space, ends_before, IsLoadable}
use Rattle.cell_num.proofs.Elements.{all-In, In-map, In-append, In-filtered, filter-Passes, first-In, pairs-In}
use Rattle.cell_lemmas.proofs.Placement.Places.{whole_region}
use Rattle.cell_lemmas.proofs.Placement.Regions.{starts_at}
use Rattle.cell_lemmas.proofs.Fields.Reshaped.{ImagesFit, shapes_relinked}
use Rattle.cell_lemmas.proofs.Fields.FieldsInside.{region_There, fields_end_in}

module _ (w : World) (regions : map shape_of w.regions ≡ wanted_shapes w) (in_space : list_all (is_in_space w) w.regions ≡ true) (apart : each_pair ends_before w.regions ≡ true) (placed : list_all is_placed w.cells ≡ true) (objects : All (λ c. IsLoadable c.object) w.cells) where
  of_class : (r : Region) → In r w.regions → (class : Class) (bytes : List ℕ) → In bytes (images_for w.cells r class) → length bytes ≡ length r.bytes
  of_class r k class bytes m =
      let c = In-map (λ c. image_of (sections_in class c.object)) (filter (is_region_of class r) w.cells) bytes m in
      let s : class_start c.0 class ≡ Some r.start = starts_at class c.0 r (filter-Passes (is_region_of class r) w.cells c.0 c.1) in
      let q = region_There w regions apart placed objects c.0 (In-filtered (is_region_of class r) w.cells c.0 c.1) class r.start s in
      ap length c.2 ∙ (sym q.3 ∙ same q.0 q.1 q.2)
    where
      same : (q : Region) → In q w.regions → q.start ≡ r.start → length q.bytes ≡ length r.bytes
      same q l e = go (pairs-In ends_before w.regions apart r q k l) (whole_region w r (all-In (is_in_space w) w.regions in_space r k)).2 (whole_region w q (all-In (is_in_space w) w.regions in_space q l)).2
        where
          go : (r ≡ q) ⊎ ((ends_before r q ≡ true) ⊎ (ends_before q r ≡ true)) → 0 < length r.bytes → 0 < length q.bytes → length q.bytes ≡ length r.bytes
          go (inl x) a b = ap (λ (v : Region). length v.bytes) (sym x)
          go (inr (inl x)) a b = absurd (omega (arith, leb-true (r.start + length r.bytes) q.start x, a, e))
          go (inr (inr x)) a b = absurd (omega (arith, leb-true (q.start + length q.bytes) r.start x, b, e))

  pub images_fit : ImagesFit w
  images_fit r k bytes h = go (In-append (images_for w.cells r Text) (images_for w.cells r ReadOnly) bytes (first-In _ bytes h))
    where
      go : In bytes (images_for w.cells r Text) ⊎ In bytes (images_for w.cells r ReadOnly) → length bytes ≡ length r.bytes
      go (inl m) = of_class r k Text bytes m
      go (inr m) = of_class r k ReadOnly bytes m

  -- the field `regions` of the relinked world
  pub regions_after : map shape_of (relink w).regions ≡ wanted_shapes (relink w)
  regions_after = shapes_relinked w (fields_end_in w regions apart placed objects) images_fit ∙ regions
