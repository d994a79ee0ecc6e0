-- A writable region is that of no class that is made anew.
use Rattle.std.proofs.Common.{◌≡◌, refl, sym, ◌∙◌, ap, subst, arith, ℕ, ◌+◌, ◌⊎◌, inl, inr, Bool, true, false, List, [], ◌++◌, length, map, true≢false, Option, Some, None}
use Rattle.std.specs.Prelude.{filter, ◌==◌}
use Rattle.std.proofs.lemmas.Bool.{eqb-true, leb-true}
use Rattle.cell_num.specs.Lists.{first, In}
use Rattle.cell_world.specs.World.{World, Cell, Region, Permission}
use Rattle.cell_world.specs.Running.Memory.{covers}
use Rattle.cell_world.specs.Linked.Relink.{class_start, is_region_of, images_for, restored}
use Rattle.cell_world.specs.Placed.Layout.{image_of, sections_in, permission_of}
use Rattle.cell_world.specs.declared.layout.Class.TheVariants.{Text, ReadOnly}
use Rattle.cell_world.specs.declared.layout.Class.{Class}
use Rattle.cell_world.specs.Coherent.{IsCoherent, Shape, shape_of, ends_before}
use Rattle.cell_num.proofs.Elements.{In-map, filter_none, pairs-In}
use Rattle.cell_lemmas.proofs.Fields.FieldsInside.{shape-In}
use Rattle.cell_lemmas.proofs.Fields.Relinked.{own_image, restore, restored_is}
use Rattle.cell_lemmas.proofs.Tasks.Stacks.{long}
use Rattle.cell_lemmas.proofs.Tasks.Stores.{one_covers}

-- where no class that is made anew starts at the region, it keeps its bytes
pub no_image : (w : World) (r : Region) → ((class : Class) → (permission_of class).write ≡ false → (c : Cell) → In c w.cells → is_region_of class r c ≡ false) → own_image w r ≡ None
no_image w r n =
    let a : filter (is_region_of Text r) w.cells ≡ [] = filter_none _ w.cells (n Text refl) in
    let b : filter (is_region_of ReadOnly r) w.cells ≡ [] = filter_none _ w.cells (n ReadOnly refl) in
    ap (λ (x : List Cell). first (map (λ c. image_of (sections_in Text c.object)) x ++ images_for w.cells r ReadOnly)) a
    ∙ ap (λ (x : List Cell). first (map (λ c. image_of (sections_in ReadOnly c.object)) x)) b

pub restored_bare : (w : World) (r : Region) → own_image w r ≡ None → restored w r ≡ r
restored_bare w r e = restored_is w r ∙ ap (λ (o : Option (List ℕ)). restore o r) e

-- the class doesn't start at the region, where nothing that it starts at is the region
pub starts_elsewhere : (class : Class) (c : Cell) (r : Region) → ((start : ℕ) → class_start c class ≡ Some start → start ≡ r.start → ⊥) → is_region_of class r c ≡ false
starts_elsewhere class c r n = go (class_start c class) refl
  where
    go : (o : Option ℕ) → class_start c class ≡ o → elim o as (λ _. Bool) [ None ↦ false | Some start ↦ start == r.start ] ≡ false
    go None e = refl
    go (Some start) e = pick (start == r.start) refl
      where
        pick : (b : Bool) → (start == r.start) ≡ b → b ≡ false
        pick true x = absurd (n start e (eqb-true start r.start x))
        pick false x = refl

module _ (w : World) (h : IsCoherent w) where
  -- one region covers an address
  pub covers_once : (r s : Region) (addr : ℕ) → In r w.regions → In s w.regions → covers r addr ≡ true → covers s addr ≡ true → r ≡ s
  covers_once = one_covers w.regions h.ready.apart

  -- one region begins at a place
  pub region_once : (r s : Region) → In r w.regions → In s w.regions → r.start ≡ s.start → r ≡ s
  region_once r s i j e = go (pairs-In ends_before w.regions h.ready.apart r s i j)
    where
      go : (r ≡ s) ⊎ ((ends_before r s ≡ true) ⊎ (ends_before s r ≡ true)) → r ≡ s
      go (inl x) = x
      go (inr (inl l)) = absurd (omega (arith, leb-true (r.start + length r.bytes) s.start l, e, long w h r i))
      go (inr (inr l)) = absurd (omega (arith, leb-true (s.start + length s.bytes) r.start l, e, long w h s j))

  -- the region where a class starts has the class's permission
  class_permission : (c : Cell) → In c w.cells → (class : Class) (r : Region) → In r w.regions → (start : ℕ) → class_start c class ≡ Some start → start ≡ r.start → r.permission ≡ permission_of class
  class_permission c k class r i start e x =
      let s : Shape = record { start = start; permission = permission_of class; size = length (image_of (sections_in class c.object)) } in
      let m = In-map shape_of w.regions s (subst (λ (l : List Shape). In s l) (sym h.ready.regions) (shape-In w h.ready.regions h.ready.apart h.ready.placed h.ready.objects c k class start e)) in
      let g : m.0 ≡ r = region_once m.0 r m.1 i (ap (λ (y : Shape). y.start) (sym m.2) ∙ x) in
      ap (λ (v : Region). v.permission) (sym g) ∙ ap (λ (y : Shape). y.permission) (sym m.2)

  -- a writable region holds no bytes of an object that are made anew
  pub writable_bare : (r : Region) → In r w.regions → r.permission.write ≡ true → own_image w r ≡ None
  writable_bare r i p = no_image w r (λ class q c k. starts_elsewhere class c r (λ start e x.
      true≢false (sym p ∙ (ap (λ (v : Permission). v.write) (class_permission c k class r i start e x) ∙ q))))
