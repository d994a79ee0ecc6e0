-- Relinking keeps the starts, permissions and sizes of regions.
use Rattle.std.proofs.Common.{◌≡◌, refl, ◌∙◌, ap, ℕ, List, map, length, Option, Some, None}
use Rattle.std.specs.Prelude.{fold}
use Rattle.cell_world.specs.World.{World, Region, Permission}
use Rattle.cell_world.specs.Linked.Relink.{Patch, patched, remade, relink}
use Rattle.cell_world.specs.Coherent.{shape_of}
use Rattle.cell_num.specs.Lists.{In}
use Rattle.cell_num.proofs.Elements.{map_same}
use Rattle.cell_lemmas.proofs.Fields.Patches.{AllEndIn, shape_by, start_by, permission_by}
use Rattle.cell_lemmas.proofs.Fields.Relinked.{patches, own_image, restore, remade_is, map_twice, FieldsEndIn}

-- an image has the size of its region
abbrev pub ImagesFit : World → Type 0
ImagesFit w = (r : Region) → In r w.regions → (bytes : List ℕ) → own_image w r ≡ Some bytes → length bytes ≡ length r.bytes

same_shape : (r q : Region) → q.start ≡ r.start → q.permission ≡ r.permission → length q.bytes ≡ length r.bytes → shape_of q ≡ shape_of r
same_shape r q a b c =
    ap (λ (x : ℕ). record { start = x; permission = q.permission; size = length q.bytes }) a
    ∙ (ap (λ (x : Permission). record { start = r.start; permission = x; size = length q.bytes }) b
    ∙ ap (λ (x : ℕ). record { start = r.start; permission = r.permission; size = x }) c)

kept_shape : (o : Option (List ℕ)) (ps : List Patch) (r : Region) → ((bytes : List ℕ) → o ≡ Some bytes → length bytes ≡ length r.bytes) → AllEndIn r.start (length r.bytes) ps → shape_of (fold patched (restore o r) ps) ≡ shape_of r
kept_shape None ps r f e = same_shape r (fold patched r ps) (start_by ps r) (permission_by ps r) (shape_by r.start (length r.bytes) ps e r (refl, refl)).1
kept_shape (Some bytes) ps r f e =
    let q : Region = record r { bytes = bytes } in
    same_shape r (fold patched q ps) (start_by ps q) (permission_by ps q) (shape_by r.start (length r.bytes) ps e q (refl, f bytes refl)).1

pub shapes_relinked : (w : World) → FieldsEndIn w → ImagesFit w → map shape_of (relink w).regions ≡ map shape_of w.regions
shapes_relinked w e f =
    map_twice shape_of (remade w) w.regions
    ∙ map_same (λ r. shape_of (remade w r)) shape_of w.regions (λ r k. ap shape_of (remade_is w r) ∙ kept_shape (own_image w r) (patches w) r (f r k) (e r k))
