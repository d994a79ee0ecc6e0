-- Relinking twice is relinking once, where no field begins in a region and ends past it.
use Rattle.std.proofs.Common.{◌≡◌, refl, sym, ◌∙◌, ap, ℕ, List, [], ◌∷◌, ◌++◌, map, length, Option, Some, None}
use Rattle.std.specs.Prelude.{fold, flat_map}
use Rattle.cell_num.specs.Lists.{first, In}
use Rattle.cell_world.specs.World.{World, Region}
use Rattle.cell_world.specs.Linked.Relink.{Patch, patched, patches_of, images_for, restored, remade, links_of, relink}
use Rattle.cell_world.specs.declared.layout.Class.TheVariants.{Text, ReadOnly}
use Rattle.cell_num.proofs.Elements.{map_same}
use Rattle.cell_lemmas.proofs.Fields.Patches.{AllEndIn, patched_again, same_region, start_by, permission_by}

-- all that relinking writes
abbrev pub patches : World → List Patch
patches w = flat_map (patches_of w) w.cells

pub map_twice : {X Y Z : Type 0} (f : Y → Z) (g : X → Y) (xs : List X) → map f (map g xs) ≡ map (λ x. f (g x)) xs
map_twice f g [] = refl
map_twice f g (x ∷ xs) = ap (λ ys. f (g x) ∷ ys) (map_twice f g xs)

-- what the region that starts there holds by the objects, if it isn't writable
abbrev pub own_image : World → Region → Option (List ℕ)
own_image w r = first (images_for w.cells r Text ++ images_for w.cells r ReadOnly)

abbrev pub restore : Option (List ℕ) → Region → Region
restore None r = r
restore (Some bytes) r = record r { bytes = bytes }

pub restored_is : (w : World) (r : Region) → restored w r ≡ restore (own_image w r) r
restored_is w r = go (own_image w r)
  where
    go : (o : Option (List ℕ)) → elim o as (λ _. Region) [ None ↦ r | Some bytes ↦ record r { bytes = bytes } ] ≡ restore o r
    go None = refl
    go (Some bytes) = refl

pub remade_is : (w : World) (r : Region) → remade w r ≡ fold patched (restore (own_image w r) r) (patches w)
remade_is w r = ap (λ (q : Region). fold patched q (patches w)) (restored_is w r)

start_restored : (o : Option (List ℕ)) (r : Region) → (restore o r).start ≡ r.start
start_restored None r = refl
start_restored (Some b) r = refl

pub start_remade : (w : World) (r : Region) → (remade w r).start ≡ r.start
start_remade w r = ap (λ (q : Region). q.start) (remade_is w r) ∙ (start_by (patches w) (restore (own_image w r) r) ∙ start_restored (own_image w r) r)

-- only the start of a region decides what it holds
image_at : (w : World) (r q : Region) → r.start ≡ q.start → own_image w r ≡ own_image w q
image_at w r q e = ap (λ (n : ℕ). own_image w (record r { start = n })) e

again : (o : Option (List ℕ)) (ps : List Patch) (r : Region) → AllEndIn r.start (length r.bytes) ps → fold patched (restore o (fold patched (restore o r) ps)) ps ≡ fold patched (restore o r) ps
again None ps r e = patched_again ps r e
again (Some b) ps r e = ap (λ (q : Region). fold patched q ps) (same_region _ _ (start_by ps (restore (Some b) r)) (permission_by ps (restore (Some b) r)) refl)

remade_again : (w : World) (r : Region) → AllEndIn r.start (length r.bytes) (patches w) → remade w (remade w r) ≡ remade w r
remade_again w r e =
    remade_is w (remade w r)
    ∙ (ap (λ (o : Option (List ℕ)). fold patched (restore o (remade w r)) (patches w)) (image_at w (remade w r) r (start_remade w r))
    ∙ (ap (λ (q : Region). fold patched (restore (own_image w r) q) (patches w)) (remade_is w r)
    ∙ (again (own_image w r) (patches w) r e ∙ sym (remade_is w r))))

-- a field that begins in a region ends in it
abbrev pub FieldsEndIn : World → Type 0
FieldsEndIn w = (r : Region) → In r w.regions → AllEndIn r.start (length r.bytes) (patches w)

pub regions_again : (w : World) → FieldsEndIn w → (relink (relink w)).regions ≡ (relink w).regions
regions_again w e = map_twice (remade w) (remade w) w.regions ∙ map_same (λ r. remade w (remade w r)) (remade w) w.regions (λ r h. remade_again w r (e r h))

-- the field `linked` of a coherent world, for each world that a command relinks at its end
pub relink_twice : (w : World) → FieldsEndIn w → relink (relink w) ≡ relink w
relink_twice w e = ap (λ (rs : List Region). record w { regions = rs; links = links_of w }) (regions_again w e)
