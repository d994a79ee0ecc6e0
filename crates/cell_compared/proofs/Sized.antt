-- What sections hold once they are linked anew has their sizes.
use Rattle.std.proofs.Common.{◌≡◌, refl, sym, ◌∙◌, ap, subst, ℕ, ◌+◌, ◌≤◌, inl, inr, List, [], ◌∷◌, length, map}
use Rattle.std.specs.Prelude.{fold, ◌==◌}
use Rattle.std.proofs.lemmas.Bool.{eqb-true}
use Rattle.cell_num.specs.Kinds.{width_of}
use Rattle.cell_num.specs.Lists.{In}
use Rattle.cell_num.proofs.Elements.{In-filtered, filter-Passes, map_same}
use Rattle.cell_object.specs.declared.object.Entry.{Entry}
use Rattle.cell_object.specs.declared.object.Object.{Object}
use Rattle.cell_object.specs.declared.object.Section.{Section}
use Rattle.cell_described.specs.Faults.{object_at}
use Rattle.cell_described.specs.declared.cell.DescribedCell.{DescribedCell}
use Rattle.cell_world.specs.Linked.Field.{field_value_of, fields_of}
use Rattle.cell_world.specs.Linked.Fresh.{fields_in}
use Rattle.cell_world.specs.Linked.Relink.{bound_entries}
use Rattle.cell_relinked.specs.Contents.{first_bytes, with_field}
use Rattle.cell_relinked.specs.Fit.{IsFit, start_among}
use Rattle.cell_relinked.specs.Linking.{seen_by, world_in}
use Rattle.cell_relinked.specs.declared.ground.Ground.{Ground}
use Rattle.cell_relinked.proofs.OneField.{pasted_size}
use Rattle.cell_relinked.proofs.Sizes.{all_inside, first_size}
use Rattle.cell_compared.specs.Shown.{relinked_in}

map_map : {X Y Z : Type 0} (f : Y → Z) (g : X → Y) (xs : List X) → map f (map g xs) ≡ map (λ x. f (g x)) xs
map_map f g [] = refl
map_map {Z = Z} f g (x ∷ xs) = ap (λ (zs : List Z). f (g x) ∷ zs) (map_map f g xs)

-- fields that end in the bytes keep their number
fold_size : (value : Entry → ℕ) (fields : List Entry) (own : List ℕ) (n : ℕ) → length own ≡ n → ((f : Entry) → In f fields → f.offset + width_of f.kind ≤ n) → length (fold (with_field value) own fields) ≡ n
fold_size value [] own n e h = e
fold_size value (f ∷ fields) own n e h =
    fold_size value fields (with_field value own f) n
    (pasted_size own f.offset (width_of f.kind) (value f) (subst (λ (m : ℕ). f.offset + width_of f.kind ≤ m) (sym e) (h f (inl refl))) ∙ e)
    (λ g i. h g (inr i))

pub relinked_sizes : (g : Ground) (objects : List Object) (d : DescribedCell) → IsFit objects d
    → map (λ bytes. length bytes) (map (relinked_in g objects (seen_by g objects d)) (object_at objects d.object).sections) ≡ map (λ s. s.size) (object_at objects d.object).sections
relinked_sizes g objects d fit =
    map_map (λ (bytes : List ℕ). length bytes) (relinked_in g objects (seen_by g objects d)) (object_at objects d.object).sections
    ∙ map_same (λ (s : Section). length (relinked_in g objects (seen_by g objects d) s)) (λ (s : Section). s.size) (object_at objects d.object).sections
    (λ s m.
    fold_size (field_value_of (seen_by g objects d).placed (bound_entries (world_in g objects) (seen_by g objects d))) (fields_in (object_at objects d.object) s)
    (first_bytes g.told.now (start_among d.places s.number) s) s.size (first_size (object_at objects d.object) fit.loadable.sound g.told.now (start_among d.places s.number) s m)
    (λ f i.
    all_inside (object_at objects d.object) fit.loadable.sound f s (In-filtered (λ (f : Entry). f.section == s.number) (fields_of (object_at objects d.object)) f i) m
    (sym (eqb-true f.section s.number (filter-Passes (λ (f : Entry). f.section == s.number) (fields_of (object_at objects d.object)) f i)))))
