-- A store outside all fields, in a writable region, keeps the machine coherent.
use Rattle.std.proofs.Common.{◌≡◌, refl, sym, ◌∙◌, ap, subst, ℕ, ◌+◌, ◌-◌, ◌≤◌, ◌⊎◌, inl, inr, Bool, true, false, ◌&&◌, List, length, map, true≢false, None}
use Rattle.std.specs.Prelude.{fold, nat_lt, nat_le, ◌==◌, ◌*◌, ◌%◌}
use Rattle.std.proofs.lemmas.Bool.{and_from, ltb-false}
use Rattle.cell_num.specs.Bits.{bytes_of}
use Rattle.cell_num.specs.Kinds.{width_of}
use Rattle.cell_object.specs.declared.object.Entry.{Entry}
use Rattle.cell_world.specs.World.{World, Cell, Region}
use Rattle.cell_world.specs.Running.Memory.{covers, pasted, written}
use Rattle.cell_world.specs.Linked.Field.{fields_of, field_value_of, place_of}
use Rattle.cell_world.specs.Linked.Relink.{Patch, patch_of, patched, patches_of, bound_entries, remade, restored}
use Rattle.cell_world.specs.Coherent.{IsCoherent, Shape, shape_of, is_in_space}
use Rattle.cell_world.specs.Running.Execute.{allows, is_field_at, seen_in}
use Rattle.cell_num.specs.Lists.{In}
use Rattle.cell_num.proofs.Elements.{all-In, In-all, none-In, In-map, In-flat_map}
use Rattle.cell_lemmas.proofs.Fields.FieldsInside.{length-bytes_of}
use Rattle.cell_lemmas.proofs.Fields.Relinked.{patches, own_image}
use Rattle.cell_num.proofs.Sublists.{fold_commutes}
use Rattle.cell_lemmas.proofs.Fields.Fixed.{remade_fixed, links_fixed, relinked}
use Rattle.cell_lemmas.proofs.Fields.Writes.{Holds, written_in, written_out, written_exchanged}
use Rattle.cell_lemmas.proofs.Placement.Bare.{writable_bare, restored_bare}
use Rattle.cell_lemmas.proofs.Tasks.Stores.{holds_store, keeps_apart, keeps_shape, keeps_shapes}

not_both : (a b c d : ℕ) → (nat_lt a b && nat_lt c d) ≡ false → (b ≤ a) ⊎ (d ≤ c)
not_both a b c d h = go (nat_lt a b) refl (nat_lt c d) refl
  where
    go : (x : Bool) → nat_lt a b ≡ x → (y : Bool) → nat_lt c d ≡ y → (b ≤ a) ⊎ (d ≤ c)
    go false e y f = inl (ltb-false a b e)
    go true e false f = inr (ltb-false c d f)
    go true e true f = absurd (true≢false (sym (and_from (nat_lt a b) (nat_lt c d) e f) ∙ h))

-- what is asked of a region by its shape alone
shape_space : (w : World) (r s : Region) → shape_of r ≡ shape_of s → is_in_space w s ≡ true → is_in_space w r ≡ true
shape_space w r s e h =
    subst (λ (x : Shape). (nat_le w.base x.start && ((x.start - w.base) % 4096 == 0) && nat_lt 0 x.size && (x.size % 4096 == 0) && nat_le (x.start + x.size) (w.base + 4096 * w.pages)) ≡ true) (sym e) h

module _ (w : World) (h : IsCoherent w) (addr : ℕ) (new : List ℕ) (free : (seen_in w).is_sealed addr (length new) ≡ false) where
  -- no field meets the store
  pub field_apart : (c : Cell) → In c w.cells → (f : Entry) → In f (fields_of c.object) → (place_of c.placed f + width_of f.kind ≤ addr) ⊎ (addr + length new ≤ place_of c.placed f)
  field_apart c k f m =
      let s : is_field_at addr (length new) c ≡ false = none-In (is_field_at addr (length new)) w.cells free c k in
      not_both addr (place_of c.placed f + width_of f.kind) (place_of c.placed f) (addr + length new) (none-In _ (fields_of c.object) s f m)

  -- and no patch
  patch_apart : (p : Patch) → In p (patches w) → (p.addr + length p.bytes ≤ addr) ⊎ (addr + length new ≤ p.addr)
  patch_apart p m =
      let c = In-flat_map (patches_of w) w.cells p m in
      let f = In-map (patch_of c.0 (bound_entries w c.0)) (fields_of c.0.object) p c.2 in
      let n : length (bytes_of (width_of f.0.kind) (field_value_of c.0.placed (bound_entries w c.0) f.0)) ≡ width_of f.0.kind = length-bytes_of (width_of f.0.kind) (field_value_of c.0.placed (bound_entries w c.0) f.0) in
      subst (λ (q : Patch). (q.addr + length q.bytes ≤ addr) ⊎ (addr + length new ≤ q.addr)) (sym f.2)
      (subst (λ n. (place_of c.0.placed f.0 + n ≤ addr) ⊎ (addr + length new ≤ place_of c.0.placed f.0)) (sym n) (field_apart c.0 c.1 f.0 f.1))

  -- the store commutes with all patches
  patches_commute : (r : Region) → Holds addr new r → fold patched (written r addr new) (patches w) ≡ written (fold patched r (patches w)) addr new
  patches_commute r k = (fold_commutes patched (λ x. written x addr new) (Holds addr new) (patches w) (λ p m x q. written_exchanged x addr new p.addr p.bytes q (patch_apart p m)) r k).0

  module _ (may : allows w.regions (λ p. p.write) addr (length new) ≡ true) where
    pub stored_shape : (r : Region) → In r w.regions → shape_of (written r addr new) ≡ shape_of r
    stored_shape = keeps_shape w.regions h.ready.apart addr new may

    remade_stored : (r : Region) → In r w.regions → remade w (written r addr new) ≡ written r addr new
    remade_stored r i = go (covers r addr) refl
      where
        go : (b : Bool) → covers r addr ≡ b → remade w (written r addr new) ≡ written r addr new
        go false c = subst (λ x. remade w x ≡ x) (sym (written_out r addr new c)) (remade_fixed w h.linked r i)
        go true c =
            let g : Holds addr new r × (r.permission.write ≡ true) = holds_store w.regions h.ready.apart addr new may r i c in
            let bare : own_image w r ≡ None = writable_bare w h r i g.1 in
            let old : restored w r ≡ r = restored_bare w r bare in
            let now : restored w (written r addr new) ≡ written r addr new =
            subst (λ x. restored w x ≡ x) (sym (written_in r addr new c)) (restored_bare w (record r { bytes = pasted r.bytes (addr - r.start) new }) bare) in
            ap (λ x. fold patched x (patches w)) now
            ∙ (patches_commute r g.0
            ∙ (ap (λ x. written (fold patched x (patches w)) addr new) (sym old)
            ∙ ap (λ x. written x addr new) (remade_fixed w h.linked r i)))

    pub store_coherent : IsCoherent (record w { regions = map (λ r. written r addr new) w.regions })
    store_coherent = record {
      ready = record {
        alone = h.ready.alone;
        together = h.ready.together;
        counted = h.ready.counted;
        parents = h.ready.parents;
        memory = record {
          regions = keeps_shapes w.regions h.ready.apart addr new may ∙ h.ready.regions;
          in_space = In-all (is_in_space w) (map (λ r. written r addr new) w.regions) (λ r i. at r (In-map (λ x. written x addr new) w.regions r i));
          apart = keeps_apart w.regions h.ready.apart addr new may;
        };
        running = h.ready.running;
        origins = h.ready.origins;
        space = h.ready.space;
      };
      linked = relinked (record w { regions = map (λ r. written r addr new) w.regions }) (links_fixed w h.linked) (λ r i. again r (In-map (λ x. written x addr new) w.regions r i));
    }
      where
        at : (r : Region) → (x : Region) × In x w.regions × (r ≡ written x addr new) → is_in_space w r ≡ true
        at r f = subst (λ v. is_in_space w v ≡ true) (sym f.2) (shape_space w (written f.0 addr new) f.0 (stored_shape f.0 f.1) (all-In (is_in_space w) w.regions h.ready.in_space f.0 f.1))

        again : (r : Region) → (x : Region) × In x w.regions × (r ≡ written x addr new) → remade w r ≡ r
        again r f = subst (λ v. remade w v ≡ v) (sym f.2) (remade_stored f.0 f.1)
