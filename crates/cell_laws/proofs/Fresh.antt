-- What the sections and the fields of a coherent machine hold.
use Rattle.std.proofs.Common.{◌≡◌, refl, sym, ◌∙◌, ap, subst, arith, ℕ, ◌+◌, ◌-◌, ◌≤◌, ◌<◌, ◌⊎◌, inl, inr, Bool, true, false, cond, not, ◌||◌, List, [], ◌∷◌, map, length, true≢false, Option, Some}
use Rattle.std.specs.Prelude.{All, filter, fold, unwrap_or, ◌==◌}
use Rattle.std.proofs.lemmas.Bool.{and_parts, and_from, eqb-true, eq-eqb}
use Rattle.std.proofs.lemmas.List.Concat.{flat_map_single}
use Rattle.std.proofs.lemmas.List.Folds.{fold-map}
use Rattle.cell_num.specs.Kinds.{width_of}
use Rattle.cell_object.specs.declared.object.Section.{Section as ObjectSection}
use Rattle.cell_object.specs.declared.object.Entry.{Entry}
use Rattle.cell_object.specs.Sound.{IsSoundObject, is_sound_section, is_zero}
use Rattle.cell_world.specs.World.{World, Cell, Region}
use Rattle.cell_world.specs.Coherent.{IsCoherent}
use Rattle.cell_world.specs.Linked.Field.{is_at, fields_of, place_of}
use Rattle.cell_world.specs.Linked.Fresh.{fields_in, value_bytes, with_value, fresh_bytes}
use Rattle.cell_world.specs.Placed.Layout.{class_of, is_in_class, sections_in, image_of, offset_in, own_bytes, permission_of}
use Rattle.cell_world.specs.declared.layout.Class.{Class}
use Rattle.cell_world.specs.declared.layout.Class.TheVariants.{Text, ReadOnly, Writable}
use Rattle.cell_world.specs.Running.Memory.{pasted, read}
use Rattle.cell_world.specs.Linked.Relink.{class_start, restored}
use Rattle.cell_world.specs.Linked.Target.{start_of}
use Rattle.cell_num.specs.Lists.{In}
use Rattle.cell_num.proofs.Elements.{In-All, all-In, In-filtered, filter-In, filter-Passes, fold_same, pairs-In}
use Rattle.cell_lemmas.proofs.Fields.FieldsInside.{Sized, among-In, class_In, field_inside, length-bytes_of, own_length, section_class, stands}
use Rattle.cell_lemmas.proofs.Placement.Inside.{wide}
use Rattle.cell_lemmas.proofs.Naming.Known.{object_sound}
use Rattle.cell_lemmas.proofs.Fields.Relinked.{patches, restore, restored_is}
use Rattle.cell_num.proofs.Sublists.{filter_same, map_filter}
use Rattle.cell_lemmas.proofs.Fields.Slices.{slice, slice_length}
use Rattle.cell_lemmas.proofs.Placement.Offsets.{Apart}
use Rattle.cell_lemmas.proofs.Fields.FieldsApart.{AreFieldsApart, AreSectionsApart, Within, fields_apart, sections_apart, unique, within}
use Rattle.cell_lemmas.proofs.Fields.Regrown.{among_apart, filter_flat, is_elsewhere}
use Rattle.cell_laws.proofs.Laid.{image_slice}
use Rattle.cell_laws.proofs.Windows.{window, begins_in, IsIn, IsOut, pasted_here}
use Rattle.cell_laws.proofs.Parts.{patch, one_left, paste_whole, read_window, image_there, restored_shape, out, inside, window_is, only_own}

-- two fields of an object at one place are the same
one_field : (c : Cell) (f g : Entry) → In f (fields_of c.object) → In g (fields_of c.object) → is_at g f ≡ true → f ≡ g
one_field c f g i j at = go (pairs-In is_elsewhere (fields_of c.object) (among_apart c.object.entries []) f g i j)
  where
    turned : is_at f g ≡ true
    turned =
        let k = and_parts (f.section == g.section) (f.offset == g.offset) at in
        and_from (g.section == f.section) (g.offset == f.offset) (eq-eqb g.section f.section (sym (eqb-true f.section g.section k.0))) (eq-eqb g.offset f.offset (sym (eqb-true f.offset g.offset k.1)))

    go : (f ≡ g) ⊎ ((is_elsewhere f g ≡ true) ⊎ (is_elsewhere g f ≡ true)) → f ≡ g
    go (inl e) = e
    go (inr (inl k)) = absurd (true≢false (sym k ∙ ap not at))
    go (inr (inr k)) = absurd (true≢false (sym k ∙ ap not turned))

module _ (w : World) (h : IsCoherent w) (c : Cell) (i : In c w.cells) where
  -- a field is another one, or has no byte of this one
  other_field : (f : Entry) → In f (fields_of c.object) → (d : Cell) → In d w.cells → (g : Entry) → In g (fields_of d.object)
      → ((c ≡ d) × (f ≡ g)) ⊎ Apart (place_of d.placed g) (width_of g.kind) (place_of c.placed f) (width_of f.kind)
  other_field f m d j g k = go (fields_apart w h.ready c d i j f g (among-In c.object.entries [] f m) (among-In d.object.entries [] g k))
    where
      go : AreFieldsApart c d f g → ((c ≡ d) × (f ≡ g)) ⊎ Apart (place_of d.placed g) (width_of g.kind) (place_of c.placed f) (width_of f.kind)
      go (inl e) = inl (e.0, one_field c f g m (subst (λ (z : Cell). In g (fields_of z.object)) (sym e.0) k) e.1)
      go (inr (inl l)) = inr (inr l)
      go (inr (inr l)) = inr (inl l)

  module _ (f : Entry) (m : In f (fields_of c.object)) (q : Region) (there : In q w.regions) (low : q.start ≤ place_of c.placed f) (high : place_of c.placed f + width_of f.kind ≤ q.start + length q.bytes) where
    abbrev x : ℕ
    x = place_of c.placed f

    abbrev n : ℕ
    n = width_of f.kind

    own_field : IsIn x n (patch w c f)
    own_field = inside w h q there x n (wide f.kind) low high c f (omega arith) (omega arith)

    field_parts : (d : Cell) → In d w.cells → (g : Entry) → In g (fields_of d.object) → IsIn x n (patch w d g) ⊎ IsOut x n (patch w d g)
    field_parts d j g k = go (other_field f m d j g k)
      where
        go : ((c ≡ d) × (f ≡ g)) ⊎ Apart (place_of d.placed g) (width_of g.kind) x n → IsIn x n (patch w d g) ⊎ IsOut x n (patch w d g)
        go (inl e) = inl (subst (λ (z : Cell). IsIn x n (patch w z g)) e.0 (subst (λ (z : Entry). IsIn x n (patch w c z)) e.1 own_field))
        go (inr a) = inr (out w h q there x n (wide f.kind) low high d g a)

    not_begun : (d : Cell) → In d w.cells → (g : Entry) → In g (fields_of d.object) → (c ≡ d → f ≡ g → ⊥) → begins_in x n (patch w d g) ≡ false
    not_begun d j g k other = go (other_field f m d j g k)
      where
        go : ((c ≡ d) × (f ≡ g)) ⊎ Apart (place_of d.placed g) (width_of g.kind) x n → begins_in x n (patch w d g) ≡ false
        go (inl e) = absurd (other e.0 e.1)
        go (inr a) = (out w h q there x n (wide f.kind) low high d g a).begins

    only_patch : filter (begins_in x n) (patches w) ≡ patch w c f ∷ []
    only_patch =
        only_own w h q there x n (wide f.kind) low high c i (λ d j e g k. not_begun d j g k (λ z _. e z))
        ∙ (ap (filter (begins_in x n)) (sym (flat_map_single (patch w c) (fields_of c.object)))
        ∙ (filter_flat (begins_in x n) (λ g. patch w c g ∷ []) (fields_of c.object)
        ∙ (one_left (λ g. filter (begins_in x n) (patch w c g ∷ [])) is_elsewhere (fields_of c.object) f (among_apart c.object.entries []) m
        (λ g k o. ap (λ (b : Bool). cond b (patch w c g ∷ []) []) (not_begun c i g k (λ _ e. far g o e)))
        ∙ ap (λ (b : Bool). cond b (patch w c f ∷ []) []) own_field.begins)))
      where
        here : (g : Entry) → is_elsewhere g g ≡ true → ⊥
        here g k = true≢false (sym k ∙ ap not (and_from (g.section == g.section) (g.offset == g.offset) (eq-eqb g.section g.section refl) (eq-eqb g.offset g.offset refl)))

        far : (g : Entry) → (is_elsewhere f g ≡ true) ⊎ (is_elsewhere g f ≡ true) → f ≡ g → ⊥
        far g (inl k) e = here g (subst (λ (z : Entry). is_elsewhere z g ≡ true) e k)
        far g (inr k) e = here g (subst (λ (z : Entry). is_elsewhere g z ≡ true) e k)

    holds_value : window x n q ≡ value_bytes w c f
    holds_value =
        let s = restored_shape w h q there in
        let e : length (window x n (restored w q)) ≡ n = slice_length (restored w q).bytes (x - (restored w q).start) n ∙ omega (arith, s.0, s.1, low, high) in
        let z : x - x ≡ 0 = omega arith in
        window_is w h q there x n (wide f.kind) low high field_parts
        ∙ (ap (fold (pasted_here x n) (window x n (restored w q))) only_patch
        ∙ (ap (λ (k : ℕ). pasted (window x n (restored w q)) k (value_bytes w c f)) z
        ∙ paste_whole (window x n (restored w q)) (value_bytes w c f) (e ∙ sym (length-bytes_of n _))))

  pub field_holds : (f : Entry) → In f (fields_of c.object) → read w (place_of c.placed f) (width_of f.kind) ≡ Some (value_bytes w c f)
  field_holds f m =
      let q = field_inside w h.ready.regions h.ready.apart h.ready.placed h.ready.objects c i f (among-In c.object.entries [] f m) in
      read_window w h q.0 q.1 (place_of c.placed f) (width_of f.kind) (wide f.kind) q.2 q.3
      ∙ ap (λ (b : List ℕ). Some b) (holds_value f m q.0 q.1 q.2 q.3)

  module _ (s : ObjectSection) (m : In s c.object.sections) where
    sound : IsSoundObject c.object
    sound = object_sound w h.ready.objects c i

    -- a field that is known to be in the section ends in it
    pub ends_here : (g : Entry) → In g (fields_of c.object) → g.section ≡ s.number → g.offset + width_of g.kind ≤ s.size
    ends_here g k e =
        let t : Within c g = within c sound g (among-In c.object.entries [] g k) in
        let u : t.section ≡ s = unique c sound (class_of t.section) s m t.section (filter-In (is_in_class (class_of t.section)) c.object.sections t.section t.there (class_In t.section)) (t.number ∙ e) in
        omega (arith, t.ends, ap (λ (z : ObjectSection). z.size) u)

    -- a field is in the section, or has no byte of it
    section_field : (d : Cell) → In d w.cells → (g : Entry) → In g (fields_of d.object) → ((c ≡ d) × (g.section ≡ s.number)) ⊎ Apart (place_of d.placed g) (width_of g.kind) (start_of c.placed s.number) s.size
    section_field d j g k = go (sections_apart w h.ready c d i j s t.section m t.there)
      where
        t : Within d g
        t = within d (object_sound w h.ready.objects d j) g (among-In d.object.entries [] g k)

        at : start_of d.placed t.section.number ≡ start_of d.placed g.section
        at = ap (start_of d.placed) t.number

        go : AreSectionsApart c d s t.section → ((c ≡ d) × (g.section ≡ s.number)) ⊎ Apart (place_of d.placed g) (width_of g.kind) (start_of c.placed s.number) s.size
        go (inl e) = inl (e.0, sym t.number ∙ sym e.1)
        go (inr (inl l)) = inr (inr (omega (arith, l, at)))
        go (inr (inr l)) = inr (inl (omega (arith, l, at, t.ends)))

    module _ (pos : 0 < s.size) (q : Region) (there : In q w.regions) (low : q.start ≤ start_of c.placed s.number) (high : start_of c.placed s.number + s.size ≤ q.start + length q.bytes) where
      abbrev at : ℕ
      at = start_of c.placed s.number

      within_section : (g : Entry) → In g (fields_of c.object) → g.section ≡ s.number → IsIn at s.size (patch w c g)
      within_section g k e =
          let a : start_of c.placed g.section ≡ at = ap (start_of c.placed) e in
          let l : g.offset + width_of g.kind ≤ s.size = ends_here g k e in
          inside w h q there at s.size pos low high c g (omega (arith, a)) (omega (arith, a, l))

      section_parts : (d : Cell) → In d w.cells → (g : Entry) → In g (fields_of d.object) → IsIn at s.size (patch w d g) ⊎ IsOut at s.size (patch w d g)
      section_parts d j g k = go (section_field d j g k)
        where
          go : ((c ≡ d) × (g.section ≡ s.number)) ⊎ Apart (place_of d.placed g) (width_of g.kind) at s.size → IsIn at s.size (patch w d g) ⊎ IsOut at s.size (patch w d g)
          go (inl e) = inl (subst (λ (z : Cell). IsIn at s.size (patch w z g)) e.0 (within_section g (subst (λ (z : Cell). In g (fields_of z.object)) (sym e.0) k) e.1))
          go (inr a) = inr (out w h q there at s.size pos low high d g a)

      not_begun_in : (d : Cell) → In d w.cells → (g : Entry) → In g (fields_of d.object) → (c ≡ d → g.section ≡ s.number → ⊥) → begins_in at s.size (patch w d g) ≡ false
      not_begun_in d j g k other = go (section_field d j g k)
        where
          go : ((c ≡ d) × (g.section ≡ s.number)) ⊎ Apart (place_of d.placed g) (width_of g.kind) at s.size → begins_in at s.size (patch w d g) ≡ false
          go (inl e) = absurd (other e.0 e.1)
          go (inr a) = (out w h q there at s.size pos low high d g a).begins

      begins_where : (g : Entry) → In g (fields_of c.object) → begins_in at s.size (patch w c g) ≡ (g.section == s.number)
      begins_where g k = go (g.section == s.number) refl
        where
          go : (b : Bool) → (g.section == s.number) ≡ b → begins_in at s.size (patch w c g) ≡ b
          go true e = (within_section g k (eqb-true g.section s.number e)).begins
          go false e = not_begun_in c i g k (λ _ a. true≢false (sym (eq-eqb g.section s.number a) ∙ e))

      only_section : filter (begins_in at s.size) (patches w) ≡ map (patch w c) (fields_in c.object s)
      only_section =
          only_own w h q there at s.size pos low high c i (λ d j e g k. not_begun_in d j g k (λ z _. e z))
          ∙ (sym (map_filter (patch w c) (begins_in at s.size) (fields_of c.object))
          ∙ ap (map (patch w c)) (filter_same (λ g. begins_in at s.size (patch w c g)) (λ g. g.section == s.number) (fields_of c.object) begins_where))

      -- made in the section's bytes, a patch is the field's value at its offset
      values : (bytes : List ℕ) → fold (pasted_here at s.size) bytes (map (patch w c) (fields_in c.object s)) ≡ fold (with_value w c) bytes (fields_in c.object s)
      values bytes =
          fold-map (pasted_here at s.size) (patch w c) bytes (fields_in c.object s)
          ∙ fold_same (λ b g. pasted_here at s.size b (patch w c g)) (with_value w c) bytes (fields_in c.object s)
          (λ b g k. ap (λ (o : ℕ). pasted b o (value_bytes w c g)) (offset g (filter-Passes (λ (g : Entry). g.section == s.number) (fields_of c.object) g k)))
        where
          offset : (g : Entry) → (g.section == s.number) ≡ true → place_of c.placed g - at ≡ g.offset
          offset g e = let a : start_of c.placed g.section ≡ at = ap (start_of c.placed) (eqb-true g.section s.number e) in omega (arith, a)

      own_window : (class : Class) → class ≡ class_of s → (permission_of class).write ≡ false → class_start c class ≡ Some q.start → window at s.size (restored w q) ≡ own_bytes s s.fill
      own_window class is fixed e =
          let n : In s (sections_in class c.object) = filter-In (is_in_class class) c.object.sections s m (subst (λ (k : Class). is_in_class k s ≡ true) (sym is) (class_In s)) in
          let p : at ≡ q.start + offset_in (sections_in class c.object) s.number =
          stands w h.ready.regions h.ready.apart h.ready.placed h.ready.objects c i class s n ∙ ap (λ (o : Option ℕ). unwrap_or o 0 + offset_in (sections_in class c.object) s.number) e in
          let o : at - q.start ≡ offset_in (sections_in class c.object) s.number = omega (arith, p) in
          ap (window at s.size) (restored_is w q ∙ ap (λ (b : Option (List ℕ)). restore b q) (image_there w h c i class fixed q e))
          ∙ (ap (λ (k : ℕ). slice (image_of (sections_in class c.object)) k s.size) o
          ∙ image_slice (sections_in class c.object) sized s n (unique c sound class s m))
        where
          sized : Sized (sections_in class c.object)
          sized t k = own_length t t.fill (and_parts _ (is_zero t.fill || length t.bytes == t.size) (all-In is_sound_section c.object.sections sound.sections t (In-filtered (is_in_class class) c.object.sections t k))).1

      holds_fresh : (permission_of (class_of s)).write ≡ false → class_start c (class_of s) ≡ Some q.start → window at s.size q ≡ fresh_bytes w c s
      holds_fresh fixed e =
          window_is w h q there at s.size pos low high section_parts
          ∙ (ap (fold (pasted_here at s.size) (window at s.size (restored w q))) only_section
          ∙ (values (window at s.size (restored w q))
          ∙ ap (λ (b : List ℕ). fold (with_value w c) b (fields_in c.object s)) (own_window (class_of s) refl fixed e)))

  class_fixed : (s : ObjectSection) → s.write ≡ false → (permission_of (class_of s)).write ≡ false
  class_fixed s e = go s.exec s.write e
    where
      go : (x v : Bool) → v ≡ false → (permission_of (cond x Text (cond v Writable ReadOnly))).write ≡ false
      go true v e = refl
      go false false e = refl
      go false true e = e

  pub section_holds : (s : ObjectSection) → In s c.object.sections → s.write ≡ false → 0 < s.size → read w (start_of c.placed s.number) s.size ≡ Some (fresh_bytes w c s)
  section_holds s m fixed pos =
      let q = section_class w h.ready.regions h.ready.apart h.ready.placed h.ready.objects c i s m in
      read_window w h q.0 q.1 (start_of c.placed s.number) s.size pos q.2 q.3
      ∙ ap (λ (b : List ℕ). Some b) (holds_fresh s m pos q.0 q.1 q.2 q.3 (class_fixed s fixed) q.4)

pub fields_hold : (w : World) → IsCoherent w → All (λ c. All (λ f. read w (place_of c.placed f) (width_of f.kind) ≡ Some (value_bytes w c f)) (fields_of c.object)) w.cells
fields_hold w h = In-All (λ (c : Cell). All (λ (f : Entry). read w (place_of c.placed f) (width_of f.kind) ≡ Some (value_bytes w c f)) (fields_of c.object)) w.cells
    (λ c i. In-All (λ (f : Entry). read w (place_of c.placed f) (width_of f.kind) ≡ Some (value_bytes w c f)) (fields_of c.object) (λ f m. field_holds w h c i f m))

pub sections_hold : (w : World) → IsCoherent w → All (λ c. All (λ s. s.write ≡ false → 0 < s.size → read w (start_of c.placed s.number) s.size ≡ Some (fresh_bytes w c s)) c.object.sections) w.cells
sections_hold w h = In-All (λ (c : Cell). All (λ (s : ObjectSection). s.write ≡ false → 0 < s.size → read w (start_of c.placed s.number) s.size ≡ Some (fresh_bytes w c s)) c.object.sections) w.cells
    (λ c i. In-All (λ (s : ObjectSection). s.write ≡ false → 0 < s.size → read w (start_of c.placed s.number) s.size ≡ Some (fresh_bytes w c s)) c.object.sections (λ s m f l. section_holds w h c i s m f l))
