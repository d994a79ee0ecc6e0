-- In a world whose cells are placed, a field that begins in a region ends in it.
use Rattle.std.proofs.Common.{◌≡◌, refl, sym, ◌∙◌, ap, subst, arith, ℕ, zero, suc, ◌+◌, ◌/◌, ◌%◌, ◌≤◌, ◌<◌, ◌⊎◌, inl, inr, Bool, true, false, cond, not, ◌&&◌, ◌||◌, List, [], ◌∷◌, ◌++◌, map, length, replicate, true≢false, Option, Some, None, length-append}
use Rattle.std.proofs.lemmas.List.{length-replicate}
use Rattle.std.specs.Prelude.{All, fold, flat_map, option_map, unwrap_or, nat_lt, nat_le, ◌==◌}
use Rattle.std.specs.List.{list_any, list_all}
use Rattle.std.proofs.lemmas.Bool.{and_parts, and_from, ltb-true, leb-true, eqb-true, eq-eqb}
use Rattle.cell_object.specs.declared.object.Section.{Section as ObjectSection}
use Rattle.cell_object.specs.declared.object.Entry.{Entry}
use Rattle.cell_object.specs.declared.object.Fill.{Fill}
use Rattle.cell_object.specs.declared.object.Fill.TheVariants.{Prog, Note, Zero}
use Rattle.cell_object.specs.Parts.{section_of}
use Rattle.cell_object.specs.Sound.{IsSoundObject, is_sound_section, is_sound_entry_in, is_zero}
use Rattle.cell_num.specs.Bits.{bytes_of}
use Rattle.cell_num.specs.Kinds.{width_of, is_instruction}
use Rattle.cell_num.specs.Lists.{each_pair, In}
use Rattle.cell_world.specs.World.{World, Cell, Region}
use Rattle.cell_world.specs.Linked.Target.{start_of}
use Rattle.cell_world.specs.Linked.Field.{fields_among, fields_of, place_of, is_at}
use Rattle.cell_world.specs.Linked.Relink.{class_start, Patch, patch_of, patches_of, bound_entries}
use Rattle.cell_world.specs.Placed.Layout.{is_in_class, sections_in, image_of, laid_out, to_pages, own_bytes, gap, permission_of, offset_from, offset_in, class_of}
use Rattle.cell_world.specs.declared.layout.Class.TheVariants.{Text, ReadOnly, Writable}
use Rattle.cell_world.specs.declared.layout.Class.{Class}
use Rattle.cell_world.specs.Coherent.{Shape, shape_of, with_shape, class_shape, stack_shape, wanted_shapes, is_placed, stands_by_rule, ends_before, IsLoadable}
use Rattle.cell_num.proofs.Elements.{all-In, found-In, filter-In, In-map, In-left, In-filtered, In-flat_map, flat_map-In, pairs-In, first_has}
use Rattle.cell_lemmas.proofs.Naming.Known.{object_sound}
use Rattle.cell_lemmas.proofs.Targeting.Targets.{entry_parts}
use Rattle.cell_lemmas.proofs.Fields.Relinked.{FieldsEndIn}

pub length-bytes_of : (k n : ℕ) → length (bytes_of k n) ≡ k
length-bytes_of zero n = refl
length-bytes_of (suc k) n = ap suc (length-bytes_of k (n / 256))

pub In-with_shape : (s x : Shape) (xs : List Shape) → (x ≡ s) ⊎ In x xs → In x (with_shape s xs)
In-with_shape s x [] h = h
In-with_shape s x (t ∷ xs) h = go (nat_lt s.start t.start) h (In-with_shape s x xs)
  where
    go : (b : Bool) → (x ≡ s) ⊎ ((x ≡ t) ⊎ In x xs) → ((x ≡ s) ⊎ In x xs → In x (with_shape s xs)) → In x (cond b (s ∷ t ∷ xs) (t ∷ with_shape s xs))
    go true k f = k
    go false (inl e) f = inr (f (inl e))
    go false (inr (inl e)) f = inl e
    go false (inr (inr k)) f = inr (f (inr k))

pub In-fold_shape : (xs acc : List Shape) (x : Shape) → In x acc ⊎ In x xs → In x (fold (λ shapes s. with_shape s shapes) acc xs)
In-fold_shape [] acc x (inl h) = h
In-fold_shape [] acc x (inr h) = absurd h
In-fold_shape (s ∷ xs) acc x (inl h) = In-fold_shape xs (with_shape s acc) x (inl (In-with_shape s x acc (inr h)))
In-fold_shape (s ∷ xs) acc x (inr (inl e)) = In-fold_shape xs (with_shape s acc) x (inl (In-with_shape s x acc (inl e)))
In-fold_shape (s ∷ xs) acc x (inr (inr h)) = In-fold_shape xs (with_shape s acc) x (inr h)

pub among-In : (entries seen : List Entry) (f : Entry) → In f (fields_among seen entries) → In f entries
among-In [] seen f h = absurd h
among-In (e ∷ entries) seen f h = go (list_any (is_at e) seen) h (among-In entries seen f) (among-In entries (e ∷ seen) f)
  where
    go : (b : Bool) → In f (elim b as (λ _. List Entry) [ true ↦ fields_among seen entries | false ↦ e ∷ fields_among (e ∷ seen) entries ]) → (In f (fields_among seen entries) → In f entries) → (In f (fields_among (e ∷ seen) entries) → In f entries) → (f ≡ e) ⊎ In f entries
    go true k a b = inr (a k)
    go false (inl e) a b = inl e
    go false (inr k) a b = inr (b k)

longer : (sections : List ObjectSection) (bytes : List ℕ) → length bytes ≤ length (laid_out bytes sections)
longer [] bytes = omega arith
longer (s ∷ sections) bytes =
    let next : List ℕ = bytes ++ replicate (gap (length bytes) s.align) 0 ++ own_bytes s s.fill in
    let e : length next ≡ length (bytes ++ replicate (gap (length bytes) s.align) 0) + length (own_bytes s s.fill) = length-append (bytes ++ replicate (gap (length bytes) s.align) 0) (own_bytes s s.fill) in
    omega (arith, e, length-append bytes (replicate (gap (length bytes) s.align) 0), longer sections next)

pub own_length : (s : ObjectSection) (fill : Fill) → (is_zero fill || length s.bytes == s.size) ≡ true → length (own_bytes s fill) ≡ s.size
own_length s Prog h = eqb-true _ _ h
own_length s Note h = eqb-true _ _ h
own_length s Zero h = length-replicate s.size 0

abbrev pub Sized : List ObjectSection → Type 0
Sized sections = (s : ObjectSection) → In s sections → length (own_bytes s s.fill) ≡ s.size

abbrev pub After : List ℕ → ObjectSection → List ℕ
After bytes t = bytes ++ replicate (gap (length bytes) t.align) 0 ++ own_bytes t t.fill

-- a section ends in the bytes that are laid out
pub ends_laid : (sections : List ObjectSection) (bytes : List ℕ) (n : ℕ) → n ≡ length bytes → Sized sections → (s : ObjectSection) → In s sections → ((t : ObjectSection) → In t sections → t.number ≡ s.number → t ≡ s)
    → offset_from n sections s.number + s.size ≤ length (laid_out bytes sections)
ends_laid [] bytes n e z s k u = absurd k
ends_laid (t ∷ sections) bytes n e z s k u = go (t.number == s.number) refl (ends_laid sections (After bytes t) (n + gap n t.align + t.size) l (λ v m. z v (inr m)) s)
  where
    l : n + gap n t.align + t.size ≡ length (After bytes t)
    l = subst (λ (n : ℕ). n + gap n t.align + t.size ≡ length (bytes ++ replicate (gap (length bytes) t.align) 0 ++ own_bytes t t.fill)) (sym e)
        (omega (arith, length-append (bytes ++ replicate (gap (length bytes) t.align) 0) (own_bytes t t.fill), length-append bytes (replicate (gap (length bytes) t.align) 0), length-replicate {A = ℕ} (gap (length bytes) t.align) 0, z t (inl refl)))

    elsewhere : (t.number == s.number) ≡ false → (s ≡ t) ⊎ In s sections → In s sections
    elsewhere f (inl e) = absurd (true≢false (sym (eq-eqb t.number s.number (ap (λ (x : ObjectSection). x.number) (sym e))) ∙ f))
    elsewhere f (inr m) = m

    go : (b : Bool) → (t.number == s.number) ≡ b → (In s sections → ((v : ObjectSection) → In v sections → v.number ≡ s.number → v ≡ s) → offset_from (n + gap n t.align + t.size) sections s.number + s.size ≤ length (laid_out (After bytes t) sections))
        → cond b (n + gap n t.align) (offset_from (n + gap n t.align + t.size) sections s.number) + s.size ≤ length (laid_out (After bytes t) sections)
    go true f ih =
        let same : t ≡ s = u t (inl refl) (eqb-true t.number s.number f) in
        let size : t.size ≡ s.size = ap (λ (x : ObjectSection). x.size) same in
        omega (arith, size, l, longer sections (After bytes t))
    go false f ih = ih (elsewhere f k) (λ v m. u v (inr m))

paged : (bytes : List ℕ) → length bytes ≤ length (to_pages bytes)
paged [] = omega arith
paged (b ∷ bytes) = omega (arith, length-append (b ∷ bytes) (replicate (gap (length (b ∷ bytes)) 4096) 0))

-- each section is of a class
pub class_In : (s : ObjectSection) → is_in_class (class_of s) s ≡ true
class_In s = go s.exec refl s.write refl
  where
    go : (e : Bool) → s.exec ≡ e → (v : Bool) → s.write ≡ v → is_in_class (cond e Text (cond v Writable ReadOnly)) s ≡ true
    go true h v k = h
    go false h false k = and_from _ _ (subst (λ b. not b ≡ true) (sym h) refl) (subst (λ b. not b ≡ true) (sym k) refl)
    go false h true k = and_from _ _ k (subst (λ b. not b ≡ true) (sym h) refl)

abbrev pub classes : List Class
classes = Text ∷ ReadOnly ∷ Writable ∷ []

pub class-In : (class : Class) → In class classes
class-In Text = inl refl
class-In ReadOnly = inr (inl refl)
class-In Writable = inr (inr (inl refl))

module _ (w : World) (regions : map shape_of w.regions ≡ wanted_shapes w) (apart : each_pair ends_before w.regions ≡ true) (placed : list_all is_placed w.cells ≡ true) (objects : All (λ c. IsLoadable c.object) w.cells) where
  pub shape-In : (c : Cell) → In c w.cells → (class : Class) (start : ℕ) → class_start c class ≡ Some start → In (record { start = start; permission = permission_of class; size = length (image_of (sections_in class c.object)) }) (wanted_shapes w)
  shape-In c k class start h =
      let s : Shape = record { start = start; permission = permission_of class; size = length (image_of (sections_in class c.object)) } in
      In-fold_shape (flat_map (λ c. flat_map (class_shape c) classes) w.cells ++ map stack_shape w.tasks) [] s
      (inr (In-left (flat_map (λ c. flat_map (class_shape c) classes) w.cells) (map stack_shape w.tasks) s
      (flat_map-In (λ c. flat_map (class_shape c) classes) w.cells c s k (flat_map-In (class_shape c) classes class s (class-In class) (go (class_start c class) h)))))
    where
      go : (o : Option ℕ) → o ≡ Some start → In (record { start = start; permission = permission_of class; size = length (image_of (sections_in class c.object)) })
          (elim o as (λ _. List Shape) [ None ↦ [] | Some start ↦ record { start = start; permission = permission_of class; size = length (image_of (sections_in class c.object)) } ∷ [] ])
      go o e = subst (λ o. In (record { start = start; permission = permission_of class; size = length (image_of (sections_in class c.object)) })
          (elim o as (λ _. List Shape) [ None ↦ [] | Some start ↦ record { start = start; permission = permission_of class; size = length (image_of (sections_in class c.object)) } ∷ [] ])) (sym e) (inl refl)

  -- the region of a class of a cell
  pub region_There : (c : Cell) → In c w.cells → (class : Class) (start : ℕ) → class_start c class ≡ Some start → (q : Region) × In q w.regions × (q.start ≡ start) × (length q.bytes ≡ length (image_of (sections_in class c.object)))
  region_There c k class start h =
      let s : Shape = record { start = start; permission = permission_of class; size = length (image_of (sections_in class c.object)) } in
      let m = In-map shape_of w.regions s (subst (λ (l : List Shape). In s l) (sym regions) (shape-In c k class start h)) in
      (m.0, m.1, ap (λ (x : Shape). x.start) (sym m.2), ap (λ (x : Shape). x.size) (sym m.2))

  pub stands : (c : Cell) → In c w.cells → (class : Class) (s : ObjectSection) → In s (sections_in class c.object) → start_of c.placed s.number ≡ unwrap_or (class_start c class) 0 + offset_in (sections_in class c.object) s.number
  stands c k class s m =
      eqb-true _ _ (all-In (λ s. start_of c.placed s.number == unwrap_or (class_start c class) 0 + offset_in (sections_in class c.object) s.number) (sections_in class c.object)
      (all-In (stands_by_rule c) classes (and_parts _ (list_all (stands_by_rule c) classes) (all-In is_placed w.cells placed c k)).1 class (class-In class)) s m)

  -- a section of a placed cell stands in the region of its class
  pub section_class : (c : Cell) → In c w.cells → (s : ObjectSection) → In s c.object.sections
      → (q : Region) × In q w.regions × (q.start ≤ start_of c.placed s.number) × (start_of c.placed s.number + s.size ≤ q.start + length q.bytes) × (class_start c (class_of s) ≡ Some q.start)
  section_class c k s m =
      let p : IsSoundObject c.object = object_sound w objects c k in
      let d : Class = class_of s in
      let n : In s (sections_in d c.object) = filter-In (is_in_class d) c.object.sections s m (class_In s) in
      let f = first_has (sections_in d c.object) s n in
      let b : class_start c d ≡ Some (start_of c.placed f.0.number) = ap (option_map (λ s. start_of c.placed s.number)) f.1 in
      let q = region_There c k d (start_of c.placed f.0.number) b in
      let at : start_of c.placed s.number ≡ start_of c.placed f.0.number + offset_in (sections_in d c.object) s.number = stands c k d s n ∙ ap (λ (o : Option ℕ). unwrap_or o 0 + offset_in (sections_in d c.object) s.number) b in
      let e : offset_in (sections_in d c.object) s.number + s.size ≤ length (laid_out [] (sections_in d c.object)) = ends_laid (sections_in d c.object) [] 0 refl (sized p d) s n (unique p d) in
      (q.0, q.1, omega (arith, q.2, at), omega (arith, q.2, q.3, at, e, paged (laid_out [] (sections_in d c.object))), b ∙ ap (λ (x : ℕ). Some x) (sym q.2))
    where
      sized : IsSoundObject c.object → (class : Class) → Sized (sections_in class c.object)
      sized p class t i = own_length t t.fill (and_parts _ (is_zero t.fill || length t.bytes == t.size) (all-In is_sound_section c.object.sections p.sections t (In-filtered (is_in_class class) c.object.sections t i))).1

      unique : IsSoundObject c.object → (class : Class) (t : ObjectSection) → In t (sections_in class c.object) → t.number ≡ s.number → t ≡ s
      unique p class t i e = pick (pairs-In (λ a b. nat_lt a.number b.number) c.object.sections p.numbers t s (In-filtered (is_in_class class) c.object.sections t i) m)
        where
          pick : (t ≡ s) ⊎ ((nat_lt t.number s.number ≡ true) ⊎ (nat_lt s.number t.number ≡ true)) → t ≡ s
          pick (inl x) = x
          pick (inr (inl x)) = absurd (omega (arith, ltb-true t.number s.number x, e))
          pick (inr (inr x)) = absurd (omega (arith, ltb-true s.number t.number x, e))

  pub section_region : (c : Cell) → In c w.cells → (s : ObjectSection) → In s c.object.sections
      → (q : Region) × In q w.regions × (q.start ≤ start_of c.placed s.number) × (start_of c.placed s.number + s.size ≤ q.start + length q.bytes) × ((class : Class) × (class_start c class ≡ Some q.start))
  section_region c k s m = let r = section_class c k s m in (r.0, r.1, r.2, r.3, (class_of s, r.4))

  pub section_inside : (c : Cell) → In c w.cells → (s : ObjectSection) → In s c.object.sections → (q : Region) × In q w.regions × (q.start ≤ start_of c.placed s.number) × (start_of c.placed s.number + s.size ≤ q.start + length q.bytes)
  section_inside c k s m = let r = section_region c k s m in (r.0, r.1, r.2, r.3)

  -- and so does a field
  pub field_region : (c : Cell) → In c w.cells → (f : Entry) → In f c.object.entries
      → (q : Region) × In q w.regions × (q.start ≤ place_of c.placed f) × (place_of c.placed f + width_of f.kind ≤ q.start + length q.bytes) × ((class : Class) × (class_start c class ≡ Some q.start))
  field_region c k f m = go (section_of c.object f.section) refl (entry_parts c.object (object_sound w objects c k) f m).0
    where
      go : (o : Option ObjectSection) → section_of c.object f.section ≡ o → unwrap_or (option_map (is_sound_entry_in f) o) false ≡ true
          → (q : Region) × In q w.regions × (q.start ≤ place_of c.placed f) × (place_of c.placed f + width_of f.kind ≤ q.start + length q.bytes) × ((class : Class) × (class_start c class ≡ Some q.start))
      go None e h = absurd (true≢false (sym h))
      go (Some s) e h =
          let i : In s c.object.sections × ((s.number == f.section) ≡ true) = found-In (λ s. s.number == f.section) c.object.sections s e in
          let n : s.number ≡ f.section = eqb-true s.number f.section i.1 in
          let r = section_region c k s i.0 in
          let at : start_of c.placed s.number ≡ start_of c.placed f.section = ap (start_of c.placed) n in
          let fit : f.offset + width_of f.kind ≤ s.size = leb-true (f.offset + width_of f.kind) s.size (and_parts (not (is_zero s.fill)) (nat_le (f.offset + width_of f.kind) s.size) (and_parts (not (is_zero s.fill) && nat_le (f.offset + width_of f.kind) s.size) (not (is_instruction f.kind) || s.exec && (f.offset % 4 == 0)) h).0).1 in
          (r.0, r.1, omega (arith, r.2, at), omega (arith, r.3, at, fit), r.4)

  pub field_inside : (c : Cell) → In c w.cells → (f : Entry) → In f c.object.entries → (q : Region) × In q w.regions × (q.start ≤ place_of c.placed f) × (place_of c.placed f + width_of f.kind ≤ q.start + length q.bytes)
  field_inside c k f m = let r = field_region c k f m in (r.0, r.1, r.2, r.3)

  one_region : (r q : Region) → In r w.regions → In q w.regions → (x n : ℕ) → r.start ≤ x → x < r.start + length r.bytes → q.start ≤ x → x + n ≤ q.start + length q.bytes → x + n ≤ r.start + length r.bytes
  one_region r q k l x n a b c d = go (pairs-In ends_before w.regions apart r q k l)
    where
      go : (r ≡ q) ⊎ ((ends_before r q ≡ true) ⊎ (ends_before q r ≡ true)) → x + n ≤ r.start + length r.bytes
      go (inl e) = subst (λ (v : Region). x + n ≤ v.start + length v.bytes) (sym e) d
      go (inr (inl e)) = absurd (omega (arith, leb-true (r.start + length r.bytes) q.start e, b, c))
      go (inr (inr e)) = omega (arith, leb-true (q.start + length q.bytes) r.start e, a, b, d)

  -- what relinking asks of the places
  pub fields_end_in : FieldsEndIn w
  fields_end_in r k p m a b =
      let c = In-flat_map (patches_of w) w.cells p m in
      let f = In-map (patch_of c.0 (bound_entries w c.0)) (fields_of c.0.object) p c.2 in
      let q = field_inside c.0 c.1 f.0 (among-In c.0.object.entries [] f.0 f.1) in
      let x : p.addr ≡ place_of c.0.placed f.0 = ap (λ (v : Patch). v.addr) f.2 in
      let n : length p.bytes ≡ width_of f.0.kind = ap (λ (v : Patch). length v.bytes) f.2 ∙ length-bytes_of (width_of f.0.kind) _ in
      one_region r q.0 k q.1 p.addr (length p.bytes) a b (omega (arith, q.2, x)) (omega (arith, q.3, x, n))
