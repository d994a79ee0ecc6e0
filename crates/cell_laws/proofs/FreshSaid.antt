-- What is said of a section's fresh bytes: they are as many as the section has, and each field's value stands at its offset.
use Rattle.std.proofs.Common.{◌≡◌, refl, sym, ◌∙◌, ap, subst, arith, ℕ, ◌+◌, ◌-◌, ◌≤◌, ◌⊎◌, inl, inr, true, not, List, [], ◌∷◌, length, true≢false}
use Rattle.std.specs.Prelude.{All, fold, slice_range, ◌==◌, ◌||◌}
use Rattle.std.specs.List.{list_all}
use Rattle.std.proofs.lemmas.Bool.{and_parts, eqb-true}
use Rattle.cell_num.specs.Kinds.{width_of}
use Rattle.cell_num.specs.Lists.{each_pair, In}
use Rattle.cell_object.specs.declared.object.Section.{Section as ObjectSection}
use Rattle.cell_object.specs.declared.object.Entry.{Entry}
use Rattle.cell_object.specs.Sound.{is_sound_section, is_zero}
use Rattle.cell_world.specs.World.{World, Cell}
use Rattle.cell_world.specs.Coherent.{IsCoherent}
use Rattle.cell_world.specs.Linked.Field.{fields_of}
use Rattle.cell_world.specs.Linked.Fresh.{fields_in, value_bytes, with_value, fresh_bytes}
use Rattle.cell_world.specs.Placed.Layout.{own_bytes}
use Rattle.cell_world.specs.Running.Memory.{pasted}
use Rattle.cell_world.specs.Linked.Target.{start_of}
use Rattle.cell_num.proofs.Elements.{In-All, all-In, In-filtered, filter-Passes}
use Rattle.cell_lemmas.proofs.Fields.FieldsApart.{AreFieldsApart, fields_apart}
use Rattle.cell_lemmas.proofs.Fields.FieldsInside.{among-In, length-bytes_of, own_length}
use Rattle.cell_lemmas.proofs.Naming.Known.{object_sound}
use Rattle.cell_num.proofs.Sublists.{pairs-filter}
use Rattle.cell_lemmas.proofs.Placement.Offsets.{Apart}
use Rattle.cell_lemmas.proofs.Fields.Patches.{length-pasted}
use Rattle.cell_lemmas.proofs.Fields.Regrown.{among_apart, is_elsewhere}
use Rattle.cell_lemmas.proofs.Fields.Slices.{slice, slice_length, untouched}
use Rattle.cell_laws.proofs.Windows.{paste_inside}
use Rattle.cell_laws.proofs.Parts.{paste_whole}
use Rattle.cell_laws.proofs.Fresh.{ends_here}

module _ (w : World) (c : Cell) (n : ℕ) where
  abbrev Fit : List Entry → Type 0
  Fit fs = (g : Entry) → In g fs → g.offset + width_of g.kind ≤ n

  value_size : (g : Entry) → length (value_bytes w c g) ≡ width_of g.kind
  value_size g = length-bytes_of (width_of g.kind) _

  one_size : (bytes : List ℕ) (g : Entry) → g.offset + width_of g.kind ≤ n → length bytes ≡ n → length (with_value w c bytes g) ≡ n
  one_size bytes g h e = length-pasted bytes (value_bytes w c g) g.offset (omega (arith, value_size g, h, e)) ∙ e

  pub valued_size : (fs : List Entry) → Fit fs → (bytes : List ℕ) → length bytes ≡ n → length (fold (with_value w c) bytes fs) ≡ n
  valued_size [] h bytes e = e
  valued_size (g ∷ fs) h bytes e = valued_size fs (λ x i. h x (inr i)) (with_value w c bytes g) (one_size bytes g (h g (inl refl)) e)

  -- the values of other fields leave the place of one
  left_alone : (f : Entry) (fs : List Entry) → Fit fs → ((g : Entry) → In g fs → Apart f.offset (width_of f.kind) g.offset (width_of g.kind)) → (bytes : List ℕ) → length bytes ≡ n
      → slice (fold (with_value w c) bytes fs) f.offset (width_of f.kind) ≡ slice bytes f.offset (width_of f.kind)
  left_alone f [] h a bytes e = refl
  left_alone f (g ∷ fs) h a bytes e =
      left_alone f fs (λ x i. h x (inr i)) (λ x i. a x (inr i)) (with_value w c bytes g) (one_size bytes g (h g (inl refl)) e)
      ∙ untouched bytes (value_bytes w c g) g.offset f.offset (width_of f.kind) (omega (arith, value_size g, h g (inl refl), e)) (sized (a g (inl refl)))
    where
      sized : Apart f.offset (width_of f.kind) g.offset (width_of g.kind) → (f.offset + width_of f.kind ≤ g.offset) ⊎ (g.offset + length (value_bytes w c g) ≤ f.offset)
      sized (inl l) = inl l
      sized (inr l) = inr (omega (arith, l, value_size g))

  there : (bytes : List ℕ) (f : Entry) → f.offset + width_of f.kind ≤ n → length bytes ≡ n → slice (with_value w c bytes f) f.offset (width_of f.kind) ≡ value_bytes w c f
  there bytes f h e =
      let z : f.offset - f.offset ≡ 0 = omega arith in
      paste_inside bytes (value_bytes w c f) f.offset f.offset (width_of f.kind) (omega arith) (omega (arith, value_size f)) (omega (arith, h, e))
      ∙ (ap (λ (k : ℕ). pasted (slice bytes f.offset (width_of f.kind)) k (value_bytes w c f)) z
      ∙ paste_whole (slice bytes f.offset (width_of f.kind)) (value_bytes w c f)
      (slice_length bytes f.offset (width_of f.kind) ∙ omega (arith, h, e, value_size f)))

  pub valued_at : (fs : List Entry) → Fit fs → ((f g : Entry) → In f fs → In g fs → is_elsewhere f g ≡ true → Apart f.offset (width_of f.kind) g.offset (width_of g.kind))
      → each_pair is_elsewhere fs ≡ true → (f : Entry) → In f fs → (bytes : List ℕ) → length bytes ≡ n → slice (fold (with_value w c) bytes fs) f.offset (width_of f.kind) ≡ value_bytes w c f
  valued_at [] h a p f i bytes e = absurd i
  valued_at (g ∷ fs) h a p f (inl s) bytes e =
      let q = and_parts (list_all (is_elsewhere g) fs) (each_pair is_elsewhere fs) p in
      subst (λ (f : Entry). slice (fold (with_value w c) (with_value w c bytes g) fs) f.offset (width_of f.kind) ≡ value_bytes w c f) (sym s)
      (left_alone g fs (λ x i. h x (inr i)) (λ x i. a g x (inl refl) (inr i) (all-In (is_elsewhere g) fs q.0 x i)) (with_value w c bytes g) (one_size bytes g (h g (inl refl)) e)
      ∙ there bytes g (h g (inl refl)) e)
  valued_at (g ∷ fs) h a p f (inr i) bytes e =
      valued_at fs (λ x j. h x (inr j)) (λ x y j k. a x y (inr j) (inr k)) (and_parts (list_all (is_elsewhere g) fs) (each_pair is_elsewhere fs) p).1 f i (with_value w c bytes g) (one_size bytes g (h g (inl refl)) e)

module _ (w : World) (h : IsCoherent w) (c : Cell) (i : In c w.cells) (s : ObjectSection) (m : In s c.object.sections) where
  in_object : (g : Entry) → In g (fields_in c.object s) → In g (fields_of c.object)
  in_object g k = In-filtered (λ (g : Entry). g.section == s.number) (fields_of c.object) g k

  number : (g : Entry) → In g (fields_in c.object s) → g.section ≡ s.number
  number g k = eqb-true g.section s.number (filter-Passes (λ (g : Entry). g.section == s.number) (fields_of c.object) g k)

  fit : (g : Entry) → In g (fields_in c.object s) → g.offset + width_of g.kind ≤ s.size
  fit g k = ends_here w h c i s m g (in_object g k) (number g k)

  own_size : length (own_bytes s s.fill) ≡ s.size
  own_size = own_length s s.fill (and_parts _ (is_zero s.fill || length s.bytes == s.size) (all-In is_sound_section c.object.sections (object_sound w h.ready.objects c i).sections s m)).1

  apart : (f g : Entry) → In f (fields_in c.object s) → In g (fields_in c.object s) → is_elsewhere f g ≡ true → Apart f.offset (width_of f.kind) g.offset (width_of g.kind)
  apart f g k l e = go (fields_apart w h.ready c c i i f g (among-In c.object.entries [] f (in_object f k)) (among-In c.object.entries [] g (in_object g l)))
    where
      same : start_of c.placed f.section ≡ start_of c.placed g.section
      same = ap (start_of c.placed) (number f k ∙ sym (number g l))

      go : AreFieldsApart c c f g → Apart f.offset (width_of f.kind) g.offset (width_of g.kind)
      go (inl x) = absurd (true≢false (sym e ∙ ap not x.1))
      go (inr (inl x)) = inl (omega (arith, x, same))
      go (inr (inr x)) = inr (omega (arith, x, same))

  pub fresh_size : length (fresh_bytes w c s) ≡ s.size
  fresh_size = valued_size w c s.size (fields_in c.object s) fit (own_bytes s s.fill) own_size

  pub fresh_value : (f : Entry) → In f (fields_in c.object s) → slice (fresh_bytes w c s) f.offset (width_of f.kind) ≡ value_bytes w c f
  fresh_value f k =
      valued_at w c s.size (fields_in c.object s) fit apart (pairs-filter is_elsewhere (λ (g : Entry). g.section == s.number) (fields_of c.object) (among_apart c.object.entries [])) f k (own_bytes s s.fill) own_size

pub fresh_sizes : (w : World) → IsCoherent w → All (λ c. All (λ s. length (fresh_bytes w c s) ≡ s.size) c.object.sections) w.cells
fresh_sizes w h = In-All (λ (c : Cell). All (λ (s : ObjectSection). length (fresh_bytes w c s) ≡ s.size) c.object.sections) w.cells
    (λ c i. In-All (λ (s : ObjectSection). length (fresh_bytes w c s) ≡ s.size) c.object.sections (λ s m. fresh_size w h c i s m))

pub fresh_values : (w : World) → IsCoherent w → All (λ c. All (λ s. All (λ f. slice_range (fresh_bytes w c s) f.offset (f.offset + width_of f.kind) ≡ value_bytes w c f) (fields_in c.object s)) c.object.sections) w.cells
fresh_values w h = In-All (λ (c : Cell). All (λ (s : ObjectSection). All (λ (f : Entry). slice_range (fresh_bytes w c s) f.offset (f.offset + width_of f.kind) ≡ value_bytes w c f) (fields_in c.object s)) c.object.sections) w.cells
    (λ c i. In-All (λ (s : ObjectSection). All (λ (f : Entry). slice_range (fresh_bytes w c s) f.offset (f.offset + width_of f.kind) ≡ value_bytes w c f) (fields_in c.object s)) c.object.sections
    (λ s m. In-All (λ (f : Entry). slice_range (fresh_bytes w c s) f.offset (f.offset + width_of f.kind) ≡ value_bytes w c f) (fields_in c.object s)
    (λ f k. let e : f.offset + width_of f.kind - f.offset ≡ width_of f.kind = omega arith in
    ap (λ (n : ℕ). slice (fresh_bytes w c s) f.offset n) e ∙ fresh_value w h c i s m f k)))
