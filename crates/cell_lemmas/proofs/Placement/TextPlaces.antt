-- A class begins at a page, so an offset of the text class has the rest of its address.
use Rattle.std.proofs.Common.{◌≡◌, refl, arith, ℕ, ◌+◌, ◌-◌, ◌≤◌, inl, true, [], ◌∷◌, map, Option, Some, None}
use Rattle.std.specs.Prelude.{◌%◌, ◌==◌, unwrap_or}
use Rattle.std.specs.List.{list_all}
use Rattle.std.proofs.lemmas.Bool.{and_parts, eqb-true}
use Rattle.cell_num.specs.Lists.{equals, In}
use Rattle.cell_object.specs.declared.object.Section.{Section as ObjectSection}
use Rattle.cell_world.specs.Coherent.{IsReady, is_in_space, is_placed, stands_by_rule}
use Rattle.cell_world.specs.Placed.Layout.{offset_in, is_in_class, sections_in}
use Rattle.cell_world.specs.Linked.Relink.{class_start}
use Rattle.cell_world.specs.declared.layout.Class.TheVariants.{Text, ReadOnly, Writable}
use Rattle.cell_world.specs.declared.layout.Class.{Class}
use Rattle.cell_world.specs.Linked.Target.{start_of}
use Rattle.cell_world.specs.World.{World, Cell}
use Rattle.cell_num.proofs.Elements.{all-In, filter-In}
use Rattle.cell_lemmas.proofs.Fields.FieldsInside.{region_There}
use Rattle.cell_lemmas.proofs.Placement.Places.{whole_region}

page_begins : (base start at : ℕ) → base ≤ start → (start - base) % 4096 ≡ 0 → base % 4096 ≡ 0 → start ≡ at → at % 4 ≡ 0
page_begins base start at low aligned whole same = omega (arith, low, aligned, whole, same)

same_rest : (start first offset value : ℕ) → start ≡ first + offset → first % 4 ≡ 0 → (start + value) % 4 ≡ (offset + value) % 4
same_rest start first offset value at whole = omega (arith, at, whole)

module _ (w : World) (h : IsReady w) where
  class_whole : (c : Cell) → In c w.cells → (class : Class) → unwrap_or (class_start c class) 0 % 4 ≡ 0
  class_whole c k class = go (class_start c class) refl
    where
      go : (o : Option ℕ) → class_start c class ≡ o → unwrap_or o 0 % 4 ≡ 0
      go None e = refl
      go (Some start) e =
          let q = region_There w h.regions h.apart h.placed h.objects c k class start e in
          let whole = whole_region w q.0 (all-In (is_in_space w) w.regions h.in_space q.0 q.1) in
          page_begins w.base q.0.start start whole.0 whole.1 h.space.aligned q.2

  stands : (c : Cell) → In c w.cells → (s : ObjectSection) → In s (sections_in Text c.object) → start_of c.placed s.number ≡ unwrap_or (class_start c Text) 0 + offset_in (sections_in Text c.object) s.number
  stands c k s i =
      let p = and_parts (equals (map (λ p. p.section) c.places) (map (λ s. s.number) c.object.sections)) (list_all (stands_by_rule c) (Text ∷ ReadOnly ∷ Writable ∷ [])) (all-In is_placed w.cells h.placed c k) in
      let rule : stands_by_rule c Text ≡ true = all-In (stands_by_rule c) (Text ∷ ReadOnly ∷ Writable ∷ []) p.1 Text (inl refl) in
      eqb-true (start_of c.placed s.number) (unwrap_or (class_start c Text) 0 + offset_in (sections_in Text c.object) s.number)
      (all-In (λ (s : ObjectSection). start_of c.placed s.number == unwrap_or (class_start c Text) 0 + offset_in (sections_in Text c.object) s.number) (sections_in Text c.object) rule s i)

  pub text_rest : (c : Cell) → In c w.cells → (s : ObjectSection) → In s c.object.sections → s.exec ≡ true → (value : ℕ) → (start_of c.placed s.number + value) % 4 ≡ (offset_in (sections_in Text c.object) s.number + value) % 4
  text_rest c k s i x value =
      same_rest (start_of c.placed s.number) (unwrap_or (class_start c Text) 0) (offset_in (sections_in Text c.object) s.number) value
      (stands c k s (filter-In (is_in_class Text) c.object.sections s i x)) (class_whole c k Text)
