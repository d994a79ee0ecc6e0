-- Addresses in a machine that can be linked are far below the numbers of 64 bits.
use Rattle.std.proofs.Common.{◌≡◌, refl, sym, ◌∙◌, ap, arith, ℕ, ◌+◌, ◌*◌, ◌≤◌, ◌<◌, ◌^◌, true, false, List, [], ◌∷◌, map, true≢false}
use Rattle.std.specs.Prelude.{Option, Some, None, All, find, option_map, unwrap_or, nat_le, nat_lt, ◌==◌}
use Rattle.std.specs.List.{list_all}
use Rattle.std.proofs.lemmas.Bool.{and_parts}
use Rattle.std.proofs.lemmas.Bool.Decides.{nat_tests}
use Rattle.cell_num.specs.Lists.{each_pair, equals, In}
use Rattle.cell_object.specs.declared.object.Home.{Home}
use Rattle.cell_object.specs.declared.object.Home.TheVariants.{Undef, Abs, Inside, Elsewhere}
use Rattle.cell_object.specs.declared.object.Object.{Object}
use Rattle.cell_object.specs.declared.object.Section.{Section as ObjectSection}
use Rattle.cell_object.specs.declared.object.Symbol.{Symbol}
use Rattle.cell_object.specs.Parts.{is_defined, section_of}
use Rattle.cell_object.specs.Sound.{IsSoundObject, is_sound_home, is_sound_section, is_sound_symbol}
use Rattle.cell_world.specs.declared.state.SecPlace.{SecPlace}
use Rattle.cell_world.specs.World.{World, Cell}
use Rattle.cell_world.specs.Coherent.{IsLoadable, is_placed, stands_by_rule}
use Rattle.cell_world.specs.declared.layout.Class.TheVariants.{Text, ReadOnly, Writable}
use Rattle.cell_world.specs.Linked.Target.{start_of}
use Rattle.cell_lemmas.specs.Linkable.{IsLinkable}
use Rattle.cell_num.proofs.Elements.{All-In, all-In, found-In}
use Rattle.cell_lemmas.proofs.Placement.Inside.{places_lie}
use Rattle.cell_placed.specs.Low.{IsLow}
use Rattle.cell_machine.proofs.Lists.{pairs-map, same_names}

section_small : (o : Object) → IsSoundObject o → (n : ℕ) (s : ObjectSection) → section_of o n ≡ Some s → s.size ≤ 16777216
section_small o sound n s found =
    let at = found-In _ o.sections s found in
    let parts = all-In is_sound_section o.sections sound.sections s at.0 in
    grind (arith, nat_tests)

-- a symbol in a section has a small value
value_low : (o : Object) → IsSoundObject o → (s : Symbol) → In s o.symbols → is_defined s.home ≡ true → s.value < 2 ^ 63
value_low o sound s i = go s.home refl
  where
    sound_home : is_sound_home o s s.home ≡ true
    sound_home = (and_parts (is_sound_home o s s.home) _ (all-In (is_sound_symbol o) o.symbols sound.symbols s i)).0

    inside : (n : ℕ) (found : Option ObjectSection) → section_of o n ≡ found → unwrap_or (option_map (λ section. nat_le s.value section.size) found) false ≡ true → s.value < 2 ^ 63
    inside n None e h = absurd (true≢false (sym h))
    inside n (Some section) e h = let small = section_small o sound n section e in grind (arith, nat_tests)

    go : (home : Home) → s.home ≡ home → is_defined home ≡ true → s.value < 2 ^ 63
    go Undef e h = absurd (true≢false (sym h))
    go Abs e h = absurd (true≢false (sym h))
    go (Inside n) e h = inside n (section_of o n) refl (ap (is_sound_home o s) (sym e) ∙ sound_home)
    go Elsewhere e h = absurd (true≢false (sym h))

-- places in the order of the sections
places_ordered : (o : Object) (places : List SecPlace) → each_pair (λ (a b : ObjectSection). nat_lt a.number b.number) o.sections ≡ true
    → equals (map (λ (p : SecPlace). p.section) places) (map (λ (s : ObjectSection). s.number) o.sections) ≡ true
    → each_pair (λ (a b : SecPlace). nat_lt a.section b.section) places ≡ true
places_ordered o places rise same =
    sym (pairs-map nat_lt (λ (p : SecPlace). p.section) places)
    ∙ (ap (each_pair nat_lt) (same_names (map (λ (p : SecPlace). p.section) places) (map (λ (s : ObjectSection). s.number) o.sections) same)
    ∙ (pairs-map nat_lt (λ (s : ObjectSection). s.number) o.sections ∙ rise))

module _ (W : World) (linkable : IsLinkable W) (ends : W.base + 4096 * W.pages < 2 ^ 63) (d : Cell) (here : In d W.cells) where
  pub place_low : (q : SecPlace) → In q d.places → q.start < 2 ^ 63
  place_low q i =
      let all = All-In (λ (c : Cell). All (λ (p : SecPlace). (W.base ≤ p.start) × (p.start ≤ W.base + 4096 * W.pages)) c.places) W.cells (places_lie W linkable) d here in
      let b = All-In (λ (p : SecPlace). (W.base ≤ p.start) × (p.start ≤ W.base + 4096 * W.pages)) d.places all q i in
      omega (arith, b.1, ends)

  start_low : (section : ℕ) → start_of d.placed section < 2 ^ 63
  start_low section = go (find (λ (q : SecPlace). q.section == section) d.places) refl
    where
      go : (found : Option SecPlace) → find (λ (q : SecPlace). q.section == section) d.places ≡ found → unwrap_or (option_map (λ (q : SecPlace). q.start) found) 0 < 2 ^ 63
      go None e = omega arith
      go (Some q) e = place_low q (found-In _ d.places q e).0

  sound : IsSoundObject d.object
  sound = (All-In (λ (x : Cell). IsLoadable x.object) W.cells linkable.objects d here).sound

  placed : equals (map (λ (p : SecPlace). p.section) d.places) (map (λ (s : ObjectSection). s.number) d.object.sections) ≡ true
  placed = (and_parts _ (list_all (stands_by_rule d) (Text ∷ ReadOnly ∷ Writable ∷ [])) (all-In is_placed W.cells linkable.placed d here)).0

  pub is_low : IsLow d.placed
  is_low = record { ordered = places_ordered d.object d.places sound.numbers placed; starts = start_low; values = value_low d.object sound }
