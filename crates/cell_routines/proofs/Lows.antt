-- A routine begins in the first four gigabytes of a section.
use Rattle.std.proofs.Common.{◌≡◌, refl, ap, subst, arith, inl, inr, ℕ, ◌+◌, ◌<◌, ◌≤◌, ◌^◌, Bool, true, false, not, ◌&&◌, ◌||◌, List, [], ◌∷◌, Option, Some, None, map, length}
use Rattle.std.specs.Prelude.{All, filter_map, nat_le, option_and_then, option_map, unwrap_or, ◌==◌, ◌%◌}
use Rattle.std.specs.List.{cons_option, list_all, list_any}
use Rattle.std.proofs.lemmas.Bool.{and_parts}
use Rattle.std.proofs.lemmas.Bool.Decides.{nat_tests}
use Rattle.cell_num.specs.Lists.{first, upto, where_true, In}
use Rattle.cell_object.specs.declared.object.Home.{Home}
use Rattle.cell_object.specs.declared.object.Home.TheVariants.{Undef, Abs, Inside, Elsewhere}
use Rattle.cell_object.specs.declared.object.Object.{Object}
use Rattle.cell_object.specs.declared.object.Section.{Section as ObjectSection}
use Rattle.cell_object.specs.declared.object.Symbol.{Symbol}
use Rattle.cell_object.specs.Parts.{section_of, symbol_at}
use Rattle.cell_object.specs.Sound.{is_sound_section, is_zero}
use Rattle.cell_world.specs.declared.state.NewCell.{NewCell}
use Rattle.cell_world.specs.Coherent.{IsLoadable}
use Rattle.cell_world.specs.Placed.Layout.{offset_in, sections_in}
use Rattle.cell_world.specs.declared.layout.Class.TheVariants.{Text}
use Rattle.cell_world.specs.Commands.SpawnCommand.{entry_offset, inside_of, is_entry_in}
use Rattle.cell_world.specs.Commands.SwapTransfer.{Begin as Place, begin_of, definition_named}
use Rattle.cell_world.specs.World.{attached}
use Rattle.cell_num.proofs.Elements.{All-In, all-In, found-In}
use Rattle.cell_routines.proofs.Named.{defined, of_definition}

-- the third of four tests
size_part : (a b c d : Bool) → (a && b && c && d) ≡ true → c ≡ true
size_part a b c d h = (and_parts (a && b) c (and_parts (a && b && c) d h).0).1

-- a section has 16 megabytes at most
sound_size : (s : ObjectSection) → is_sound_section s ≡ true → s.size ≤ 16777216
sound_size s h =
    let size = size_part (not (s.write && s.exec)) (list_any (λ k. s.align == 2 ^ k) (upto 13)) (nat_le s.size 16777216) (is_zero s.fill || length s.bytes == s.size) h in
    grind (arith, nat_tests)

-- an entry has four bytes in its section
within : (object : Object) (s : ObjectSection) (value : ℕ) → is_entry_in object value s ≡ true → value + 4 ≤ s.size
within object s value h =
    let last : nat_le (value + 4) s.size ≡ true = (and_parts (s.exec && (offset_in (sections_in Text object) s.number + value) % 4 == 0) (nat_le (value + 4) s.size) h).1 in
    grind (arith, nat_tests)

module _ (object : Object) (sound : list_all is_sound_section object.sections ≡ true) where
  abbrev passes : ℕ → Option ObjectSection → Bool
  passes value o = unwrap_or (option_map (is_entry_in object value) o) false

  section_low : (value n : ℕ) (o : Option ObjectSection) → section_of object n ≡ o → passes value o ≡ true → value < 2 ^ 32
  section_low value n None e h = absurd (cc h)
  section_low value n (Some s) e h =
      let i = (found-In (λ (t : ObjectSection). t.number == n) object.sections s e).0 in
      let size = sound_size s (all-In is_sound_section object.sections sound s i) in
      let end = within object s value h in
      omega (arith, size, end)

  true_low : (value n : ℕ) (b : Bool) (place : ℕ × ℕ) → passes value (section_of object n) ≡ b → where_true b (n, value) ≡ Some place → place.1 < 2 ^ 32
  true_low value n true place e h = let same : value ≡ place.1 = ap (λ (o : Option (ℕ × ℕ)). (unwrap_or o (0, value)).1) h in subst (λ (v : ℕ). v < 2 ^ 32) same (section_low value n (section_of object n) refl e)
  true_low value n false place e h = absurd (cc h)

  home_low : (s : Symbol) (home : Home) (place : ℕ × ℕ)
      → option_and_then (λ section. where_true (passes s.value (section_of object section)) (section, s.value)) (inside_of home) ≡ Some place → place.1 < 2 ^ 32
  home_low s Undef place h = absurd (cc h)
  home_low s Abs place h = absurd (cc h)
  home_low s Elsewhere place h = absurd (cc h)
  home_low s (Inside n) place h = true_low s.value n (passes s.value (section_of object n)) place refl h

  symbol_low : (o : Option Symbol) (place : ℕ × ℕ)
      → option_and_then (λ s. option_and_then (λ section. where_true (passes s.value (section_of object section)) (section, s.value)) (inside_of s.home)) o ≡ Some place → place.1 < 2 ^ 32
  symbol_low None place h = absurd (cc h)
  symbol_low (Some s) place h = home_low s s.home place h

  entry_low : (n : ℕ) (place : ℕ × ℕ) → entry_offset object n ≡ Some place → place.1 < 2 ^ 32
  entry_low n place h = symbol_low (symbol_at object n) place h

definition_low : (c : NewCell) (n : ℕ) (b : Place) → IsLoadable c.object → (o : Option (ℕ × ℕ)) → entry_offset c.object n ≡ o
    → option_map (λ place. let p : Place = record { cell = c.id.0; section = place.0; offset = place.1 } in p) o ≡ Some b → b.offset < 2 ^ 32
definition_low c n b loadable None e h = absurd (cc h)
definition_low c n b loadable (Some place) e h =
    let same : place.1 ≡ b.offset = ap (λ (o : Option Place). (unwrap_or o b).offset) h in
    subst (λ (v : ℕ). v < 2 ^ 32) same (entry_low c.object loadable.sound.sections n place e)

module _ (name : List ℕ) where
  first_low : (c : NewCell) (cells : List NewCell) (b : Place) → IsLoadable c.object → (begin_of (map attached cells) name ≡ Some b → b.offset < 2 ^ 32) → (o : Option ℕ)
      → option_and_then of_definition (first (cons_option (option_map (λ symbol. (attached c, symbol)) o) (filter_map (defined name) (map attached cells)))) ≡ Some b → b.offset < 2 ^ 32
  first_low c cells b loadable more None h = more h
  first_low c cells b loadable more (Some n) h = definition_low c n b loadable (entry_offset c.object n) refl h

  begin_low : (cells : List NewCell) → ((c : NewCell) → In c cells → IsLoadable c.object) → (b : Place) → begin_of (map attached cells) name ≡ Some b → b.offset < 2 ^ 32
  begin_low [] loadable b h = absurd (cc h)
  begin_low (c ∷ cells) loadable b h =
      first_low c cells b (loadable c (inl refl)) (begin_low cells (λ d i. loadable d (inr i)) b) (definition_named (attached c) name) h

pub begin_is_low : (cells : List NewCell) (name : List ℕ) (b : Place) → All (λ c. IsLoadable c.object) cells → begin_of (map attached cells) name ≡ Some b → b.offset < 2 ^ 32
begin_is_low cells name b loadable h = begin_low name cells (All-In (λ (c : NewCell). IsLoadable c.object) cells loadable) b h
