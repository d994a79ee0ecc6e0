-- The entry that the provider of a name has.
use Rattle.std.proofs.Common.{◌≡◌, refl, sym, ◌∙◌, ap, subst, ℕ, ◌+◌, Bool, true, false, ◌&&◌, List, Option, Some, None}
use Rattle.std.specs.Prelude.{◌%◌, ◌==◌, is_some, nat_le, option_map, option_and_then, unwrap_or}
use Rattle.std.proofs.lemmas.Bool.{eq-eqb, eqb-true}
use Rattle.cell_num.specs.Lists.{where_true, In}
use Rattle.cell_object.specs.declared.object.Home.{Home}
use Rattle.cell_object.specs.declared.object.Home.TheVariants.{Undef, Abs, Inside, Elsewhere}
use Rattle.cell_object.specs.declared.object.Section.{Section as ObjectSection}
use Rattle.cell_object.specs.declared.object.Symbol.{Symbol}
use Rattle.cell_object.specs.Parts.{section_of, symbol_at}
use Rattle.cell_num.specs.declared.ids.SecKey.{SecKey}
use Rattle.cell_space.specs.Joined.{placed_of}
use Rattle.cell_world.specs.declared.state.NewCell.{NewCell}
use Rattle.cell_world.specs.declared.state.Target.{Target}
use Rattle.cell_world.specs.declared.state.Target.TheVariants.{Section}
use Rattle.cell_world.specs.Coherent.{IsCoherent}
use Rattle.cell_world.specs.Names.{Provider, attached_provider}
use Rattle.cell_world.specs.Placed.Layout.{offset_in, sections_in}
use Rattle.cell_world.specs.declared.layout.Class.TheVariants.{Text}
use Rattle.cell_world.specs.Commands.SpawnCommand.{entry_address, entry_named, inside_of, is_entry_in}
use Rattle.cell_world.specs.Linked.Target.{own_target, provided_target, start_of}
use Rattle.cell_world.specs.World.{World, Cell, cell_of}
use Rattle.cell_num.proofs.Elements.{find_there, found-In}
use Rattle.cell_lemmas.proofs.Placement.TextPlaces.{text_rest}
use Rattle.cell_machine.specs.declared.machine.Machine.{Machine}
use Rattle.cell_machine.specs.Machine.{IsSound, world_of}
use Rattle.cell_schedule.specs.Starts.{entry_at, entry_in, is_entry_at}

where_executable : (e x y z : Bool) → (e ≡ true → x ≡ y) → (e && x && z) ≡ (e && y && z)
where_executable true x y z f = ap (λ b. b && z) (f refl)
where_executable false x y z f = refl

module _ (w : World) (h : IsCoherent w) where
  -- the offset and the address have the same rest
  same_test : (c : Cell) → In c w.cells → (n : ℕ) (s : ObjectSection) → section_of c.object n ≡ Some s → (value : ℕ) → is_entry_in c.object value s ≡ is_entry_at s value (start_of c.placed n + value)
  same_test c k n s e value =
      let f = found-In (λ (s : ObjectSection). s.number == n) c.object.sections s e in
      where_executable s.exec ((offset_in (sections_in Text c.object) s.number + value) % 4 == 0) ((start_of c.placed n + value) % 4 == 0) (nat_le (value + 4) s.size) (λ x.
      ap (λ (r : ℕ). r == 0) (sym (text_rest w h.ready c k s f.0 x value) ∙ ap (λ (m : ℕ). (start_of c.placed m + value) % 4) (eqb-true s.number n f.1)))

  module _ (c : Cell) (k : In c w.cells) (own : cell_of w c.id.0 ≡ Some c) where
    abbrev addressed : Option (ℕ × ℕ) → Option (ℕ × ℕ)
    addressed o = option_map (λ addr. (c.id.0, addr)) (option_map (λ place. start_of c.placed place.0 + place.1) o)

    in_section : (n value : ℕ) (o : Option ObjectSection) → section_of c.object n ≡ o
        → addressed (where_true (unwrap_or (option_map (is_entry_in c.object value) o) false) (n, value)) ≡ option_and_then (λ s. where_true (is_entry_at s value (start_of c.placed n + value)) (c.id.0, start_of c.placed n + value)) o
    in_section n value None e = refl
    in_section n value (Some s) e = ap (λ b. addressed (where_true b (n, value))) (same_test c k n s e value) ∙ go (is_entry_at s value (start_of c.placed n + value))
      where
        go : (b : Bool) → addressed (where_true b (n, value)) ≡ where_true b (c.id.0, start_of c.placed n + value)
        go true = refl
        go false = refl

    at_home : (s : Symbol) (home : Home)
        → addressed (option_and_then (λ section. where_true (unwrap_or (option_map (is_entry_in c.object s.value) (section_of c.object section)) false) (section, s.value)) (inside_of home)) ≡ option_and_then (entry_at w) (own_target c.placed s home)
    at_home s Undef = refl
    at_home s Abs = refl
    at_home s Elsewhere = refl
    at_home s (Inside n) =
        in_section n s.value (section_of c.object n) refl
        ∙ ap (λ (o : Option Cell). option_and_then (λ (d : Cell). option_and_then (λ (t : ObjectSection). where_true (is_entry_at t s.value (start_of c.placed n + s.value)) (d.id.0, start_of c.placed n + s.value)) (section_of d.object n)) o) (sym own)

    pub at_symbol : (n : ℕ) → option_map (λ addr. (c.id.0, addr)) (entry_address c n) ≡ option_and_then (entry_at w) (option_and_then (λ s. own_target c.placed s s.home) (symbol_at c.object n))
    at_symbol n = go (symbol_at c.object n)
      where
        go : (o : Option Symbol)
            → addressed (option_and_then (λ s. option_and_then (λ section. where_true (unwrap_or (option_map (is_entry_in c.object s.value) (section_of c.object section)) false) (section, s.value)) (inside_of s.home)) o)
            ≡ option_and_then (entry_at w) (option_and_then (λ s. own_target c.placed s s.home) o)
        go None = refl
        go (Some s) = at_home s s.home

  -- the entry is the one that the target is
  pub named_is : (ns : ℕ) (symbol : List ℕ) → entry_named w ns symbol ≡ option_and_then (entry_at w) (option_and_then (provided_target w) (attached_provider w ns symbol))
  named_is ns symbol = go (attached_provider w ns symbol)
    where
      cell : (p : Provider) (o : Option Cell) → cell_of w p.cell ≡ o
          → option_and_then (λ c. option_map (λ addr. (c.id.0, addr)) (entry_address c p.symbol)) o ≡ option_and_then (entry_at w) (option_and_then (λ c. option_and_then (λ s. own_target c.placed s s.home) (symbol_at c.object p.symbol)) o)
      cell p None e = refl
      cell p (Some c) e =
          let f = found-In (λ (c : Cell). c.id.0 == p.cell) w.cells c e in
          at_symbol c f.0 (ap (cell_of w) (eqb-true c.id.0 p.cell f.1) ∙ e) p.symbol

      go : (o : Option Provider) → option_and_then (λ p. option_and_then (λ c. option_map (λ addr. (c.id.0, addr)) (entry_address c p.symbol)) (cell_of w p.cell)) o ≡ option_and_then (entry_at w) (option_and_then (provided_target w) o)
      go None = refl
      go (Some p) = cell p (cell_of w p.cell) refl

  -- it is in a present cell
  pub entry_present : (ns : ℕ) (symbol : List ℕ) (e : ℕ × ℕ) → entry_named w ns symbol ≡ Some e → is_some (cell_of w e.0) ≡ true
  entry_present ns symbol e q = go (attached_provider w ns symbol) q
    where
      last : (c : Cell) → In c w.cells → (o : Option ℕ) → option_map (λ addr. (c.id.0, addr)) o ≡ Some e → is_some (cell_of w e.0) ≡ true
      last c i None r = absurd cc
      last c i (Some addr) r =
          let f = find_there (λ (x : Cell). x.id.0 == c.id.0) w.cells c i (eq-eqb c.id.0 c.id.0 refl) in
          subst (λ (x : ℕ × ℕ). is_some (cell_of w x.0) ≡ true) (some_is (c.id.0, addr) e r) (ap is_some f.1)
        where
          some_is : (a b : ℕ × ℕ) → Some a ≡ Some b → a ≡ b
          some_is a b r = cc

      mid : (p : Provider) (o : Option Cell) → cell_of w p.cell ≡ o → option_and_then (λ c. option_map (λ addr. (c.id.0, addr)) (entry_address c p.symbol)) o ≡ Some e → is_some (cell_of w e.0) ≡ true
      mid p None k r = absurd cc
      mid p (Some c) k r = last c (found-In (λ (x : Cell). x.id.0 == p.cell) w.cells c k).0 (entry_address c p.symbol) r

      go : (o : Option Provider) → option_and_then (λ p. option_and_then (λ c. option_map (λ addr. (c.id.0, addr)) (entry_address c p.symbol)) (cell_of w p.cell)) o ≡ Some e → is_some (cell_of w e.0) ≡ true
      go None r = absurd cc
      go (Some p) r = mid p (cell_of w p.cell) refl r

-- the target is an entry, by the place of its cell
pub entry_by : (w : World) (key : SecKey) (offset addr : ℕ) (p : NewCell) → Some p ≡ option_map placed_of (cell_of w key.cell.0) → entry_in p key.section offset addr ≡ entry_at w (Section key offset addr)
entry_by w key offset addr p e = go (cell_of w key.cell.0) e
  where
    some_same : (a b : NewCell) → Some a ≡ Some b → a ≡ b
    some_same a b h = cc

    go : (o : Option Cell) → Some p ≡ option_map placed_of o → entry_in p key.section offset addr ≡ option_and_then (λ c. entry_in c.placed key.section offset addr) o
    go None h = absurd (cc h)
    go (Some d) h = ap (λ (c : NewCell). entry_in c key.section offset addr) (some_same p d.placed h)

pub no_cell_there : (w : World) (key : SecKey) (offset addr : ℕ) → None ≡ option_map placed_of (cell_of w key.cell.0) → None ≡ entry_at w (Section key offset addr)
no_cell_there w key offset addr e = go (cell_of w key.cell.0) e
  where
    go : (o : Option Cell) → None ≡ option_map placed_of o → None ≡ option_and_then (λ c. entry_in c.placed key.section offset addr) o
    go None h = refl
    go (Some d) h = absurd (cc h)

-- the entry that a name has, by what its provider's symbol is
pub named_by : (m : Machine) (sound : IsSound m) (ns : ℕ) (symbol : List ℕ) (target : Option Target)
    → target ≡ option_and_then (provided_target (world_of m)) (attached_provider (world_of m) ns symbol) → option_and_then (entry_at (world_of m)) target ≡ entry_named (world_of m) ns symbol
named_by m sound ns symbol target e = ap (option_and_then (entry_at (world_of m))) e ∙ sym (named_is (world_of m) sound.coherent ns symbol)
