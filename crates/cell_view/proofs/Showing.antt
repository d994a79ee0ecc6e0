-- What showing cells and sections comes to, by what was found.
use Rattle.std.proofs.Common.{◌≡◌, arith, refl, sym, ◌∙◌, ap, subst, ℕ, List, [], map}
use Rattle.std.specs.Prelude.{Option, Some, None, Ok, Err, ◌==◌, decimal, option_map, slice_get, unwrap_or}
use Rattle.std.proofs.lemmas.Bool.Decides.{nat_tests}
use Rattle.cell_object.specs.declared.object.Section.{Section as ObjectSection}
use Rattle.cell_object.specs.Parts.{section_of}
use Rattle.cell_world.specs.declared.refusal.Refusal.TheVariants.{Unknown}
use Rattle.cell_world.specs.declared.reply.MapCell.{MapCell}
use Rattle.cell_world.specs.declared.reply.MapSection.{MapSection}
use Rattle.cell_world.specs.declared.reply.Reply.TheVariants.{Dump as DumpDone}
use Rattle.cell_world.specs.declared.state.Namespace.{Namespace}
use Rattle.cell_world.specs.declared.state.NewCell.{NewCell}
use Rattle.cell_world.specs.World.{World, Cell, cell_of, key_of}
use Rattle.cell_world.specs.Answer.{done, present_cell}
use Rattle.cell_world.specs.Commands.DumpCommand.{next_dump}
use Rattle.cell_world.specs.Gather.{name_of_ns}
use Rattle.cell_world.specs.Commands.MapCommand.{group_of, map_cell}
use Rattle.cell_world.specs.Outcome.{found}
use Rattle.cell_world.specs.Linked.Target.{start_of}
use Rattle.cell_num.specs.Lists.{In}
use Rattle.cell_num.proofs.Elements.{found-In}
use Rattle.cell_lemmas.proofs.Binds.{bind_is}
use Rattle.cell_machine.specs.declared.machine.Machine.{Machine}
use Rattle.cell_space.specs.Joined.{placed_of}
use Rattle.cell_machine.specs.Machine.{world_of}
use Rattle.cell_view.specs.Shows.{section_shown}
use Rattle.cell_world.specs.Running.Memory.{read_in}

named : (o : Option Namespace) (name : List ℕ) → option_map (λ (s : Namespace). s.name) o ≡ Some name → elim o as (λ _. List ℕ) [ None ↦ [] | Some space ↦ space.name ] ≡ name
named None name e = absurd cc
named (Some s) name e = cc

-- a cell as it is shown, by its parts
pub cell_shown : (m : Machine) (c : Cell) (ns stem file : List ℕ) (group : Option ℕ) (sections : List MapSection)
    → option_map (λ (s : Namespace). s.name) (slice_get m.spaces.namespaces c.ns) ≡ Some ns → stem ≡ c.stem → file ≡ c.file → group ≡ group_of c.standing
    → sections ≡ map (section_shown c.placed) c.object.sections
    → (let shown : MapCell = record { cell = c.id; ns = ns; stem = stem; file = file; group = group; sections = sections } in shown) ≡ map_cell (world_of m) c
cell_shown m c ns stem file group sections e stem_is file_is group_is sections_are =
    ap (λ (x : List ℕ). let shown : MapCell = record { cell = c.id; ns = x; stem = stem; file = file; group = group; sections = sections } in shown) (sym (named (slice_get m.spaces.namespaces c.ns) ns e))
    ∙ (ap (λ (x : List ℕ). let shown : MapCell = record { cell = c.id; ns = name_of_ns (world_of m) c.ns; stem = x; file = file; group = group; sections = sections } in shown) stem_is
    ∙ (ap (λ (x : List ℕ). let shown : MapCell = record { cell = c.id; ns = name_of_ns (world_of m) c.ns; stem = c.stem; file = x; group = group; sections = sections } in shown) file_is
    ∙ (ap (λ (x : Option ℕ). let shown : MapCell = record { cell = c.id; ns = name_of_ns (world_of m) c.ns; stem = c.stem; file = c.file; group = x; sections = sections } in shown) group_is
    ∙ ap (λ (x : List MapSection). let shown : MapCell = record { cell = c.id; ns = name_of_ns (world_of m) c.ns; stem = c.stem; file = c.file; group = group_of c.standing; sections = x } in shown) sections_are)))

-- the same, by the cell's place
pub shown_by_place : (m : Machine) (d : Cell) (p : NewCell) → d.placed ≡ p → (ns stem file : List ℕ) (group : Option ℕ) (sections : List MapSection)
    → option_map (λ (s : Namespace). s.name) (slice_get m.spaces.namespaces p.ns) ≡ Some ns → stem ≡ p.stem → file ≡ p.file → group ≡ group_of d.standing → sections ≡ map (section_shown p) p.object.sections
    → (let shown : MapCell = record { cell = p.id; ns = ns; stem = stem; file = file; group = group; sections = sections } in shown) ≡ map_cell (world_of m) d
shown_by_place m d p same ns stem file group sections =
    subst (λ (p : NewCell). option_map (λ (s : Namespace). s.name) (slice_get m.spaces.namespaces p.ns) ≡ Some ns → stem ≡ p.stem → file ≡ p.file → group ≡ group_of d.standing → sections ≡ map (section_shown p) p.object.sections
    → (let shown : MapCell = record { cell = p.id; ns = ns; stem = stem; file = file; group = group; sections = sections } in shown) ≡ map_cell (world_of m) d) same
    (cell_shown m d ns stem file group sections)

-- the cell that was found, as the machine has it
pub here_is : (w : World) (cell : ℕ) (p : NewCell) → Some p ≡ option_map placed_of (cell_of w cell) → (d : Cell) × (cell_of w cell ≡ Some d) × (p ≡ d.placed)
here_is w cell p e = go (cell_of w cell) refl e
  where
    some_same : (p q : NewCell) → Some p ≡ Some q → p ≡ q
    some_same p q h = cc

    go : (o : Option Cell) → cell_of w cell ≡ o → Some p ≡ option_map placed_of o → (d : Cell) × (cell_of w cell ≡ Some d) × (p ≡ d.placed)
    go None at h = absurd (cc h)
    go (Some d) at h = (d, at, some_same p d.placed h)

-- or none
pub none_is : (w : World) (cell : ℕ) → None ≡ option_map placed_of (cell_of w cell) → present_cell w cell ≡ Err (Unknown (decimal cell))
none_is w cell e = go (cell_of w cell) e
  where
    go : (o : Option Cell) → None ≡ option_map placed_of o → found o (Unknown (decimal cell)) ≡ Err (Unknown (decimal cell))
    go None h = refl
    go (Some d) h = absurd (cc h)

module _ (m : Machine) (cell : ℕ) (d : Cell) (here : cell_of (world_of m) cell ≡ Some d) where
  pub is_present : In d (world_of m).cells
  is_present = (found-In (λ (c : Cell). c.id.0 == cell) (world_of m).cells d here).0

  pub present : present_cell (world_of m) cell ≡ Ok d
  present = ap (λ (o : Option Cell). found o (Unknown (decimal cell))) here

  shown_at : (section : ℕ) (s : ObjectSection) → Some s ≡ section_of d.object section → (start : ℕ) → start ≡ start_of d.placed s.number
      → (bytes : List ℕ) → bytes ≡ unwrap_or (read_in m.memory.regions start s.size) []
      → next_dump (world_of m) cell section ≡ done (DumpDone (key_of cell s.number) start bytes) (world_of m)
  shown_at section s there start at bytes is =
      bind_is (present_cell (world_of m) cell) _ d _ present
      (bind_is (found (section_of d.object section) (Unknown (decimal section))) _ s _ (ap (λ (o : Option ObjectSection). found o (Unknown (decimal section))) (sym there))
      (ap (λ n. done (DumpDone (key_of cell n) (start_of d.placed n) (unwrap_or (read_in m.memory.regions (start_of d.placed n) s.size) [])) (world_of m)) (sym number)
      ∙ (ap (λ a. done (DumpDone (key_of cell s.number) a (unwrap_or (read_in m.memory.regions a s.size) [])) (world_of m)) (sym at)
      ∙ ap (λ bytes. done (DumpDone (key_of cell s.number) start bytes) (world_of m)) (sym is))))
    where
      number : s.number ≡ section
      number = let h = (found-In (λ (s : ObjectSection). s.number == section) d.object.sections s (sym there)).1 in grind (arith, nat_tests)

  pub shown : (p : NewCell) → p ≡ d.placed → (section : ℕ) (s : ObjectSection) → Some s ≡ section_of p.object section → (start : ℕ) → start ≡ start_of p s.number
      → (bytes : List ℕ) → bytes ≡ unwrap_or (read_in m.memory.regions start s.size) []
      → next_dump (world_of m) cell section ≡ done (DumpDone (key_of cell s.number) start bytes) (world_of m)
  shown p same section s there start at bytes is =
      shown_at section s (subst (λ (c : NewCell). Some s ≡ section_of c.object section) same there) start (subst (λ (c : NewCell). start ≡ start_of c s.number) same at) bytes is
