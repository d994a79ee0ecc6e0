-- The stack of a live task may be cleared.
use Rattle.std.proofs.Common.{◌≡◌, ◌∙◌, ap, arith, ℕ, ◌+◌, ◌*◌, ◌^◌, ◌≤◌, ◌<◌, ◌⊎◌, inl, inr, false, Bool, List, length}
use Rattle.std.specs.Prelude.{nat_lt, ◌&&◌}
use Rattle.cell_num.specs.Lists.{In}
use Rattle.cell_num.specs.Kinds.{width_of}
use Rattle.cell_num.proofs.Elements.{In-none}
use Rattle.cell_object.specs.declared.object.Entry.{Entry}
use Rattle.cell_world.specs.Coherent.{IsCoherent}
use Rattle.cell_world.specs.Linked.Field.{fields_of, place_of}
use Rattle.cell_world.specs.Running.Execute.{is_field_at}
use Rattle.cell_world.specs.World.{World, Cell, Permission, Task}
use Rattle.cell_lemmas.proofs.Tasks.Restarted.{no_overlap, own_region, stack_free, stack_written, zeros, zeros_length}
use Rattle.cell_lemmas.proofs.Tasks.Stored.{field_apart}
use Rattle.cell_machine.specs.declared.machine.Machine.{Machine}
use Rattle.cell_machine.specs.Machine.{IsSound, world_of}
use Rattle.cell_mem.specs.State.{is_sealed}
use Rattle.cell_schedule.proofs.Marks.{marks_are_fields}
use Rattle.cell_schedule.proofs.Regions.{allowed_inside}
use Rattle.cell_task.specs.Clearing.{CanClear}

module _ (m : Machine) (sound : IsSound m) (t : Task) (live : In t (world_of m).tasks) where
  abbrev w : World
  w = world_of m

  h : IsCoherent w
  h = sound.coherent

  inside : (w.base ≤ t.stack) × (t.stack + length zeros ≤ w.base + 4096 * w.pages)
  inside = allowed_inside w h t.stack (length zeros) (stack_written w h t live)

  low : t.stack + 16384 < 2 ^ 64
  low = let space = h.ready.space in let all = zeros_length in let within = inside.1 in omega (arith, all, within)

  -- no field meets eight bytes of it
  no_field : (k : ℕ) → k < 2048 → (c : Cell) → In c w.cells → is_field_at (t.stack + 8 * k) 8 c ≡ false
  no_field k few c i =
      In-none (λ (f : Entry). nat_lt (t.stack + 8 * k) (place_of c.placed f + width_of f.kind) && nat_lt (place_of c.placed f) (t.stack + 8 * k + 8)) (fields_of c.object)
      (λ f j. no_overlap (t.stack + 8 * k) (place_of c.placed f + width_of f.kind) (place_of c.placed f) (t.stack + 8 * k + 8) (apart f (field_apart w h t.stack zeros (stack_free w h t live) c i f j)))
    where
      apart : (f : Entry) → (place_of c.placed f + width_of f.kind ≤ t.stack) ⊎ (t.stack + length zeros ≤ place_of c.placed f)
          → (place_of c.placed f + width_of f.kind ≤ t.stack + 8 * k) ⊎ (t.stack + 8 * k + 8 ≤ place_of c.placed f)
      apart f (inl below) = inl (omega (arith, below))
      apart f (inr above) = let all = zeros_length in inr (omega (arith, above, few, all))

  open_at : (k : ℕ) → k < 2048 → is_sealed m.memory (t.stack + 8 * k) 8 ≡ false
  open_at k few =
      let all = zeros_length in
      let above = inside.0 in
      let within = inside.1 in
      ap (λ (sealed : List Bool). is_sealed (record m.memory { sealed = sealed }) (t.stack + 8 * k) 8) sound.seals
      ∙ (marks_are_fields m.memory.base (4096 * m.memory.pages) w.cells m.cells.items sound.joined.placed (t.stack + 8 * k) 8 (omega arith) (omega (arith, above)) (omega (arith, within, few, all))
      ∙ In-none (is_field_at (t.stack + 8 * k) 8) w.cells (no_field k few))

  pub can_clear : CanClear m.memory t.stack
  can_clear =
      let own = own_region w h t live in
      record {
        region = own.0;
        there = own.1;
        start = own.2;
        size = own.3;
        write = ap (λ (p : Permission). p.write) own.4;
        low = low;
        unsealed = open_at;
      }
