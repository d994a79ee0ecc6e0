-- The counts after a command that brings no cell.
use Rattle.std.proofs.Common.{◌≡◌, refl, ◌∙◌, ap, arith, ◌+◌, ◌-◌, ◌^◌, List, [], ◌∷◌, map, length, min}
use Rattle.std.specs.Prelude.{filter, flat_map}
use Rattle.cell_num.specs.declared.ids.CellId.{CellId}
use Rattle.cell_num.specs.Lists.{holds}
use Rattle.cell_world.specs.declared.reply.Reply.{Reply}
use Rattle.cell_world.specs.Answer.{Done, done, fresh_by}
use Rattle.cell_world.specs.Outcome.{Outcome}
use Rattle.cell_world.specs.World.{World, Cell}
use Rattle.cell_machine.specs.declared.machine.Machine.{Machine}
use Rattle.cell_machine.specs.Machine.{IsSound, world_of}
use Rattle.cell_machine.specs.Does.{HasDone, cell_shapes, new_runs, patched_by}

none_of : (cells : List Cell) → filter (λ (c : Cell). holds [] c.id.0) cells ≡ []
none_of [] = refl
none_of (c ∷ cells) = none_of cells

nothing_new : (reply : Reply) (w : World) → fresh_by reply ≡ [] → new_runs reply w ≡ 0
nothing_new reply w none =
    ap (λ (ids : List CellId). length (flat_map cell_shapes (filter (λ (c : Cell). holds (map (λ id. id.0) ids) c.id.0) w.cells))) none
    ∙ ap (λ (cells : List Cell). length (flat_map cell_shapes cells)) (none_of w.cells)

module _ (said : Outcome Done) (m n : Machine) (reply : Reply) (before : IsSound m) (after : IsSound n) (step : said ≡ done reply (world_of n)) (none : fresh_by reply ≡ []) (unpatched : patched_by reply ≡ 0)
    (patches : n.memory.patches ≡ m.memory.patches) where
  unraised : n.memory.patches ≡ min (m.memory.patches + patched_by reply) (2 ^ 64 - 1)
  unraised = let low = before.patches in omega (arith, patches, unpatched, low)

  -- nothing was mapped
  pub counts_stand : n.memory.maps ≡ m.memory.maps → HasDone said 0 m reply n
  counts_stand maps = record {
    sound = after;
    is = record { step = step; patches = unraised; maps = let none = nothing_new reply (world_of n) none in let low = before.maps in omega (arith, maps, none, low) };
  }

  -- a stack was
  pub one_stack : n.memory.maps ≡ min (m.memory.maps + 1) (2 ^ 64 - 1) → HasDone said 1 m reply n
  one_stack maps = record {
    sound = after;
    is = record { step = step; patches = unraised; maps = let none = nothing_new reply (world_of n) none in omega (arith, maps, none) };
  }
