-- What `unload` and `purge` leave.
--     with_aside w cells       w with the cells put aside, as `unload` looks at it
--     IsFree w c               the cell is detached and nobody keeps it
--     LeavesTargets v w        each entry of each cell of w names what it named in v
--     LeavesFields v w         each field of each cell of w holds what it held in v
--     IsUnreached v w c        nothing of w leads into the cell, which stood in v
use Rattle.std.specs.Prelude.{suc, ◌≡◌, ◌==◌, false, List, All, map}
use Rattle.cell_num.specs.Kinds.{width_of}
use Rattle.cell_world.specs.World.{World, Cell, is_attached}
use Rattle.cell_world.specs.Answer.{numbers_of}
use Rattle.cell_world.specs.Linked.Field.{fields_of, place_of}
use Rattle.cell_world.specs.Kept.{IsKept, holding_of, claim_of, is_claimed_by, has_link_to, has_word_in, writable_words}
use Rattle.cell_world.specs.Running.Memory.{read}
use Rattle.cell_world.specs.Linked.Target.{target_of}
use Rattle.cell_world.specs.Commands.UnloadCommand.{detach}

-- w with the cells put aside, as `unload` looks at it
abbrev pub with_aside : World → List Cell → World
with_aside w cells = detach (suc w.swaps) (numbers_of cells) w

-- the cell is detached and nobody keeps it
abbrev pub IsFree : World → Cell → Type 0
IsFree w c = (is_attached c.standing ≡ false) × (IsKept (holding_of w) c.id.0 → ⊥)

-- each entry of each cell of w names what it named in v
abbrev pub LeavesTargets : World → World → Type 0
LeavesTargets v w = All (λ c. map (target_of w c) c.object.entries ≡ map (target_of v c) c.object.entries) w.cells

-- each field of each cell of w holds what it held in v
abbrev pub LeavesFields : World → World → Type 0
LeavesFields v w =
    All (λ c. All (λ f. read w (place_of c.placed f) (width_of f.kind) ≡ read v (place_of c.placed f) (width_of f.kind)) (fields_of c.object)) w.cells

-- nothing of w leads into the cell, which stood in v
pub record IsUnreached (v w : World) (c : Cell) : Type 0 where
  -- it is no live task's root, and no word of one lies in a section of it
  pub tasks : All (λ t. is_claimed_by (holding_of v) c.id.0 (claim_of w t) ≡ false) w.tasks
  -- it is no link's target, and was none of a cell that is present
  pub links : All (λ l. (l.target.cell.0 == c.id.0) ≡ false) w.links
  pub no_links_before : All (λ a. has_link_to (holding_of v) a.id.0 c.id.0 ≡ false) w.cells
  -- no aligned word of a writable section of a cell that is present lies in a section of it
  pub words : All (λ a. has_word_in (holding_of v) c.id.0 (writable_words (holding_of w) a.id.0) ≡ false) w.cells
