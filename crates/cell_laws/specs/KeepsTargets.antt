-- What a command that brings no cells leaves.
use Rattle.std.specs.Prelude.{◌≡◌, IsTrue, All}
use Rattle.cell_num.specs.Lists.{holds}
use Rattle.cell_world.specs.World.{World}
use Rattle.cell_world.specs.Linked.Target.{target_of}
use Rattle.cell_world.specs.Changed.{now_in}
use Rattle.cell_world.specs.Answer.{numbers_of}

-- each cell that is still present is as it was, and each entry of it names what it named
abbrev pub KeepsTargets : World → World → Type 0
KeepsTargets before after =
    All (λ c. IsTrue (holds (numbers_of after.cells) c.id.0) → (now_in after c ≡ c) × All (λ e. target_of after c e ≡ target_of before c e) c.object.entries) before.cells
