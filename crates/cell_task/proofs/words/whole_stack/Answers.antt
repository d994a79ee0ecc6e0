use Rattle.std.proofs.Common.{◌≡◌, ℕ, List, Option, Some, None, Bor, length}
use Rattle.std.specs.Prelude.{option_map, IfSome}
use Rattle.cell_world.specs.World.{Region}
use Rattle.cell_world.specs.Running.Memory.{read_in}
use Rattle.cell_task.proofs.Wording.{length-read}
use Rattle.cell_task.proofs.words.whole_stack.Goals as goal

sized : (regions : List Region) (addr n : ℕ) (o : Option (Bor (List ℕ))) → option_map (λ bytes. bytes.now) o ≡ read_in regions addr n → IfSome o (λ bytes. length bytes.now ≡ n)
sized regions addr n None e = tt
sized regions addr n (Some bytes) e = length-read regions addr n bytes.now e

pub returns-clause-size : goal.returns-clause-size
returns-clause-size c = sized c.args.memory.now.regions c.args.stack 16384 c.bytes.result c.bytes.ensures
