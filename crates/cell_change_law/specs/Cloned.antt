-- What a `clone` passes.
--     clone_of w ns         what is asked of the machine that has the new namespace already
--     MayClone w sibling    a namespace, its parent, and that a sibling of that name may be added
--     HasCloned ..          that, and what the change has made
use Rattle.std.specs.Prelude.{ℕ, ◌≡◌, ◌<◌, List, length, nat_lt, true, None, Some, Ok}
use Rattle.cell_num.specs.Limits.{max_namespaces}
use Rattle.cell_world.specs.declared.reply.Reply.TheVariants.{Clone as CloneDone}
use Rattle.cell_world.specs.World.{World}
use Rattle.cell_world.specs.Names.{namespace_named}
use Rattle.cell_world.specs.Gather.{Source}
use Rattle.cell_world.specs.Answer.{Done, ids, numbers_of}
use Rattle.cell_world.specs.Change.{Change, Made, copying, make_change}
use Rattle.cell_world.specs.Commands.Asked.{cells_in, copies_into, parent_of}
use Rattle.cell_world.specs.Commands.NsCommand.{with_namespace}

abbrev pub clone_of : World → ℕ → Change
clone_of w ns = copying (copies_into (length w.namespaces) (cells_in w ns))

pub record MayClone (w : World) (sibling : List ℕ) : Type 0 where
  pub ns : ℕ
  pub parent : ℕ
  pub there : ns < length w.namespaces
  pub up : parent_of w ns ≡ Some parent
  pub free : namespace_named w sibling ≡ None
  pub room : nat_lt (length w.namespaces) max_namespaces ≡ true

pub record HasCloned (sources : List Source) (w : World) (name sibling : List ℕ) (d : Done) : Type 0 where
  pub may : MayClone w sibling
  pub open may use *
  pub made : Made
  pub making : make_change sources (with_namespace w sibling parent) (clone_of w ns) ≡ Ok made
  pub reply : CloneDone sibling (ids (numbers_of made.fresh)) made.patched ≡ d.reply
  pub world : made.world ≡ d.world
