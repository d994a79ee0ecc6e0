-- The link to a target, and a machine that has grown by attached cells.
use Rattle.std.proofs.Common.{ap, ℕ, List, Option, Some, None}
use Rattle.cell_object.specs.declared.object.Entry.{Entry}
use Rattle.cell_world.specs.declared.state.LinkRow.{LinkRow}
use Rattle.cell_world.specs.declared.state.Target.{Target}
use Rattle.cell_world.specs.World.{World, Cell}
use Rattle.cell_world.specs.Linked.Relink.{link_to}
use Rattle.cell_lemmas.specs.Grown.{HasAttached}
use Rattle.cell_lemmas.proofs.Naming.Attach.{Grows}
use Rattle.cell_world.specs.Names.{chain}

-- the link to a target, where there is one
abbrev pub link_with : Cell → ℕ × Entry → Option Target → Option LinkRow
link_with c p o = elim o [ None ↦ None | Some target ↦ link_to c p.0 p.1 target ]

abbrev pub grows : (v w : World) (new : List Cell) → HasAttached v w new → Grows v w
grows v w new a = record { spaces = λ ns h. ap (λ spaces. chain spaces ns) a.spaces; new = new; cells = a.cells; attached = a.attached }
