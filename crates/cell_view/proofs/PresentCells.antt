-- The present cells can be shown.
use Rattle.std.proofs.Common.{◌<◌, subst, sym, length}
use Rattle.std.proofs.lemmas.Bool.{ltb-true}
use Rattle.cell_world.specs.declared.state.NewCell.{NewCell}
use Rattle.cell_world.specs.World.{Cell}
use Rattle.cell_world.specs.Coherent.{is_known_cell}
use Rattle.cell_num.specs.Lists.{In}
use Rattle.cell_num.proofs.Elements.{all-In}
use Rattle.cell_lemmas.proofs.Naming.Known.{known_parts}
use Rattle.cell_machine.specs.declared.machine.Machine.{Machine}
use Rattle.cell_machine.specs.Machine.{IsSound, world_of}
use Rattle.cell_machine.proofs.Joined.{cell_in}
use Rattle.cell_machine.proofs.Looked.{cell_low}
use Rattle.cell_view.specs.Shows.{CanShow}

module _ (m : Machine) (sound : IsSound m) where
  inside : (d : Cell) → In d (world_of m).cells → d.ns < length m.spaces.namespaces
  inside d i = ltb-true d.ns (length m.spaces.namespaces) (known_parts (world_of m) d (all-In (is_known_cell (world_of m)) (world_of m).cells sound.coherent.ready.cells d i)).ns

  pub can_show : (c : NewCell) → In c m.cells.items → CanShow m c
  can_show c i =
      let d = cell_in m sound c i in
      record { ordered = (cell_low m sound c i).ordered; ns = subst (λ (x : NewCell). x.ns < length m.spaces.namespaces) (sym d.2) (inside d.0 d.1) }
