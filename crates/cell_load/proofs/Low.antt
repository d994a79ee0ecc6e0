-- New cells can be linked.
use Rattle.std.proofs.Common.{◌+◌, ◌*◌, ◌<◌, ◌^◌, length}
use Rattle.std.proofs.lemmas.Bool.{ltb-true}
use Rattle.cell_world.specs.declared.state.SecPlace.{SecPlace}
use Rattle.cell_world.specs.World.{World, Cell}
use Rattle.cell_world.specs.Coherent.{IsLoadable, is_known_cell}
use Rattle.cell_num.specs.Lists.{In}
use Rattle.cell_lemmas.specs.Linkable.{IsLinkable}
use Rattle.cell_num.proofs.Elements.{All-In, In-All, all-In}
use Rattle.cell_lemmas.proofs.Naming.Known.{known_parts}
use Rattle.cell_machine.proofs.Low.{place_low}
use Rattle.cell_load.specs.Linking.{CanLink}

module _ (W : World) (linkable : IsLinkable W) (ends : W.base + 4096 * W.pages < 2 ^ 63) (d : Cell) (here : In d W.cells) where
  pub can_link : CanLink W.namespaces d.placed
  can_link = record {
    ns = ltb-true d.ns (length W.namespaces) (known_parts W d (all-In (is_known_cell W) W.cells linkable.cells d here)).ns;
    few = few;
    low = In-All (λ (p : SecPlace). p.start < 2 ^ 63) d.places (place_low W linkable ends d here);
  }
    where
      few : length d.object.entries < 2 ^ 32
      few = (All-In (λ (x : Cell). IsLoadable x.object) W.cells linkable.objects d here).entries
