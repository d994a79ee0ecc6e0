use Rattle.std.proofs.Common.{ap, ◌∙◌, subst, suc, List, append-nil}
use Rattle.std.specs.Prelude.{flat_map}
use Rattle.cell_world.specs.declared.state.NewCell.{NewCell}
use Rattle.cell_num.specs.Lists.{In}
use Rattle.cell_world.specs.Kept.{placed_in}
use Rattle.cell_world.specs.World.{attached}
use Rattle.cell_machine.specs.Machine.{world_of}
use Rattle.cell_unload.proofs.Beginnings.{all_named, attached_are, claims_are}
use Rattle.cell_unload.proofs.Ordered.{all_there, ordered}
use Rattle.cell_unload.proofs.outlook.Outlook.of.Goals as goal

pub places_of-requires : goal.places_of-requires
places_of-requires c = λ d i.
    ordered c.args.machine.now c.requires d (subst (λ (cells : List NewCell). In d cells) (append-nil c.deref.result.now ∙ c.deref.ensures.value) i)

pub returns : goal.returns
returns c =
    let m = c.args.machine.now in
    record {
      sections =
          c.in_ok-places.ensures
          ∙ (ap (flat_map (λ (c : NewCell). placed_in (attached c))) (append-nil c.deref.result.now ∙ c.deref.ensures.value)
          ∙ all_there m c.requires);
      attached = attached_are c.args.aside.now (suc m.swaps) (world_of m).cells m.tasks.tasks c.in_ok-roots.roots.items (c.in_ok-roots.ensures {u = tt});
      claims = claims_are c.args.aside.now (world_of m) (world_of m).cells m.tasks.tasks c.in_ok-roots.roots.items (c.in_ok-roots.ensures {u = tt});
      present = all_named c.args.aside.now (world_of m) c.requires.coherent.ready.tasks c.in_ok-roots.roots.items (c.in_ok-roots.ensures {u = tt});
    }
