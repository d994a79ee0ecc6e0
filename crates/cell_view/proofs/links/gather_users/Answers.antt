use Rattle.cell_num.specs.declared.ids.SecKey.{SecKey}
use Rattle.cell_object.specs.declared.object.Section.{Section as ObjectSection}
use Rattle.cell_world.specs.World.{key_of}
use Rattle.cell_graph.specs.Links.{links_to}
use Rattle.cell_view.proofs.Gathering.{all_keys, key_more, key_there}
use Rattle.cell_view.proofs.links.gather_users.Goals as goal

pub add_links_to-requires : goal.add_links_to-requires
add_links_to-requires c =
    let cell = c.args.cell.now in
    c.requires _ (key_there (λ (key : SecKey). links_to key c.args.graph.now.rows) (λ (s : ObjectSection). key_of cell.id.0 s.number) cell.object.sections _ c.as_slice-targets.ensures c.loop-target.target-index c.target-item.result c.loop-target-test.true c.target-item.is)

pub loop-target-preserved : goal.loop-target-preserved
loop-target-preserved c =
    let cell = c.args.cell.now in
    key_more (λ (key : SecKey). links_to key c.args.graph.now.rows) (λ (s : ObjectSection). key_of cell.id.0 s.number) cell.object.sections _ c.as_slice-targets.ensures c.loop-target.target-index c.target-item.result _ _
    c.loop-target-test.true c.target-item.is c.loop-target.invariant c.in_ok-add_links_to.ensures

pub returns : goal.returns
returns c =
    let cell = c.args.cell.now in
    all_keys (λ (key : SecKey). links_to key c.args.graph.now.rows) (λ (s : ObjectSection). key_of cell.id.0 s.number) cell.object.sections _ c.as_slice-targets.ensures c.loop-target.target-index _ c.loop-target-test.false c.loop-target.invariant
