use Rattle.std.proofs.Common.{sym, ap, subst, arith}
use Rattle.std.proofs.lemmas.List.{nil_from_length}
use Rattle.cell_commit.specs.Commit.{AreRoom, all_mapped}
use Rattle.cell_commit.proofs.RegionsLeft.{mapped_done, mapped_more, room_here, room_more}
use Rattle.cell_commit.proofs.regions.map_regions.Goals as goal

pub loop-region-init : goal.loop-region-init
loop-region-init c =
    let all = c.into_iter-region-iterator.ensures.into_iter_gives.0 in
    record { mapped = ap (all_mapped c.args.memory.now) all; room = subst (AreRoom c.args.memory.now) (sym all) c.requires }

pub map_region-requires : goal.map_region-requires
map_region-requires c = room_here _ _ _ _ (c.in-Some.ensures {u = tt}).steps.0 c.loop-region.invariant.room

pub loop-region-preserved : goal.loop-region-preserved
loop-region-preserved c =
    let left = (c.in-Some.ensures {u = tt}).steps.0 in
    record {
      mapped = mapped_more _ _ _ _ _ _ left c.map_region.ensures c.loop-region.invariant.mapped;
      room = room_more _ _ _ _ left c.loop-region.invariant.room _ c.map_region.ensures;
    }

pub returns : goal.returns
returns c =
    let left = c.loop-region.region-iterator.rest in
    let none = (c.in-None.ensures {u = tt}).steps.0 in
    mapped_done _ _ _ (nil_from_length left.items (omega (arith, none, left.ok.0))) c.loop-region.invariant.mapped
