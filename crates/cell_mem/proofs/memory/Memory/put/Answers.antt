use Rattle.std.proofs.Common.{◌≡◌, List, Option, None, length, get_or, subst, sym, ap, ◌∙◌, arith}
use Rattle.std.specs.Vec.{with_items}
use Rattle.std.specs.Prelude.{IsSomeAnd, slice_set, option_map}
use Rattle.std.proofs.lemmas.List.{with_items_is}
use Rattle.cell_num.specs.Bits.{bytes_of}
use Rattle.cell_world.specs.World.{Region}
use Rattle.cell_world.specs.Running.Undo.{put_in}
use Rattle.cell_mem.specs.State.{MemoryState, write_at}
use Rattle.cell_mem.specs.Writing.{HasBytes, put}
use Rattle.cell_mem.proofs.Soundness.{holds, holds_none, has_at, Written, written_is, few_written, state_written}
use Rattle.cell_mem.proofs.memory.Memory.put.Goals as goal

pub unreachable-requires : goal.unreachable-requires
unreachable-requires c = holds_none c.self.inside c.args.self.now c.args.addr c.args.width c.self.invariant c.self.view_is c.requires.mapped (c.in_default.ensures {u = tt})

pub write_in-requires-clause-there : goal.write_in-requires-clause-there
write_in-requires-clause-there c =
    let h = holds c.self.inside c.args.self.now c.args.addr c.args.width c.in-Some.first c.self.invariant c.self.view_is c.requires.mapped (c.in-Some.ensures {u = tt}) in
    omega (arith, h.is_at.inside, ap length c.deref_mut.ensures.value)

pub write_in-requires-clause-inside : goal.write_in-requires-clause-inside
write_in-requires-clause-inside c =
    let h = holds c.self.inside c.args.self.now c.args.addr c.args.width c.in-Some.first c.self.invariant c.self.view_is c.requires.mapped (c.in-Some.ensures {u = tt}) in
    subst (λ (rs : List (Option Region)). IsSomeAnd (get_or rs c.in-Some.first None) (λ r. HasBytes r c.args.addr c.args.width)) (sym c.deref_mut.ensures.value)
    (has_at c.self.inside c.args.addr c.args.width c.in-Some.first h)

pub invariant_of-self : goal.invariant_of-self
invariant_of-self c =
    let i = c.self.inside in
    let h = holds i c.args.self.now c.args.addr c.args.width c.in-Some.first c.self.invariant c.self.view_is c.requires.mapped (c.in-Some.ensures {u = tt}) in
    let new = bytes_of c.args.width c.args.value in
    let now : (with_items i.regions c.write_in.new.regions).items ≡ slice_set i.regions.items c.in-Some.first (option_map (put c.args.addr new) (get_or i.regions.items c.in-Some.first None)) =
    with_items_is i.regions c.write_in.new.regions (omega (arith, c.write_in.auto.regions, c.deref_mut.ensures.len))
    ∙ c.write_in.ensures
    ∙ ap (λ (rs : List (Option Region)). slice_set rs c.in-Some.first (option_map (put c.args.addr new) (get_or rs c.in-Some.first None))) c.deref_mut.ensures.value in
    let w : Written i c.args.addr new (with_items i.regions c.write_in.new.regions).items =
    subst (Written i c.args.addr new) (sym now) (written_is i c.args.addr c.args.width c.args.value c.in-Some.first c.self.invariant h) in
    record {
      space = c.self.invariant.space;
      regions = w.length_is ∙ c.self.invariant.regions;
      in_place = w.in_place;
      laid = w.laid;
      bytes = w.bytes;
      firsts = c.self.invariant.firsts;
      index = w.index;
      sealed = c.self.invariant.sealed;
      near = c.self.invariant.near;
      few = few_written i c.args.addr new _ c.self.invariant w;
    }

pub returns : goal.returns
returns c =
    let i = c.self.inside in
    let h = holds i c.args.self.now c.args.addr c.args.width c.in-Some.first c.self.invariant c.self.view_is c.requires.mapped (c.in-Some.ensures {u = tt}) in
    let new = bytes_of c.args.width c.args.value in
    let now : (with_items i.regions c.write_in.new.regions).items ≡ slice_set i.regions.items c.in-Some.first (option_map (put c.args.addr new) (get_or i.regions.items c.in-Some.first None)) =
    with_items_is i.regions c.write_in.new.regions (omega (arith, c.write_in.auto.regions, c.deref_mut.ensures.len))
    ∙ c.write_in.ensures
    ∙ ap (λ (rs : List (Option Region)). slice_set rs c.in-Some.first (option_map (put c.args.addr new) (get_or rs c.in-Some.first None))) c.deref_mut.ensures.value in
    state_written i c.args.addr c.args.width c.args.value _ (ap (λ (m : MemoryState). m.undo) c.self.view_is ∙ c.requires.none)
    (subst (Written i c.args.addr new) (sym now) (written_is i c.args.addr c.args.width c.args.value c.in-Some.first c.self.invariant h))
    ∙ ap (λ (m : MemoryState). let now : MemoryState = record m { regions = put_in m.regions (write_at c.args.addr c.args.width c.args.value) } in now) c.self.view_is
