use Rattle.std.proofs.Common.{◌≡◌, ◌-◌, ◌/◌, ℕ, List, Option, None, length, subst, sym, ap, ◌∙◌, arith}
use Rattle.std.specs.Prelude.{slice_set}
use Rattle.std.specs.Vec.{with_items}
use Rattle.std.proofs.lemmas.List.{with_items_is, length-set, get_or_default}
use Rattle.cell_world.specs.World.{Region}
use Rattle.cell_world.specs.Placed.Pages.{filled}
use Rattle.std.specs.Prelude.{not}
use Rattle.std.proofs.lemmas.List.Elements.{All-filter}
use Rattle.cell_world.specs.Running.Undo.{AreBytes}
use Rattle.cell_mem.specs.Index.{held}
use Rattle.cell_mem.proofs.Removing.{starts_at}
use Rattle.cell_mem.proofs.Small.{HasBytesAlone}
use Rattle.cell_mem.proofs.Soundness.{Unmapped, above_base, begins_at, pages_within, unmapped_by, state_unmapped}
use Rattle.cell_mem.proofs.memory.Memory.unmap.Goals as goal

pub page_at-first-requires : goal.page_at-first-requires
page_at-first-requires c = record { low = above_base c.self.inside c.args.self.now c.args.start c.self.invariant c.self.view_is c.requires }

pub index_mut-requires : goal.index_mut-requires
index_mut-requires c =
    let b = begins_at c.self.inside c.args.self.now c.args.start c.self.invariant c.self.view_is c.requires c.page_at-first.result c.page_at-first.ensures in
    omega (arith, b.is_at.inside, c.self.inside.regions.ok.0)

pub unreachable-requires : goal.unreachable-requires
unreachable-requires c =
    let i = c.self.inside in
    let b = begins_at i c.args.self.now c.args.start c.self.invariant c.self.view_is c.requires c.page_at-first.result c.page_at-first.ensures in
    let read = c.take.ensures.value ∙ c.index_mut.ensures.value ∙ get_or_default i.regions.items c.page_at-first.result c.index_mut.result.now None b.is_at.inside ∙ b.is_at.at in
    cc (read, c.in_default.is)

pub overflow_sub-at : goal.overflow_sub-at
overflow_sub-at c = omega (arith, above_base c.self.inside c.args.self.now c.args.start c.self.invariant c.self.view_is c.requires, ap (λ m. m.base) c.self.view_is)

pub fill-requires : goal.fill-requires
fill-requires c =
    let i = c.self.inside in
    let b = begins_at i c.args.self.now c.args.start c.self.invariant c.self.view_is c.requires c.page_at-first.result c.page_at-first.ensures in
    let read = c.take.ensures.value ∙ c.index_mut.ensures.value ∙ get_or_default i.regions.items c.page_at-first.result c.index_mut.result.now None b.is_at.inside ∙ b.is_at.at in
    let same : c.in-Some.region ≡ b.region = cc (read, c.in-Some.is) in
    let size : length c.bytes-size.result.now ≡ length b.region.bytes = ap length c.bytes-size.ensures ∙ ap (λ (r : Region). length r.bytes) same in
    let within = pages_within i c.args.self.now c.args.start c.self.invariant c.self.view_is c.requires c.page_at-first.result c.page_at-first.ensures b in
    rw (size, c.deref_mut.ensures.value) within

pub fill-requires-2 : goal.fill-requires-2
fill-requires-2 c =
    let i = c.self.inside in
    let b = begins_at i c.args.self.now c.args.start c.self.invariant c.self.view_is c.requires c.page_at-first.result c.page_at-first.ensures in
    let read = c.take.ensures.value ∙ c.index_mut.ensures.value ∙ get_or_default i.regions.items c.page_at-first.result c.index_mut.result.now None b.is_at.inside ∙ b.is_at.at in
    let same : c.in-Some.region ≡ b.region = cc (read, c.in-Some.is) in
    let size : length c.bytes-size.result.now ≡ length b.region.bytes = ap length c.bytes-size.ensures ∙ ap (λ (r : Region). length r.bytes) same in
    omega (arith, size, b.start_is, b.is_at.lies.above, b.is_at.lies.below, ap length c.deref_mut-2.ensures.value, c.self.invariant.sealed)

pub invariant_of-self : goal.invariant_of-self
invariant_of-self c =
    let i = c.self.inside in
    let s = c.self.invariant in
    let b = begins_at i c.args.self.now c.args.start s c.self.view_is c.requires c.page_at-first.result c.page_at-first.ensures in
    let read = c.take.ensures.value ∙ c.index_mut.ensures.value ∙ get_or_default i.regions.items c.page_at-first.result c.index_mut.result.now None b.is_at.inside ∙ b.is_at.at in
    let same : c.in-Some.region ≡ b.region = cc (read, c.in-Some.is) in
    let size : length c.bytes-size.result.now ≡ length b.region.bytes = ap length c.bytes-size.ensures ∙ ap (λ (r : Region). length r.bytes) same in
    let firsts : (with_items i.firsts c.fill.new.items).items ≡ c.fill.new.items = with_items_is i.firsts c.fill.new.items (omega (arith, c.fill.auto.items, c.deref_mut.ensures.len)) in
    let sealed : (with_items i.sealed c.fill-2.new.items).items ≡ c.fill-2.new.items = with_items_is i.sealed c.fill-2.new.items (omega (arith, c.fill-2.auto.items, c.deref_mut-2.ensures.len)) in
    let now : (with_items i.firsts c.fill.new.items).items ≡ filled i.firsts.items c.page_at-first.result (length c.bytes-size.result.now / 4096) None =
    firsts ∙ c.fill.ensures ∙ ap (λ (xs : List (Option ℕ)). filled xs c.page_at-first.result (length c.bytes-size.result.now / 4096) None) c.deref_mut.ensures.value in
    let f : Unmapped i c.args.start (slice_set i.regions.items c.page_at-first.result c.take.new.self) (with_items i.firsts c.fill.new.items).items =
    subst (λ o. Unmapped i c.args.start (slice_set i.regions.items c.page_at-first.result o) (with_items i.firsts c.fill.new.items).items) (sym c.take.ensures.after)
    (unmapped_by i c.args.self.now c.args.start s c.self.view_is c.requires c.page_at-first.result _ (with_items i.firsts c.fill.new.items).items c.page_at-first.ensures b (ap (λ n. n / 4096) size) now) in
    record {
      space = s.space;
      regions = length-set i.regions.items c.page_at-first.result c.take.new.self ∙ s.regions;
      in_place = f.in_place;
      laid = f.laid;
      bytes = subst AreBytes (sym f.regions) (All-filter (λ r. not (starts_at c.args.start r)) HasBytesAlone (held i.regions.items) s.bytes);
      firsts = ap length firsts ∙ c.fill.auto.items ∙ ap length c.deref_mut.ensures.value ∙ s.firsts;
      index = f.index;
      sealed = ap length sealed ∙ c.fill-2.auto.items ∙ ap length c.deref_mut-2.ensures.value ∙ s.sealed;
      near = s.near;
      few = omega (arith, s.few, f.less);
    }

pub returns : goal.returns
returns c =
    let i = c.self.inside in
    let s = c.self.invariant in
    let b = begins_at i c.args.self.now c.args.start s c.self.view_is c.requires c.page_at-first.result c.page_at-first.ensures in
    let read = c.take.ensures.value ∙ c.index_mut.ensures.value ∙ get_or_default i.regions.items c.page_at-first.result c.index_mut.result.now None b.is_at.inside ∙ b.is_at.at in
    let same : c.in-Some.region ≡ b.region = cc (read, c.in-Some.is) in
    let size : length c.bytes-size.result.now ≡ length b.region.bytes = ap length c.bytes-size.ensures ∙ ap (λ (r : Region). length r.bytes) same in
    let firsts : (with_items i.firsts c.fill.new.items).items ≡ c.fill.new.items = with_items_is i.firsts c.fill.new.items (omega (arith, c.fill.auto.items, c.deref_mut.ensures.len)) in
    let sealed : (with_items i.sealed c.fill-2.new.items).items ≡ filled i.sealed.items (c.args.start - i.base) (length c.bytes-size.result.now) 0 =
    with_items_is i.sealed c.fill-2.new.items (omega (arith, c.fill-2.auto.items, c.deref_mut-2.ensures.len)) ∙ c.fill-2.ensures
    ∙ ap (λ (bs : List ℕ). filled bs (c.args.start - i.base) (length c.bytes-size.result.now) 0) c.deref_mut-2.ensures.value in
    let now : (with_items i.firsts c.fill.new.items).items ≡ filled i.firsts.items c.page_at-first.result (length c.bytes-size.result.now / 4096) None =
    firsts ∙ c.fill.ensures ∙ ap (λ (xs : List (Option ℕ)). filled xs c.page_at-first.result (length c.bytes-size.result.now / 4096) None) c.deref_mut.ensures.value in
    let f : Unmapped i c.args.start (slice_set i.regions.items c.page_at-first.result c.take.new.self) (with_items i.firsts c.fill.new.items).items =
    subst (λ o. Unmapped i c.args.start (slice_set i.regions.items c.page_at-first.result o) (with_items i.firsts c.fill.new.items).items) (sym c.take.ensures.after)
    (unmapped_by i c.args.self.now c.args.start s c.self.view_is c.requires c.page_at-first.result _ (with_items i.firsts c.fill.new.items).items c.page_at-first.ensures b (ap (λ n. n / 4096) size) now) in
    state_unmapped i c.args.self.now c.args.start s c.self.view_is c.requires c.page_at-first.result (length c.bytes-size.result.now) _ _ _ f b size sealed
