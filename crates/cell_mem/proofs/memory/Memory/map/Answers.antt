use Rattle.std.proofs.Common.{◌≡◌, ◌/◌, ℕ, List, Option, Some, length, ap, subst, sym, ◌∙◌, arith}
use Rattle.std.specs.Vec.{with_items}
use Rattle.std.specs.Prelude.{slice_set}
use Rattle.std.proofs.lemmas.List.{with_items_is, length-set}
use Rattle.cell_world.specs.Placed.Pages.{filled}
use Rattle.cell_mem.specs.Perm.{permission_of}
use Rattle.cell_world.specs.Running.Undo.{AreBytes}
use Rattle.cell_mem.specs.Index.{held}
use Rattle.cell_mem.proofs.Small.{small_with}
use Rattle.cell_mem.proofs.Soundness.{Mapped, mapped_by, state_mapped}
use Rattle.cell_mem.proofs.memory.Memory.map.Goals as goal

pub invariant_of-self : goal.invariant_of-self
invariant_of-self c =
    let i = c.self.inside in
    let s = c.self.invariant in
    let now : (with_items i.firsts c.fill.new.items).items ≡ filled i.firsts.items c.page_at-first.result (c.len.result / 4096) (Some c.page_at-first.result) =
    with_items_is i.firsts c.fill.new.items (omega (arith, c.fill.auto.items, c.deref_mut.ensures.len))
    ∙ c.fill.ensures
    ∙ ap (λ (xs : List (Option ℕ)). filled xs c.page_at-first.result (c.len.result / 4096) (Some c.page_at-first.result)) c.deref_mut.ensures.value in
    let f : Mapped i (record { start = c.args.start; permission = permission_of c.args.perm; bytes = c.args.bytes.items }) c.page_at-first.result (slice_set i.regions.items c.page_at-first.result (Some c.new.result)) (with_items i.firsts c.fill.new.items).items =
    mapped_by i c.args.self.now c.args.start (permission_of c.args.perm) c.args.bytes.items s c.self.view_is c.requires c.page_at-first.result _ c.new.result _ c.page_at-first.ensures (ap (λ n. n / 4096) (c.len.ensures ∙ c.args.bytes.ok.0)) c.new.ensures.all now in
    record {
      space = s.space;
      regions = length-set i.regions.items c.page_at-first.result (Some c.new.result) ∙ s.regions;
      in_place = f.in_place;
      laid = f.laid;
      bytes = subst AreBytes (sym f.regions) (small_with (record { start = c.args.start; permission = permission_of c.args.perm; bytes = c.args.bytes.items }) (held i.regions.items) c.new.ensures.bytes s.bytes);
      firsts = ap length (with_items_is i.firsts c.fill.new.items (omega (arith, c.fill.auto.items, c.deref_mut.ensures.len))) ∙ c.fill.auto.items ∙ ap length c.deref_mut.ensures.value ∙ s.firsts;
      index = f.index;
      sealed = s.sealed;
      near = s.near;
      few = omega (arith, s.few, f.more, c.requires.spare, ap (λ m. m.spare) c.self.view_is);
    }

pub returns : goal.returns
returns c =
    let i = c.self.inside in
    let now : (with_items i.firsts c.fill.new.items).items ≡ filled i.firsts.items c.page_at-first.result (c.len.result / 4096) (Some c.page_at-first.result) =
    with_items_is i.firsts c.fill.new.items (omega (arith, c.fill.auto.items, c.deref_mut.ensures.len))
    ∙ c.fill.ensures
    ∙ ap (λ (xs : List (Option ℕ)). filled xs c.page_at-first.result (c.len.result / 4096) (Some c.page_at-first.result)) c.deref_mut.ensures.value in
    let f : Mapped i (record { start = c.args.start; permission = permission_of c.args.perm; bytes = c.args.bytes.items }) c.page_at-first.result (slice_set i.regions.items c.page_at-first.result (Some c.new.result)) (with_items i.firsts c.fill.new.items).items =
    mapped_by i c.args.self.now c.args.start (permission_of c.args.perm) c.args.bytes.items c.self.invariant c.self.view_is c.requires c.page_at-first.result _ c.new.result _ c.page_at-first.ensures (ap (λ n. n / 4096) (c.len.ensures ∙ c.args.bytes.ok.0)) c.new.ensures.all now in
    state_mapped i c.args.self.now c.args.start (permission_of c.args.perm) c.args.bytes.items c.self.invariant c.self.view_is c.requires c.page_at-first.result _ _ _ f c.saturating_add-self-inside.ensures
