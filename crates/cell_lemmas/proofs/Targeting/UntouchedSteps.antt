-- What a load and a swap leave alone in a cell without a WEAK symbol.
use Rattle.std.proofs.Common.{◌≡◌, sym, ◌∙◌, ap, ℕ, false, List, Some}
use Rattle.cell_num.specs.Lists.{In}
use Rattle.cell_object.specs.declared.object.Entry.{Entry}
use Rattle.cell_world.specs.declared.state.Target.{Target}
use Rattle.cell_world.specs.World.{World, Cell}
use Rattle.cell_world.specs.Linked.Target.{target_of}
use Rattle.cell_world.specs.Changed.{now_in, differs}
use Rattle.cell_world.specs.Coherent.{IsCoherent, is_supplied}
use Rattle.cell_lemmas.specs.Targets.{is_target_in}
use Rattle.cell_num.proofs.Elements.{Has, all-In}
use Rattle.cell_lemmas.proofs.Naming.Attaching.{not_other}
use Rattle.cell_lemmas.proofs.Naming.Known.{object_sound}
use Rattle.cell_lemmas.proofs.Targeting.Targets.{target_has}

-- an entry that names still what it named doesn't differ
module _ (v w : World) (h : IsCoherent v) (c : Cell) (i : In c v.cells) (numbers : List ℕ) (stays : (e : Entry) (t : Target) → target_of v c e ≡ Some t → is_target_in numbers (Some t) ≡ false → target_of w (now_in w c) e ≡ Some t) where
  pub same_named : (e : Entry) → In e c.object.entries → is_target_in numbers (target_of v c e) ≡ false → differs v w c e ≡ false
  same_named e j o =
      let had : Has (target_of v c e) = target_has v h.ready.cell_order h.ready.cells c (object_sound v h.ready.objects c i) (all-In (is_supplied v) v.cells h.ready.supplied c i) e j in
      not_other (target_of v c e) (target_of w (now_in w c) e) had.0 had.1 (stays e had.0 had.1 (sym (ap (is_target_in numbers) had.1) ∙ o))
