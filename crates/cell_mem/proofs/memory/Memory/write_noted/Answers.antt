use Rattle.std.proofs.Common.{◌≡◌, ◌+◌, ◌-◌, ◌*◌, refl, subst, sym, ap, ◌∙◌, [], ◌∷◌, ◌++◌, Option, None}
use Rattle.std.specs.Prelude.{option_map}
use Rattle.cell_world.specs.declared.transfer.Record.{Record}
use Rattle.cell_world.specs.Running.Undo.{AreBytes, record_of}
use Rattle.cell_mem.specs.Index.{held}
use Rattle.cell_mem.specs.Inside.{state_of, undo_over}
use Rattle.cell_mem.specs.State.{MemoryState, write_at}
use Rattle.cell_mem.specs.Undo.{Noted}
use Rattle.cell_mem.proofs.Soundness.{laid_of}
use Rattle.cell_mem.proofs.Undoing.{noted_put}
use Rattle.cell_mem.proofs.memory.Memory.write_noted.Goals as goal

pub returns : goal.returns
returns c =
    let old : MemoryState = c.args.self.now in
    let u : Noted = c.in-Some.undo in
    let after : Record → Noted = λ x. record { left = u.left - 1; journal = u.journal ++ x ∷ [] } in
    noted_put old _ _ c.resume.new.self c.args.addr c.args.width c.args.value (old.base + 4096 * old.pages) c.self.inside.undo u _
    (laid_of c.self.inside old c.self.invariant c.self.view_is) (subst (λ (m : MemoryState). AreBytes m.regions) c.self.view_is c.self.invariant.bytes) c.requires.mapped
    (subst (λ (m : MemoryState). m.undo ≡ option_map (undo_over m.regions) c.self.inside.undo) c.self.view_is refl)
    (sym c.take.ensures.value ∙ c.in-Some.is)
    (c.note.ensures ∙ (ap after (c.displaced_by.ensures c.args.value) ∙ ap (λ (m : MemoryState). after (record_of m.regions (write_at c.args.addr c.args.width c.args.value))) c.self.view_is))
    (ap (λ (o : Option Noted). let m : MemoryState = record (state_of c.self.inside) { undo = option_map (undo_over (held c.self.inside.regions.items)) o } in m) c.take.ensures.after
    ∙ ap (λ (m : MemoryState). let out : MemoryState = record m { undo = None } in out) c.self.view_is)
    c.put-2.ensures c.resume.ensures
