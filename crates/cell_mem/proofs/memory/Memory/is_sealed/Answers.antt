use Rattle.std.proofs.Common.{◌+◌, ℕ, List, not, sym, ap, ◌∙◌}
use Rattle.std.specs.Prelude.{◌==◌, slice_range}
use Rattle.std.specs.List.{list_any}
use Rattle.cell_num.specs.Bits.{little}
use Rattle.cell_mem.specs.State.{MemoryState}
use Rattle.cell_mem.proofs.Seals.{marked_in}
use Rattle.cell_mem.proofs.memory.Memory.is_sealed.Goals as goal

pub returns : goal.returns
returns c =
    let at = c.offset-at.result in
    ap (λ (n : ℕ). not (n == 0)) (c.read_number.ensures ∙ ap (λ (marks : List ℕ). little (slice_range marks at (at + c.args.width))) c.deref.ensures.value)
    ∙ sym (marked_in c.self.inside.sealed.items at (at + c.args.width))
    ∙ ap (λ (m : MemoryState). list_any (λ sealed. sealed) (slice_range m.sealed at (at + c.args.width))) c.self.view_is
    ∙ ap (λ k. list_any (λ sealed. sealed) (slice_range c.args.self.now.sealed k (k + c.args.width))) c.offset-at.ensures.value
