use Rattle.std.proofs.Common.{◌+◌, ◌*◌, length, subst, ap, arith}
use Rattle.std.proofs.lemmas.List.{length-map}
use Rattle.cell_mem.specs.Index.{IsLaid}
use Rattle.cell_mem.specs.Inside.{is_mark}
use Rattle.cell_mem.specs.State.{MemoryState}
use Rattle.cell_mem.proofs.Reading.{mapped_inside}
use Rattle.cell_mem.proofs.memory.Memory.offset.Goals as goal

pub overflow_sub-result : goal.overflow_sub-result
overflow_sub-result c =
    let laid = subst (λ (m : MemoryState). IsLaid m.base m.regions (m.base + 4096 * m.pages)) c.self.view_is c.self.invariant.laid in
    omega (arith, (mapped_inside c.args.self.now c.args.addr c.args.width _ laid c.requires).0, ap (λ m. m.base) c.self.view_is)

pub returns-clause-inside : goal.returns-clause-inside
returns-clause-inside c =
    let laid = subst (λ (m : MemoryState). IsLaid m.base m.regions (m.base + 4096 * m.pages)) c.self.view_is c.self.invariant.laid in
    let within = mapped_inside c.args.self.now c.args.addr c.args.width _ laid c.requires in
    omega (arith, within.0, within.1, ap (λ m. m.base) c.self.view_is, ap (λ m. m.pages) c.self.view_is, ap (λ m. length m.sealed) c.self.view_is, length-map c.self.inside.sealed.items is_mark, c.self.invariant.sealed)
