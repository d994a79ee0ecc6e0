use Rattle.std.proofs.Common.{◌≡◌, ◌<◌, None, Some, length, get_or, sym, ◌∙◌, arith}
use Rattle.std.proofs.lemmas.List.{get_or_default}
use Rattle.cell_mem.proofs.Near.{near_is, near_whole}
use Rattle.cell_mem.proofs.memory.Memory.near_region.Goals as goal

pub index-requires : goal.index-requires
index-requires c = omega (arith, c.self.invariant.near, c.self.invariant.regions, c.self.inside.regions.ok.0)

pub returns-then-has-clause-found : goal.returns-then-has-clause-found
returns-then-has-clause-found c =
    let i = c.self.inside in
    let inside : i.near < length i.regions.items = omega (arith, c.self.invariant.near, c.self.invariant.regions) in
    let at : get_or i.regions.items i.near None ≡ Some c.in_ok-region.region.now =
    sym ((c.in_ok-region.ensures {u = tt}).value ∙ c.index.ensures ∙ get_or_default i.regions.items i.near c.index.result.now None inside) in
    near_is i c.args.self.now i.near c.args.addr c.in_ok-region.region.now c.self.invariant c.self.view_is at (sym (c.if-has.ensures {u = tt}))

pub returns-then-has-clause-whole : goal.returns-then-has-clause-whole
returns-then-has-clause-whole c =
    let i = c.self.inside in
    let inside : i.near < length i.regions.items = omega (arith, c.self.invariant.near, c.self.invariant.regions) in
    let at : get_or i.regions.items i.near None ≡ Some c.in_ok-region.region.now =
    sym ((c.in_ok-region.ensures {u = tt}).value ∙ c.index.ensures ∙ get_or_default i.regions.items i.near c.index.result.now None inside) in
    near_whole i i.near c.in_ok-region.region.now c.self.invariant at
