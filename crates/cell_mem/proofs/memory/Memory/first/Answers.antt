use Rattle.std.proofs.Common.{ℕ, ◌+◌, ◌-◌, ◌*◌, ◌/◌, ◌<◌, ◌≤◌, None, length, sym, ap, ◌∙◌, arith}
use Rattle.std.specs.Prelude.{option_map}
use Rattle.std.proofs.lemmas.List.{get_or_default}
use Rattle.cell_mem.specs.Index.{held, first_page}
use Rattle.cell_mem.specs.State.{region_of}
use Rattle.cell_mem.proofs.Laid.{none_low, none_high, page_found}
use Rattle.cell_mem.proofs.memory.Memory.first.Goals as goal

pub returns-then-addr-self : goal.returns-then-addr-self
returns-then-addr-self c =
    let i = c.self.inside in
    sym (ap (option_map (first_page i.base)) (none_low i.base (held i.regions.items) _ c.args.addr c.self.invariant.laid c.if-addr-self.true))
    ∙ ap (λ m. option_map (first_page m.base) (region_of m c.args.addr)) c.self.view_is

pub returns-then-page-from : goal.returns-then-page-from
returns-then-page-from c =
    let i = c.self.inside in
    let past : i.base + 4096 * i.pages ≤ c.args.addr = omega (arith, c.from.ensures, c.if-page-from.true, c.if-addr-self.false) in
    sym (ap (option_map (first_page i.base)) (none_high i.base (held i.regions.items) _ c.args.addr c.self.invariant.laid past))
    ∙ ap (λ m. option_map (first_page m.base) (region_of m c.args.addr)) c.self.view_is

pub returns : goal.returns
returns c =
    let i = c.self.inside in
    let page : ℕ = (c.args.addr - i.base) / 4096 in
    let inside : page < length i.firsts.items = omega (arith, c.from.ensures, c.if-page-from.false, c.self.invariant.firsts) in
    c.index.ensures
    ∙ get_or_default i.firsts.items page c.index.result.now None inside
    ∙ c.self.invariant.index page inside
    ∙ ap (option_map (first_page i.base)) (page_found i.base (held i.regions.items) _ i.base c.args.addr c.self.invariant.laid c.self.invariant.space.aligned c.if-addr-self.false)
    ∙ ap (λ m. option_map (first_page m.base) (region_of m c.args.addr)) c.self.view_is
