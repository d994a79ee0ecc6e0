use Rattle.std.proofs.Common.{None, sym, ap, ◌∙◌, arith}
use Rattle.std.specs.Prelude.{option_map}
use Rattle.std.proofs.lemmas.List.{get_or_default}
use Rattle.cell_mem.specs.State.{region_of}
use Rattle.cell_mem.proofs.Soundness.{found_page, found_none, read_whole}
use Rattle.cell_mem.proofs.memory.Memory.region.Goals as goal

pub returns-in_err-first-clause-answer : goal.returns-in_err-first-clause-answer
returns-in_err-first-clause-answer c =
    ap (option_map (λ r. r.now)) c.from_residual.ensures ∙ sym (found_none c.args.self.now c.args.addr (c.in_err-first.ensures {u = tt}))

pub index-requires : goal.index-requires
index-requires c =
    let f = found_page c.self.inside c.args.self.now c.args.addr c.in_ok-first.first c.self.invariant c.self.view_is (c.in_ok-first.ensures {u = tt}) in
    omega (arith, f.is_at.inside, c.self.inside.regions.ok.0)

pub returns-clause-answer : goal.returns-clause-answer
returns-clause-answer c =
    let i = c.self.inside in
    let f = found_page i c.args.self.now c.args.addr c.in_ok-first.first c.self.invariant c.self.view_is (c.in_ok-first.ensures {u = tt}) in
    c.as_ref.ensures.value
    ∙ c.index.ensures
    ∙ get_or_default i.regions.items c.in_ok-first.first c.index.result.now None f.is_at.inside
    ∙ f.is_at.at
    ∙ sym f.found
    ∙ ap (λ m. region_of m c.args.addr) c.self.view_is

pub returns-clause-whole : goal.returns-clause-whole
returns-clause-whole c =
    let i = c.self.inside in
    let f = found_page i c.args.self.now c.args.addr c.in_ok-first.first c.self.invariant c.self.view_is (c.in_ok-first.ensures {u = tt}) in
    read_whole c.as_ref.result f.region
    (c.as_ref.ensures.value ∙ c.index.ensures ∙ get_or_default i.regions.items c.in_ok-first.first c.index.result.now None f.is_at.inside ∙ f.is_at.at)
    f.is_at.lies.whole
