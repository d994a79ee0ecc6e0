use Rattle.std.proofs.Common.{◌≡◌, None, length, ap, ◌∙◌, arith}
use Rattle.std.proofs.lemmas.List.{get_or_default}
use Rattle.cell_world.specs.World.{Region}
use Rattle.cell_mem.proofs.Soundness.{begins_at, above_base, size_is}
use Rattle.cell_mem.proofs.memory.Memory.size_from.Goals as goal

pub page_at-requires : goal.page_at-requires
page_at-requires c = record { low = above_base c.self.inside c.args.self.now c.args.start c.self.invariant c.self.view_is c.requires }

pub index-requires : goal.index-requires
index-requires c =
    let b = begins_at c.self.inside c.args.self.now c.args.start c.self.invariant c.self.view_is c.requires c.page_at.result c.page_at.ensures in
    omega (arith, b.is_at.inside, c.self.inside.regions.ok.0)

pub unreachable-requires : goal.unreachable-requires
unreachable-requires c =
    let i = c.self.inside in
    let b = begins_at i c.args.self.now c.args.start c.self.invariant c.self.view_is c.requires c.page_at.result c.page_at.ensures in
    let read = c.index.ensures ∙ get_or_default i.regions.items c.page_at.result c.index.result.now None b.is_at.inside ∙ b.is_at.at in
    cc (read, c.in-None.is)

pub returns : goal.returns
returns c =
    let i = c.self.inside in
    let b = begins_at i c.args.self.now c.args.start c.self.invariant c.self.view_is c.requires c.page_at.result c.page_at.ensures in
    let read = c.index.ensures ∙ get_or_default i.regions.items c.page_at.result c.index.result.now None b.is_at.inside ∙ b.is_at.at in
    let same : c.in-Some.region ≡ b.region = cc (read, c.in-Some.is) in
    ap length c.bytes.ensures ∙ ap (λ (r : Region). length r.bytes) same
    ∙ size_is i c.args.self.now c.args.start c.self.invariant c.self.view_is c.requires c.page_at.result b
