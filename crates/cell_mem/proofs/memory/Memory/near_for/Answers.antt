use Rattle.std.proofs.Common.{◌≡◌, ◌∙◌, ap, sym, ◌%◌}
use Rattle.cell_mem.proofs.Near.{near_answered, near_inside}
use Rattle.cell_mem.proofs.memory.Memory.near_for.Goals as goal

pub returns-clause-answer : goal.returns-clause-answer
returns-clause-answer c =
    let aligned : c.args.addr % c.args.width ≡ 0 = ap (λ n. c.args.addr % n) (sym c.from.ensures) ∙ c.if-addr-from-ne0.false in
    near_answered c.args.self.now c.args.addr c.args.width c.requires aligned c.near_region.result c.near_region.ensures.found c.near_region.ensures.whole

pub returns-clause-inside : goal.returns-clause-inside
returns-clause-inside c =
    let aligned : c.args.addr % c.args.width ≡ 0 = ap (λ n. c.args.addr % n) (sym c.from.ensures) ∙ c.if-addr-from-ne0.false in
    near_inside c.args.self.now c.args.addr c.args.width c.requires aligned c.near_region.result c.near_region.ensures.found c.near_region.ensures.whole
