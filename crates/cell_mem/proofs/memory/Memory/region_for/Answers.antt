use Rattle.std.proofs.Common.{◌≡◌, ◌∙◌, ap, sym, ◌%◌}
use Rattle.cell_mem.proofs.Reading.{access_answer, access_inside, access_mapped}
use Rattle.cell_mem.proofs.memory.Memory.region_for.Goals as goal

pub returns-clause-answer : goal.returns-clause-answer
returns-clause-answer c =
    let aligned : c.args.addr % c.args.width ≡ 0 = ap (λ n. c.args.addr % n) (sym c.from.ensures) ∙ c.if-addr-from-ne0.false in
    rw c.ok_or.ensures.value (access_answer c.args.self.now c.args.addr c.args.width c.requires aligned c.region.result c.region.ensures.answer c.region.ensures.whole)

pub returns-clause-inside : goal.returns-clause-inside
returns-clause-inside c =
    let aligned : c.args.addr % c.args.width ≡ 0 = ap (λ n. c.args.addr % n) (sym c.from.ensures) ∙ c.if-addr-from-ne0.false in
    rw c.ok_or.ensures.value (access_inside c.args.self.now c.args.addr c.args.width c.requires aligned c.region.result c.region.ensures.answer c.region.ensures.whole)

pub returns-clause-mapped : goal.returns-clause-mapped
returns-clause-mapped c =
    let aligned : c.args.addr % c.args.width ≡ 0 = ap (λ n. c.args.addr % n) (sym c.from.ensures) ∙ c.if-addr-from-ne0.false in
    rw c.ok_or.ensures.value (access_mapped c.args.self.now c.args.addr c.args.width c.requires aligned c.region.result c.region.ensures.answer c.region.ensures.whole)
