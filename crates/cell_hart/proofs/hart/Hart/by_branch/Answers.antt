use Rattle.std.proofs.Common.{◌∙◌, sym, subst, rules, w32, FitsSigned, to_z, of_z}
use Rattle.std.proofs.lemmas.Int.{to_z-of_z}
use Rattle.cell_world.specs.Running.Execute.{Effect}
use Rattle.cell_hart.specs.Step.{Steps, seen_of}
use Rattle.cell_hart.proofs.Known.{branch_is}
use Rattle.cell_hart.proofs.hart.Hart.by_branch.Goals as goal

pub returns : goal.returns
returns c =
    let fits : FitsSigned w32 c.immediate_b.result = search rules in
    subst (λ (e : Effect). Steps c.lead.result e c.args.self.now c.lead.new.self c.args.memory.now c.args.memory.now)
    (sym (branch_is c.args.op (seen_of c.args.memory.now) c.args.self.now.x c.args.self.now.pc c.args.word c.rs1.result c.rs2.result c.register-a.result c.register-b.result c.aim-there.result c.is_taken-taken.result (to_z w32 (of_z w32 c.immediate_b.result)) c.requires.form c.requires.row c.rs1.ensures c.rs2.ensures c.register-a.ensures c.register-b.ensures (to_z-of_z w32 c.immediate_b.result fits ∙ c.immediate_b.ensures) c.is_taken-taken.ensures c.aim-there.ensures))
    c.lead.ensures
