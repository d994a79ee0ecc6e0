use Rattle.std.proofs.Common.{◌∙◌, sym, subst, rules, w32, FitsSigned, to_z, of_z}
use Rattle.std.proofs.lemmas.Int.{to_z-of_z}
use Rattle.cell_world.specs.Running.Execute.{Effect}
use Rattle.cell_hart.specs.Step.{Steps, seen_of}
use Rattle.cell_hart.proofs.Known.{shift_is}
use Rattle.cell_hart.proofs.hart.Hart.by_shift.Goals as goal

pub returns : goal.returns
returns c =
    let fits : FitsSigned w32 c.shift.result = search rules in
    subst (λ (e : Effect). Steps c.compute.result e c.args.self.now c.compute.new.self c.args.memory.now c.args.memory.now)
    (sym (shift_is c.args.op (seen_of c.args.memory.now) c.args.self.now.x c.args.self.now.pc c.args.word c.rs1.result c.rd.result c.register-a.result c.register-b.result c.result-value.result (to_z w32 (of_z w32 c.shift.result)) c.requires.form c.requires.row c.rs1.ensures c.register-a.ensures c.register-b.ensures (to_z-of_z w32 c.shift.result fits ∙ c.shift.ensures) c.result-value.ensures c.rd.ensures))
    c.compute.ensures
