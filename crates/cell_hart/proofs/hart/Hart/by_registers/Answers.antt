use Rattle.std.proofs.Common.{sym, subst, refl}
use Rattle.std.specs.Prelude.{pos}
use Rattle.cell_world.specs.Running.Execute.{Effect}
use Rattle.cell_hart.specs.Step.{Steps, seen_of}
use Rattle.cell_hart.proofs.Known.{register_is}
use Rattle.cell_hart.proofs.hart.Hart.by_registers.Goals as goal

pub returns : goal.returns
returns c =
    subst (λ (e : Effect). Steps c.compute.result e c.args.self.now c.compute.new.self c.args.memory.now c.args.memory.now)
    (sym (register_is c.args.op (seen_of c.args.memory.now) c.args.self.now.x c.args.self.now.pc c.args.word c.rs1.result c.rs2.result c.rd.result c.register-a.result c.register-b.result c.result-value.result (pos 0) c.requires.form c.requires.row c.rs1.ensures c.rs2.ensures c.register-a.ensures c.register-b.ensures refl c.result-value.ensures c.rd.ensures))
    c.compute.ensures
