use Rattle.std.proofs.Common.{◌∙◌, sym, subst, rules, w32, FitsSigned, to_z, of_z}
use Rattle.std.proofs.lemmas.Int.{to_z-of_z}
use Rattle.cell_world.specs.Running.Execute.{Effect}
use Rattle.cell_hart.specs.Step.{Steps, seen_of}
use Rattle.cell_hart.proofs.Known.{load_is}
use Rattle.cell_hart.proofs.hart.Hart.by_load.Goals as goal

pub returns : goal.returns
returns c =
    let fits : FitsSigned w32 c.immediate_i.result = search rules in
    subst (λ (e : Effect). Steps c.load.result e c.args.self.now c.load.new.self c.args.memory.now c.args.memory.now)
    (sym (load_is c.args.op (seen_of c.args.memory.now) c.args.self.now.x c.args.self.now.pc c.args.word c.rs1.result c.rd.result c.register-a.result c.address-addr.result c.args.width c.args.with_sign (to_z w32 (of_z w32 c.immediate_i.result)) c.requires.form c.requires.row c.rs1.ensures c.register-a.ensures (to_z-of_z w32 c.immediate_i.result fits ∙ c.immediate_i.ensures) c.address-addr.ensures c.rd.ensures))
    c.load.ensures
