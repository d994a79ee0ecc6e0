use Rattle.std.proofs.Common.{◌∙◌, sym, subst, rules, w32, FitsSigned, to_z, of_z}
use Rattle.std.proofs.lemmas.Int.{to_z-of_z}
use Rattle.cell_world.specs.Running.Execute.{Effect}
use Rattle.cell_hart.specs.Step.{Steps, seen_of}
use Rattle.cell_hart.proofs.Known.{store_is}
use Rattle.cell_hart.proofs.hart.Hart.by_store.Goals as goal

pub returns : goal.returns
returns c =
    let fits : FitsSigned w32 c.immediate_s.result = search rules in
    subst (λ (e : Effect). Steps c.store.result e c.args.self.now c.store.new.self c.args.memory.now c.store.new.memory)
    (sym (store_is c.args.op (seen_of c.args.memory.now) c.args.self.now.x c.args.self.now.pc c.args.word c.rs1.result c.rs2.result c.register-a.result c.register-b.result c.address-addr.result c.args.width (to_z w32 (of_z w32 c.immediate_s.result)) c.requires.form c.requires.row c.rs1.ensures c.rs2.ensures c.register-a.ensures c.register-b.ensures (to_z-of_z w32 c.immediate_s.result fits ∙ c.immediate_s.ensures) c.address-addr.ensures))
    c.store.ensures
