use Rattle.std.proofs.Common.{◌∙◌, sym, subst, rules, w32, FitsSigned, to_z, of_z}
use Rattle.std.proofs.lemmas.Int.{to_z-of_z}
use Rattle.cell_world.specs.Running.Execute.{Effect}
use Rattle.cell_hart.specs.Step.{Steps, seen_of}
use Rattle.cell_hart.proofs.Known.{jal_is}
use Rattle.cell_hart.proofs.hart.Hart.jump_near.Goals as goal

pub returns : goal.returns
returns c =
    let fits : FitsSigned w32 c.immediate_j-imm.result = search rules in
    subst (λ (e : Effect). Steps c.jump.result e c.args.self.now c.jump.new.self c.args.memory.now c.args.memory.now)
    (sym (jal_is (seen_of c.args.memory.now) c.args.self.now.x c.args.self.now.pc c.args.word c.rd.result c.aim-there.result c.result-back.result (to_z w32 (of_z w32 c.immediate_j-imm.result)) c.requires (to_z-of_z w32 c.immediate_j-imm.result fits ∙ c.immediate_j-imm.ensures) c.aim-there.ensures c.result-back.ensures c.rd.ensures))
    c.jump.ensures
