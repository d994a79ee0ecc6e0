use Rattle.std.specs.Prelude.{◌<◌}
use Rattle.cell_asm.proofs.Facts.{refl, ◌∙◌, subst, sym, IfSome, bytes_eq, register_names}
use Rattle.cell_asm.proofs.ListLemmas.{position-below}
use Rattle.cell_asm.proofs.names.named_register.Goals as goal

pub returns-clause-place : goal.returns-clause-place
returns-clause-place c = c.place_in.ensures ∙ refl

pub returns-clause-small : goal.returns-clause-small
returns-clause-small c =
    subst (λ r. IfSome r (λ i. i < 32)) (sym (c.place_in.ensures ∙ refl)) (position-below (λ name. bytes_eq c.args.text.now name) register_names)
