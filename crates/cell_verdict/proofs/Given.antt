-- A verdict that is given stands to the definition as it does to its value.
use Rattle.std.proofs.Common.{◌≡◌, sym, ◌∙◌, ap, subst, Ok, Err}
use Rattle.std.specs.Prelude.{IfErr, IfOk}
use Rattle.std.specs.declared.result.Result.{Result}
use Rattle.cell_io.specs.declared.stop.Stop.{Stop}
use Rattle.cell_io.specs.declared.stop.Stop.TheVariants.{OutOfMemory}
use Rattle.cell_io.specs.Within.{Gives, Stops}

pub gives : {R A : Type 0} (r : Result A (Stop R)) (value : A) (said : Result A R) → said ≡ Ok value → IfOk r (λ x. x ≡ value) → IfErr r (λ stop. stop ≡ OutOfMemory)
    → Gives (λ x. x) r said
gives (Ok x) value said e h k = e ∙ ap Ok (sym h)
gives {R = R} (Err stop) value said e h k = subst (λ (s : Stop R). Stops s said) (sym k) tt
