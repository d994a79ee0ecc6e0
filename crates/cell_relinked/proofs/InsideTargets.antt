-- What symbols are where their objects define them.
use Rattle.std.proofs.Common.{◌≡◌, sym, ◌∙◌, ap, ℕ, ◌+◌}
use Rattle.std.specs.Prelude.{Some}
use Rattle.cell_object.specs.declared.object.Home.TheVariants.{Inside}
use Rattle.cell_object.specs.declared.object.Symbol.{Symbol}
use Rattle.cell_world.specs.Linked.Target.{own_target, start_of}
use Rattle.cell_world.specs.World.{key_of}
use Rattle.cell_world.specs.declared.state.NewCell.{NewCell}
use Rattle.cell_world.specs.declared.state.Target.TheVariants.{Section}

pub inside_target : (c : NewCell) (s : Symbol) (section start : ℕ) → s.home ≡ Inside section → start ≡ start_of c section
    → Some (Section (key_of c.id.0 section) s.value (start + s.value)) ≡ own_target c s s.home
inside_target c s section start e f =
    ap (λ (n : ℕ). Some (Section (key_of c.id.0 section) s.value (n + s.value))) f ∙ ap (own_target c s) (sym e)
