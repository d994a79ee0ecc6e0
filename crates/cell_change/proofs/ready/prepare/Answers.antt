use Rattle.std.proofs.Common.{◌∙◌, ap, ap₂, sym, subst, length, map, Global, List, Vec}
use Rattle.std.specs.Prelude.{All}
use Rattle.cell_world.specs.Coherent.{IsLoadable}
use Rattle.cell_world.specs.declared.state.NewCell.{NewCell}
use Rattle.cell_world.specs.World.{Alias}
use Rattle.cell_machine.specs.Machine.{soft_of}
use Rattle.cell_machine.specs.Staged.{arrivals}
use Rattle.cell_load.specs.Adding.{numbers_in}
use Rattle.cell_change.proofs.ready.prepare.Goals as goal

pub of-requires-clause-named : goal.of-requires-clause-named
of-requires-clause-named c =
    ap (λ (names : Vec (List Alias) Global). length names.items) c.replace-names.ensures.value
    ∙ (c.requires.named ∙ ap length (sym c.deref.ensures.value))

pub of-requires-clause-loadable : goal.of-requires-clause-loadable
of-requires-clause-loadable c = subst (λ (cells : List NewCell). All (λ d. IsLoadable d.object) cells) (sym c.deref.ensures.value) c.requires.loadable

pub returns-clause-prepared : goal.returns-clause-prepared
returns-clause-prepared c =
    let p = c.in_ok-prepared.ensures {u = tt} in
    record {
      newcomers = p.newcomers ∙ ap₂ (λ (cells : List NewCell) (names : Vec (List Alias) Global). arrivals cells names.items) c.deref.ensures.value c.replace-names.ensures.value;
      sections = p.sections ∙ ap (λ (cells : List NewCell). map numbers_in cells) c.deref.ensures.value;
      soft = p.soft ∙ ap soft_of c.deref.ensures.value;
    }
