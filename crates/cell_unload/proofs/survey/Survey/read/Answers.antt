use Rattle.std.proofs.Common.{sym, ◌∙◌, ap, subst, ℕ, List}
use Rattle.std.specs.Prelude.{vec_capacity}
use Rattle.cell_world.specs.Answer.{numbers_of}
use Rattle.cell_world.specs.Kept.{kept_in}
use Rattle.cell_world.specs.declared.state.Placed.{Placed}
use Rattle.cell_hold.specs.declared.roots.Root.{Root}
use Rattle.cell_hold.specs.Places.{HasTargets}
use Rattle.cell_hold.specs.Roots.{AreCells, HasRoom, holding_by}
use Rattle.cell_machine.specs.Machine.{world_of}
use Rattle.cell_unload.proofs.Surveyed.{cells_fit, cells_named, has_targets, holding_seen}
use Rattle.cell_unload.proofs.survey.Survey.read.Goals as goal

pub kept-requires-clause-targets : goal.kept-requires-clause-targets
kept-requires-clause-targets c =
    subst (λ (ps : List Placed). HasTargets c.args.machine.now.graph ps) (sym c.requires.outlook.is.sections) (has_targets c.args.machine.now c.requires.whole)

pub kept-requires-clause-room : goal.kept-requires-clause-room
kept-requires-clause-room c =
    subst (λ (rs : List Root). HasRoom c.args.outlook.places rs (vec_capacity c.args.cells)) (sym c.deref.ensures.value)
    (subst (λ (ps : List Placed). HasRoom ps c.args.outlook.roots.items (vec_capacity c.args.cells)) (sym c.requires.outlook.is.sections)
    (cells_fit c.args.machine.now c.requires.whole c.args.outlook.roots.items c.requires.outlook.is.present (vec_capacity c.args.cells) c.requires.room))

pub returns : goal.returns
returns c = λ aside look.
    let m = c.args.machine.now in
    let places : List Placed = c.args.outlook.places in
    let roots : List Root = c.args.outlook.roots.items in
    let numbers : List ℕ = numbers_of (world_of m).cells in
    let named : AreCells numbers places c.deref.result.now =
    subst (λ (rs : List Root). AreCells numbers places rs) (sym c.deref.ensures.value)
    (subst (λ (ps : List Placed). AreCells numbers ps roots) (sym look.sections) (cells_named m c.requires.whole roots look.present)) in
    record {
      outlook = record { sections = c.kept.ensures.places ∙ look.sections; attached = look.attached; claims = look.claims; present = look.present };
      kept =
          c.kept.ensures.kept numbers named
          ∙ ap kept_in (ap (λ (rs : List Root). holding_by numbers m.graph m.memory places rs) c.deref.ensures.value
          ∙ holding_seen m aside places roots look.sections look.attached look.claims);
    }
