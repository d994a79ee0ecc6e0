use Rattle.std.specs.Prelude.{◌≡◌}
use Rattle.cell_asm.proofs.Facts.{Ok, None, refl, sym, ap, subst, ◌∙◌, rules, size_at, HasRoom, placed_unless}
use Rattle.cell_asm.proofs.AssembledFits.{placed_room}
use Rattle.cell_asm.proofs.PlacingLemmas.{fault_is, laid_is, follows_more}
use Rattle.cell_asm.proofs.place.Progress.place.Goals as goal

pub add-requires-clause-room : goal.add-requires-clause-room
add-requires-clause-room c =
    let none : c.fault_at.result ≡ None = search rules in
    subst HasRoom (sym c.laid-laid.ensures) (placed_room c.args.self.now c.args.number c.args.line (sym c.fault_at.ensures ∙ none) c.requires.inside)

pub returns-in-Some-clause-line : goal.returns-in-Some-clause-line
returns-in-Some-clause-line c = λ before follows.
    ap (placed_unless before c.args.number c.args.line) (sym (fault_is c.args.self.now before c.args.line follows) ∙ sym c.fault_at.ensures ∙ c.in-Some.is)

pub returns-clause-line : goal.returns-clause-line
returns-clause-line c = λ before follows.
    let none : c.fault_at.result ≡ None = search rules in
    let is = c.laid-laid.ensures ∙ laid_is c.args.self.now before c.args.number c.args.line follows in (
      c.laid-laid.result,
      ap (placed_unless before c.args.number c.args.line) (sym (fault_is c.args.self.now before c.args.line follows) ∙ sym c.fault_at.ensures ∙ none) ∙ ap Ok (sym is),
      follows_more c.args.self.now c.add.new.self before c.laid-laid.result follows (subst (λ l. l.offset ≡ size_at l.part before) (sym is) refl) c.in_ok-add.ensures.adds,
    )
