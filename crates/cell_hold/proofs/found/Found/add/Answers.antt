use Rattle.std.proofs.Common.{◌≡◌, ◌∙◌, ◌++◌, ◌∷◌, [], ap, false, sym, subst}
use Rattle.std.specs.Prelude.{◌==◌}
use Rattle.cell_hold.specs.Adds.{Adds, Roomy, has_cell}
use Rattle.cell_hold.proofs.Adding.{cell_added}
use Rattle.cell_hold.proofs.found.Found.add.Goals as goal

pub returns-clause-added : goal.returns-clause-added
returns-clause-added c =
    let fresh : has_cell c.args.self.now.items c.args.cell.0 ≡ false = cc in
    let grown : c.push_reserved.new.self.items ≡ c.args.self.now.items ++ c.args.cell ∷ [] = c.push_reserved.ensures.items ∙ ap (λ (f : Roomy). f.items ++ c.args.cell ∷ []) c.self.view_is in
    subst (λ cells. Adds (λ k. c.args.cell.0 == k) c.args.self.now.room c.args.self.now.items cells) (sym grown) (cell_added c.args.cell c.args.self.now.room c.args.self.now.items fresh)
