use Rattle.std.proofs.Common.{ap, subst, sym, ◌∙◌, List, [], slice_range}
use Rattle.std.specs.Prelude.{IfSome, None, Option, Some}
use Rattle.cell_audit.specs.Dumps.{Text}
use Rattle.cell_audit.specs.Within.{AreWithin, texts_of}
use Rattle.cell_audit.specs.declared.dump.Lines.{Lines}
use Rattle.cell_audit.proofs.Rows.{inside_there}
use Rattle.cell_compared.proofs.Stepping.{step_last, step_line}
use Rattle.cell_compared.proofs.cursor.Cursor.next_line.Goals as goal

pub returns-in-Some-clause-steps : goal.returns-in-Some-clause-steps
returns-in-Some-clause-steps c =
    let file = c.args.self.now.file.now in
    let rest = c.in_ok-rest.rest in
    let is = c.in_ok-rest.was {u = tt} in
    let within : AreWithin file rest = subst (λ (o : Option Lines). IfSome o (AreWithin file)) is c.args.self.now.within in
    ap (λ (o : Option Lines). elim o as (λ _. List Text) [ None ↦ [] | Some lines ↦ texts_of file lines ]) is
    ∙ step_line file rest.start rest.end rest.first c.in-Some.len (inside_there file rest.start c.in-Some.len rest.end within.forward c.in-Some.ensures.inside) (sym c.line_end.ensures.place ∙ c.in-Some.is)

pub returns-in-None-clause-steps : goal.returns-in-None-clause-steps
returns-in-None-clause-steps c =
    let file = c.args.self.now.file.now in
    let rest = c.in_ok-rest.rest in
    ap (λ (o : Option Lines). elim o as (λ _. List Text) [ None ↦ [] | Some lines ↦ texts_of file lines ]) (c.in_ok-rest.was {u = tt})
    ∙ step_last rest.first (slice_range file rest.start rest.end) (sym c.line_end.ensures.place ∙ c.in-None.is)
