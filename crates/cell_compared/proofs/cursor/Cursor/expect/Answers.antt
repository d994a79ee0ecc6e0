use Rattle.std.proofs.Common.{ap, ◌∙◌, ◌++◌, List, ℕ}
use Rattle.cell_dumped.specs.Texts.{line_text}
use Rattle.cell_compared.specs.Left.{left, text_held}
use Rattle.cell_compared.proofs.Walking.{one_shown}
use Rattle.cell_compared.proofs.cursor.Cursor.expect.Goals as goal

pub returns-then-is_shown : goal.returns-then-is_shown
returns-then-is_shown c =
    one_shown (left c.args.self.now) (left c.next_line.new.self) (text_held c.in-Some.held) c.args.line.now c.deref.result.now c.in-Some.ensures.steps c.if-is_shown.ensures
    (c.deref.ensures.value ∙ (ap (λ (v : _). v.items) c.next_line.ensures.fresh ∙ (c.in_ok-put_line.ensures ∙ ap (λ (bytes : List ℕ). bytes ++ line_text c.args.line.now) c.clear.ensures.items)))
