use Rattle.cell_compared.proofs.Lining.{last_bytes, whole_line}
use Rattle.cell_compared.proofs.content_lines.bytes_from.Goals as goal

pub returns-then-left-lt64 : goal.returns-then-left-lt64
returns-then-left-lt64 c = last_bytes c.args.bytes.now c.args.from c.if-left-lt64.true

pub returns : goal.returns
returns c = whole_line c.args.bytes.now c.args.from
