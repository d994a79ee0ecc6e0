use Rattle.cell_object.specs.Rows.{section_row_bytes}
use Rattle.cell_elfw.proofs.headers.put_section_row.Goals as goal

pub returns : goal.returns
unfolding section_row_bytes
returns c = rw (c.fill_type-kind.ensures, c.section_flags-flags.ensures) at c.put_fields.ensures
