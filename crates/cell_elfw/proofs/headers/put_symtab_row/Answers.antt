use Rattle.cell_object.specs.Rows.{section_row_bytes}
use Rattle.cell_elfw.proofs.headers.put_symtab_row.Goals as goal

pub returns : goal.returns
unfolding section_row_bytes
returns c = rw (c.strtab_number-strtab.ensures, c.local_count.ensures.count, c.as_slice.ensures) at c.put_fields.ensures
