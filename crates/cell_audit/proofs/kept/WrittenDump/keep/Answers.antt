use Rattle.std.proofs.Common.{refl, sym, subst}
use Rattle.cell_world.specs.declared.line.DumpLine.{DumpLine}
use Rattle.cell_audit.specs.declared.written.WrittenCell.{WrittenCell}
use Rattle.cell_audit.specs.Kept.{Keeps}
use Rattle.cell_audit.proofs.Cells.{new_rows, on_ok}
use Rattle.cell_audit.proofs.kept.WrittenDump.keep.Goals as goal

pub returns-in-Cell : goal.returns-in-Cell
returns-in-Cell c =
    let cell : WrittenCell = record {
      line = c.args.line.number;
      cell = c.in-Cell.cell;
      ns = c.in-Cell.ns;
      stem = c.in-Cell.stem;
      file = c.in-Cell.file;
      group = c.in-Cell.group;
      places = c.new.result;
      aliases = c.new-in-Cell.result;
    } in
    on_ok c.add_cell.result c.add_cell.ensures (λ added.
    subst (λ (said : DumpLine). Keeps c.args.line said c.args.self.now (record c.args.self.now { cells = c.add_cell.new.cells })) (sym c.in-Cell.is) (record {
      memory = (refl, refl, refl);
      namespaces = refl;
      cells = record {
        cell = cell;
        added = added;
        number_is = refl;
        row = λ file. new_rows file cell c.new.ensures.items c.new-in-Cell.ensures.items;
        names = c.new-in-Cell.ensures.items;
      };
      lines = refl;
    }))
