use Rattle.std.proofs.Common.{◌≡◌, ◌++◌, ◌∷◌, [], refl, sym, ◌∙◌, ap, subst, Some, None, option_map, slice_range}
use Rattle.cell_audit.specs.declared.order.Known.{Known}
use Rattle.cell_audit.specs.Known.{after_line, said_behind}
use Rattle.cell_audit.specs.Reader.{IsKept}
use Rattle.cell_audit.proofs.Keeping.{kept_more, said_fits, said_room}
use Rattle.cell_audit.proofs.Rows.{row_of, with_number}
use Rattle.cell_audit.proofs.read.Reader.take_line.Goals as goal

pub returns-in_default-clause-unread : goal.returns-in_default-clause-unread
returns-in_default-clause-unread c = λ rows h.
    let line = c.args.line in
    let text = slice_range c.args.file.now line.start line.end in
    let nothing : said_behind c.args.self.now.known text ≡ None = sym c.in_ok-said.ensures.line ∙ c.in_default.is in
    (row_of rows c.args.self.now.known line.number text h.knows ∙ ap (option_map (with_number line.number)) nothing, refl)

pub keep-requires-clause-fits : goal.keep-requires-clause-fits
keep-requires-clause-fits c =
    let line = c.args.line in
    let said : said_behind c.args.self.now.known (slice_range c.args.file.now line.start line.end) ≡ Some c.in-Some.said = sym c.in_ok-said.ensures.line ∙ c.in-Some.is in
    said_fits c.args.file.now c.args.self.now.known c.args.self.now.written.cells.items line c.in-Some.said c.requires.within c.requires.ready said

pub keep-requires-clause-room : goal.keep-requires-clause-room
keep-requires-clause-room c =
    let line = c.args.line in
    let said : said_behind c.args.self.now.known (slice_range c.args.file.now line.start line.end) ≡ Some c.in-Some.said = sym c.in_ok-said.ensures.line ∙ c.in-Some.is in
    said_room c.args.self.now.known c.args.self.now.written.cells.items (slice_range c.args.file.now line.start line.end) c.in-Some.said c.requires.ready said

pub returns-clause-read : goal.returns-clause-read
returns-clause-read c = λ rows h.
    let line = c.args.line in
    let text = slice_range c.args.file.now line.start line.end in
    let said : said_behind c.args.self.now.known text ≡ Some c.in-Some.said = sym c.in_ok-said.ensures.line ∙ c.in-Some.is in
    let next : c.read_behind.new.known ≡ after_line c.args.self.now.known c.in-Some.said = rw c.in-Some.is at c.in_ok-said.ensures.known in
    record {
      row = (line.number, c.in-Some.said);
      reads = row_of rows c.args.self.now.known line.number text h.knows ∙ ap (option_map (with_number line.number)) said;
      kept =
          subst (λ (known : Known). IsKept c.args.file.now (rows ++ with_number line.number c.in-Some.said ∷ []) known c.keep.new.self) (sym next)
          (kept_more c.args.file.now rows c.args.self.now.known line c.in-Some.said c.args.self.now.written c.keep.new.self c.requires.within h said c.in_ok-keep.ensures);
    }
