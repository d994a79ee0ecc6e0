-- The lines of a source that is assembled.
use Rattle.std.specs.Prelude.{◌≡◌, ◌≤◌, ◌<◌, ◌^◌, ◌+◌, ◌||◌}
use Rattle.cell_asm.proofs.Facts.{ℕ, List, Result, Ok, Err, Some, None, refl, [], length, sym, subst, arith, true, false, slice_index_or, and_parts, Option, find, IfOk, All, is_none, IsWhole, IsRuled, image, IsReadable, IsWritable, has_lost, object_unless, object_from, placed_lines, assembled}
use Rattle.cell_asm.proofs.Facts.{Assembles, line_of, AreInside, HasRoom, fault_after, laid_after, offset_of, twice_of, object_of, largest, marks_in, taken, is_long, may_stand, lays_nothing, Object, AsmKind, Laid, Fill, Prog, Note, Zero, Part, Line, AsmFail, Progress, In-All, rebound_of}
use Rattle.std.specs.declared.result.Result.{}
use Rattle.cell_elf.proofs.LoadableCounts.{reads_passed}
use Rattle.cell_elf.proofs.Soundness.{object_readable}
use Rattle.cell_image.proofs.RoundTrip.{read_again}
use Rattle.cell_asm.proofs.ListLemmas.{ok_once}
use Rattle.cell_asm.proofs.EntriesFit.{not_past, largest_most, no_fault}
use Rattle.cell_asm.proofs.GoodBlocks.{statement_marks, none_laid}
use Rattle.cell_asm.proofs.ReadLines.{read_line}
use Rattle.cell_asm.proofs.SectionsFit.{sections_fit}
use Rattle.cell_asm.proofs.SizesFit.{few_symbols, headers_fit, locals_fit, texts_fit, names_fit, size_fits}
use Rattle.cell_asm.proofs.SymbolsFit.{symbols_fit}
use Rattle.cell_asm.proofs.WritableEntries.{entries_grouped, entry_storable, entry_writable}

pub record IsRead (source : List ℕ) (o : Object) : Type 0 where
  pub lines : List Laid
  pub read : placed_lines source ≡ Ok lines
  pub kept : find (has_lost lines) lines ≡ None
  pub made : o ≡ object_of lines

by_lost : (source : List ℕ) (o : Object) (lines : List Laid) (lost : Option Laid) → placed_lines source ≡ Ok lines → find (has_lost lines) lines ≡ lost → object_unless lines lost ≡ Ok o → IsRead source o
by_lost source o lines None read kept e = record { lines = lines; read = read; kept = kept; made = ok_once o (object_of lines) (Ok (object_of lines)) e refl }
by_lost source o lines (Some l) read kept e = absurd cc

by_lines : (source : List ℕ) (o : Object) (r : Result (List Laid) (ℕ × AsmKind)) → placed_lines source ≡ r → object_from r ≡ Ok o → IsRead source o
by_lines source o (Ok lines) read e = by_lost source o lines (find (has_lost lines) lines) read refl e
by_lines source o (Err fault) read e = absurd cc

-- What a source is assembled to can be written: it keeps the rules, so that it is read again, and what is
-- read is readable.

lines_ruled : (source : List ℕ) (lines : List Laid) → placed_lines source ≡ Ok lines → find (has_lost lines) lines ≡ None → length source < 2 ^ 31 → IsRuled (object_of lines)
lines_ruled source lines read kept h = record {
  sections = sections_fit source lines read;
  symbols = symbols_fit source lines read;
  storable = entry_storable source lines read (omega (arith, few_symbols source lines read h));
  entries = entry_writable source lines read kept;
  fits = record {
    grouped = entries_grouped source lines read;
    headers = headers_fit lines;
    locals = locals_fit source lines read h;
    texts = texts_fit source lines read h;
    names = names_fit lines;
    size = size_fits source lines read h;
  };
}

bare_of : (f : Fill) (bytes : List ℕ) (size : ℕ) → IsWhole f bytes size → f ≡ Zero → bytes ≡ []
bare_of Prog bytes size h e = absurd cc
bare_of Note bytes size h e = absurd cc
bare_of Zero bytes size h e = h

-- what keeps the rules can be written
writable : (object : Object) → IsRuled object → IsWritable object
writable object r =
    let passed = reads_passed (image object) object (read_again object r) in
    record {
      readable = subst IsReadable passed.1 (object_readable (image object) passed.0);
      sections = λ k s e. let h = r.sections k s e in record { numbered = h.numbered; name = h.name; bare = bare_of s.fill s.bytes s.size h.whole };
      symbols = λ k s e. let h = r.symbols k s e in record { name = h.name; first = h.first; last = h.last; filed = h.filed; value = h.value; size = h.size };
      entries = λ k e at. let h = r.storable k e at in record { offset = h.offset; symbol = h.symbol; addend = h.addend };
      fits = r.fits;
    }

pub assembled_fits : (source : List ℕ) (o : Object) → assembled source ≡ Ok o → length source < 2 ^ 31 → IsWritable o
assembled_fits source o e h =
    let r : IsRead source o = by_lines source o (placed_lines source) refl e in
    subst IsWritable (sym r.made) (writable (object_of r.lines) (lines_ruled source r.lines r.read r.kept h))

-- The offsets of the entries to come are numbers of 32 bits.
--     inside text line        a line that is read has entries for bytes of its statement
--     placed_room p n line    so they have room where the line has no fault

pub inside : (text : List ℕ) (line : Line) → line_of text ≡ Ok line → AreInside line.statement
inside text line e = λ offset.
    In-All (λ m. m.at ≤ taken line.statement offset) (marks_in line.statement)
    (λ m k. omega (arith, ((statement_marks line.statement offset (read_line text line e).good).stand.0 m k).inside))

room_by : (part : Option Part) (offset : ℕ) (line : Line) → may_stand part line ≡ true → is_long part (offset + taken line.statement offset) ≡ false → AreInside line.statement
    → All (λ m. offset + m.at < 2 ^ 32) (marks_in line.statement)
room_by None offset line s l g = In-All (λ m. offset + m.at < 2 ^ 32) (marks_in line.statement) (λ m k. absurd (none_laid line.statement m (and_parts (is_none line.label) (lays_nothing line.statement) s).1 k))
room_by (Some part) offset line s l g =
    λ k d lt.
    let at : (slice_index_or (marks_in line.statement) k d).at ≤ taken line.statement offset = g offset k d lt in
    omega (arith, at, not_past (largest part) (offset + taken line.statement offset) l, largest_most part)

pub placed_room : (p : Progress) (n : ℕ) (line : Line) → fault_after p line ≡ None → AreInside line.statement → HasRoom (laid_after p n line)
placed_room p n line e g =
    let a = no_fault p.chosen (offset_of p) (twice_of p line.label || rebound_of p line.statement) line e in
    room_by p.chosen (offset_of p) line a.stands a.room g

-- the object of a source can be written
pub writable_all : (r : Result Object AsmFail) (source : List ℕ) → Assembles r (assembled source) → length source < 2 ^ 31 → IfOk r IsWritable
writable_all (Ok o) source e h = assembled_fits source o e h
writable_all (Err f) source e h = tt
