-- Where lines stand in a file.
--     texts_of file lines       the lines, each with its number
--     AreWithin file lines      they are in the file, where no line's number is above its place
--     text_of file line         the line's text
--     IsWithin file line        it is in the file
use Rattle.std.specs.Prelude.{◌≤◌, ◌<◌, ◌^◌, ℕ, List, length, slice_range}
use Rattle.cell_audit.specs.Dumps.{Text, texts_from}
use Rattle.cell_audit.specs.declared.dump.Lines.{Lines}
use Rattle.cell_audit.specs.declared.dump.Line.{Line}

abbrev pub texts_of : List ℕ → Lines → List Text
texts_of file lines = texts_from lines.first (slice_range file lines.start lines.end)

pub record AreWithin (file : List ℕ) (lines : Lines) : Type 0 where
  pub numbers : lines.first ≤ lines.start
  pub forward : lines.start ≤ lines.end
  pub within : lines.end ≤ length file

abbrev pub text_of : List ℕ → Line → Text
text_of file line = (line.number, slice_range file line.start line.end)

pub record IsWithin (file : List ℕ) (line : Line) : Type 0 where
  pub forward : line.start ≤ line.end
  pub within : line.end ≤ length file
  pub small : length file < 2 ^ 32
