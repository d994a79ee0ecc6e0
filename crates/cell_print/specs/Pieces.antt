-- The text of a piece of a line.
use Rattle.std.specs.Prelude.{ℕ, List}
use Rattle.std.specs.List.{flat_map}
use Rattle.std.specs.Fmt.{decimal}
use Rattle.cell_text.specs.Number.{hex}
use Rattle.cell_print.specs.declared.piece.Piece.{Piece}
use Rattle.cell_print.specs.declared.piece.Piece.TheVariants.{Text, Name, Dec, Long, Hex, Cell, Key, Place, Cells, Found, Standing, Task, State, Live, Out, Holder, Cause, Why, Kind, Many}
use Rattle.cell_print.specs.Lines.{cell_word, cells_word, escaped, found_word, holder_word, key_word, live_word, place_word, standing_word, state_word, task_word, why_word}
use Rattle.cell_print.specs.Words.{cause_word, kind_word, many_word}

abbrev pub text : Piece → List ℕ
text (Text bytes) = bytes.now
text (Name name) = name.now
text (Dec value) = decimal value
text (Long value) = decimal value
text (Hex value) = hex value
text (Cell cell) = cell_word cell
text (Key key) = key_word key
text (Place key offset) = place_word key offset
text (Cells cells) = cells_word cells.now
text (Found found) = found_word found
text (Standing group) = standing_word group
text (Task task) = task_word task
text (State state) = state_word state
text (Live fault pc) = live_word fault pc
text (Out bytes) = flat_map escaped bytes.now
text (Holder holder) = holder_word holder
text (Cause cause) = cause_word cause
text (Why why) = why_word why
text (Kind kind) = kind_word kind
text (Many many) = many_word many
