-- The dump in a file, and its reading: the lines of it, up to the first that has none behind those before it.
--     dump_in bytes      the lines after the first that begins a dump, up to the first that ends one, each with its number
--     rows_in lines      what these lines say, or the number of the first that says nothing there
use Rattle.std.specs.Prelude.{ℕ, ◌==◌, Bool, false, ◌&&◌, List, [], ◌∷◌, ◌++◌, Option, Some, None, Result, Ok, Err, map, is_some, codes, bytes_eq, option_map, option_and_then, if◌then◌else◌}
use Rattle.std.specs.List.{slice_split}
use Rattle.cell_num.specs.Lists.{numbered_from, where_true}
use Rattle.cell_text.specs.Text.{lines_in}
use Rattle.cell_dumped.specs.Readings.{line_said, number}
use Rattle.cell_world.specs.declared.line.DumpLine.{DumpLine}
use Rattle.cell_audit.specs.Following.{may_follow}

-- a line of a file, and its number from 1 on
abbrev pub Text : Type 0
Text = ℕ × List ℕ

-- a line of a dump, and its number in the file
abbrev pub Row : Type 0
Row = ℕ × DumpLine

-- the words of the answer to a dump of the whole machine
abbrev pub is_answer : List (List ℕ) → Bool
is_answer (n ∷ ok ∷ what ∷ []) = is_some (number n) && bytes_eq ok (codes "ok") && bytes_eq what (codes "dumpall")
is_answer words = false

abbrev pub begins : Text → Bool
begins t = is_answer (slice_split (λ b. b == 32) t.1)

abbrev pub ends : Text → Bool
ends t = bytes_eq t.1 (codes "  end")

abbrev pub behind_beginning : List Text → Option (List Text)
behind_beginning [] = None
behind_beginning (t ∷ rest) = if begins t then Some rest else behind_beginning rest

abbrev pub up_to_end : List Text → Option (List Text)
up_to_end [] = None
up_to_end (t ∷ rest) = if ends t then Some (t ∷ []) else option_map (λ more. t ∷ more) (up_to_end rest)

-- the lines of a text, numbered from there on
abbrev pub texts_from : ℕ → List ℕ → List Text
texts_from first text = numbered_from first (lines_in text)

abbrev pub dump_in : List ℕ → Option (List Text)
dump_in bytes = option_and_then up_to_end (behind_beginning (texts_from 1 bytes))

-- behind two spaces
abbrev pub said_at : List ℕ → Option DumpLine
said_at (a ∷ b ∷ text) = if a == 32 && b == 32 then line_said text else None
said_at text = None

abbrev pub lines_of : List Row → List DumpLine
lines_of rows = map (λ r. r.1) rows

abbrev pub row_after : List Row → Text → Option Row
row_after before t =
    option_and_then (λ l. where_true (may_follow (lines_of before) l) (t.0, l)) (said_at t.1)

abbrev pub rows_after : List Row → List Text → Result (List Row) ℕ
rows_after before [] = Ok before
rows_after before (t ∷ rest) =
    elim (row_after before t) [
      | None ↦ Err t.0
      | Some row ↦ rows_after (before ++ row ∷ []) rest
    ]

abbrev pub rows_in : List Text → Result (List Row) ℕ
rows_in texts = rows_after [] texts
