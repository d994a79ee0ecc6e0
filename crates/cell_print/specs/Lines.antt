-- The lines that a run writes for an answer.
--     lines_of n answer      the lines of the answer to the command of line n
--     reply_lines, refusal_line    those of a command that was done, and of one that was refused
--     run_lines start run    what a task did, and what it put out
--     link_line link         a link, as `deps` and `users` show it
use Rattle.std.specs.Prelude.{◌≡◌, ℕ, zero, suc, ◌+◌, ◌/◌, ◌%◌, ◌^◌, List, [], ◌∷◌, ◌++◌, length, take, drop, Option, Some, None, Result, Ok, Err, codes, ◌==◌, ◌&&◌, Bool, not, nat_le, if◌then◌else◌}
use Rattle.std.specs.List.{concat, flat_map}
use Rattle.std.specs.Fmt.{decimal}
use Rattle.cell_num.specs.declared.ids.Cause.{Cause}
use Rattle.cell_num.specs.declared.ids.CellId.{CellId}
use Rattle.cell_num.specs.declared.ids.Holder.{Holder}
use Rattle.cell_num.specs.declared.ids.Holder.TheVariants.{Task as TaskHolder, Cell as CellHolder}
use Rattle.cell_num.specs.declared.ids.SecKey.{SecKey}
use Rattle.cell_num.specs.declared.ids.Why.{Why}
use Rattle.cell_num.specs.declared.ids.Why.TheVariants.{Returned, Trap, Budget}
use Rattle.cell_text.specs.Number.{hex, hex_byte}
use Rattle.cell_world.specs.declared.line.DumpLine.{DumpLine}
use Rattle.cell_world.specs.declared.reply.Found.{Found}
use Rattle.cell_world.specs.declared.reply.LinkLine.{LinkLine}
use Rattle.cell_world.specs.declared.reply.MapCell.{MapCell}
use Rattle.cell_world.specs.declared.reply.MapSection.{MapSection}
use Rattle.cell_world.specs.declared.reply.Reply.{Reply}
use Rattle.cell_world.specs.declared.reply.Reply.TheVariants.{Ns, Load, Spawn, Step, Run, Kill, Swap, Unload, Purge, Tasks, Find, Deps, Users, Map, Dump, DumpAll, Recover, Rebuild, Clone}
use Rattle.cell_world.specs.declared.reply.TaskLine.{TaskLine}
use Rattle.cell_world.specs.declared.reply.TaskRun.{TaskRun}
use Rattle.cell_world.specs.declared.reply.TaskState.{TaskState}
use Rattle.cell_world.specs.declared.reply.TaskState.TheVariants.{Ready, Done, Fault}
use Rattle.cell_world.specs.declared.refusal.Refusal.{Refusal}
use Rattle.cell_world.specs.declared.refusal.Refusal.TheVariants.{Unknown, NameTaken, NotRunnable, TooMany, NoObject, Ambiguous, BadObject, Duplicate, Missing, NoEntry, Exhausted, Overflow, Torn, Transfer, Held, NotFaulted, NoCrate, NoParent}
use Rattle.cell_dumped.specs.Texts.{line_text}
use Rattle.cell_print.specs.Words.{many_word, kind_word, cause_word}

-- the parts of a line, and a line feed
abbrev pub line : List (List ℕ) → List ℕ
line parts = concat parts ++ 10 ∷ []

abbrev pub cell_word : CellId → List ℕ
cell_word cell = codes "#" ++ decimal cell.0

abbrev pub task_word : ℕ → List ℕ
task_word task = codes "t" ++ decimal task

-- behind a space
abbrev pub spaced : List ℕ → List ℕ
spaced word = 32 ∷ word

-- the cells, with a space between, or a dash where there is none
abbrev pub cells_word : List CellId → List ℕ
cells_word [] = codes "-"
cells_word (cell ∷ cells) = cell_word cell ++ flat_map (λ c. spaced (cell_word c)) cells

-- the number of a command's line and the words of its answer, and then what they are about, each with a space before it
abbrev pub answer_line : ℕ → List ℕ → List (List ℕ) → List ℕ
answer_line n words parts = line (decimal n ∷ codes " " ∷ words ∷ flat_map spaced parts ∷ [])

-- an address and the bytes from there on
abbrev pub byte_word : ℕ → List ℕ
byte_word b = 32 ∷ hex_byte b

abbrev pub row : ℕ → List ℕ → List ℕ
row addr bytes = line (codes "  " ∷ hex addr ∷ flat_map byte_word bytes ∷ [])

-- so many rows of sixteen bytes
abbrev pub rows_within : ℕ → ℕ → List ℕ → List ℕ
rows_within zero addr bytes = []
rows_within (suc n) addr bytes = row addr (take 16 bytes) ++ rows_within n ((addr + 16) % 2 ^ 64) (drop 16 bytes)

-- as many as the bytes fill, of which the last may be shorter
unfoldable pub rows : ℕ → List ℕ → List ℕ
rows addr bytes = rows_within ((length bytes + 15) / 16) addr bytes

abbrev pub key_word : SecKey → List ℕ
key_word key = concat (cell_word key.cell ∷ codes "." ∷ decimal key.section ∷ [])

-- a place in a section and its address, or a dash
abbrev pub found_word : Option Found → List ℕ
found_word None = codes "-"
found_word (Some found) = concat (key_word found.key ∷ codes "+" ∷ hex found.offset ∷ codes " " ∷ hex found.addr ∷ [])

-- what a section may be used for
abbrev pub permission_word : MapSection → List ℕ
permission_word s = if s.exec then codes "rx" else if s.write then codes "rw" else codes "ro"

abbrev pub section_line : MapSection → List ℕ
section_line s =
    line (codes "    " ∷ decimal s.section ∷ codes " " ∷ permission_word s ∷ codes " " ∷ hex s.start ∷ codes " " ∷ decimal s.size ∷ [])

-- attached, or put aside by the swap of that number
abbrev pub standing_word : Option ℕ → List ℕ
standing_word None = codes "attached"
standing_word (Some swap) = codes "detached " ++ decimal swap

abbrev pub cell_line : MapCell → List ℕ
cell_line c =
    line (codes "  #" ∷ decimal c.cell.0 ∷ codes " " ∷ c.ns ∷ codes "/" ∷ c.stem ∷ codes " " ∷ standing_word c.group ∷ codes " " ∷ c.file ∷ [])

-- a cell, and then its sections
abbrev pub cell_lines : MapCell → List ℕ
cell_lines c = cell_line c ++ flat_map section_line c.sections

-- how a task stands after its turns
abbrev pub state_word : TaskState → List ℕ
state_word Ready = codes "ready"
state_word (Done code) = codes "done " ++ decimal code
state_word (Fault cause at) = concat (codes "fault " ∷ cause_word cause ∷ codes " at " ∷ hex at ∷ [])

-- 0x20 to 0x7E, but the backslash
abbrev pub is_plain : ℕ → Bool
is_plain b = nat_le 32 b && nat_le b 126 && not (b == 92)

-- a plain byte as it is, and each other one as a backslash, x and two digits
abbrev pub escaped : ℕ → List ℕ
escaped b = if is_plain b then b ∷ [] else 92 ∷ 120 ∷ hex_byte b

-- what a task put out, where it did
abbrev pub out_lines : ℕ → List ℕ → List ℕ
out_lines task out = if length out == 0 then [] else line (codes "  out t" ∷ decimal task ∷ codes " " ∷ flat_map escaped out ∷ [])

-- what a task did, behind the words that begin the line
abbrev pub turns_line : List ℕ → TaskRun → List ℕ
turns_line start r = line (start ∷ decimal r.task ∷ codes " turns " ∷ decimal r.turns ∷ codes " " ∷ state_word r.state ∷ [])

-- that line, and what the task put out
abbrev pub run_lines : List ℕ → TaskRun → List ℕ
run_lines start r = turns_line start r ++ out_lines r.task r.out

-- how a live task stands
abbrev pub live_word : Option Cause → ℕ → List ℕ
live_word None pc = codes "ready pc " ++ hex pc
live_word (Some cause) pc = state_word (Fault cause pc)

abbrev pub task_line : TaskLine → List ℕ
task_line t = line (codes "  t" ∷ decimal t.task ∷ codes " " ∷ live_word t.fault t.pc ∷ codes " root #" ∷ decimal t.root.0 ∷ [])

-- an offset in a section
abbrev pub place_word : SecKey → ℕ → List ℕ
place_word key offset = concat (key_word key ∷ codes "+" ∷ hex offset ∷ [])

-- the place of an entry, its kind, and the section that it leads to
abbrev pub link_line : LinkLine → List ℕ
link_line l =
    line (codes "  " ∷ place_word l.user l.offset ∷ codes " " ∷ kind_word l.kind ∷ codes " -> " ∷ key_word l.target ∷ [])

-- a line of the whole machine's dump
abbrev pub dump_line : DumpLine → List ℕ
dump_line l = line (codes "  " ∷ line_text l ∷ [])

-- what keeps a cell: a task, or another cell
abbrev pub holder_word : Holder → List ℕ
holder_word (TaskHolder task) = task_word task
holder_word (CellHolder cell) = cell_word cell

-- how a transfer routine ended that failed
unfoldable pub why_word : Why → List ℕ
why_word (Returned code) = codes "returned " ++ decimal code
why_word (Trap cause pc) = concat (codes "trap " ∷ cause_word cause ∷ codes " at " ∷ hex pc ∷ [])
why_word Budget = codes "budget"

-- the number of a swap, its new cells, how many fields were patched, the cells that went, and those put aside that stay
abbrev pub exchange_words : ℕ → List CellId → ℕ → List CellId → List CellId → List (List ℕ)
exchange_words number fresh patched removed kept =
    decimal number ∷ codes "new" ∷ cells_word fresh ∷ codes "patched" ∷ decimal patched
    ∷ codes "removed" ∷ cells_word removed ∷ codes "kept" ∷ cells_word kept ∷ []

-- the task that begins again, and the swap
abbrev pub again_words : ℕ → ℕ → List CellId → ℕ → List CellId → List CellId → List (List ℕ)
again_words task number fresh patched removed kept = task_word task ∷ codes "swap" ∷ exchange_words number fresh patched removed kept

abbrev pub reply_lines : ℕ → Reply → List ℕ
reply_lines n (Ns name) = answer_line n (codes "ok ns") (name ∷ [])
reply_lines n (Load fresh patched) = answer_line n (codes "ok load") (cells_word fresh ∷ codes "patched" ∷ decimal patched ∷ [])
reply_lines n (Spawn task pc) = answer_line n (codes "ok spawn") (task_word task ∷ codes "pc" ∷ hex pc ∷ [])
reply_lines n (Step run) = run_lines (decimal n ++ codes " ok step t") run
reply_lines n (Run runs) = answer_line n (codes "ok run") [] ++ flat_map (run_lines (codes "  t")) runs
reply_lines n (Kill task) = answer_line n (codes "ok kill") (task_word task ∷ [])
reply_lines n (Swap number fresh patched removed kept) = answer_line n (codes "ok swap") (exchange_words number fresh patched removed kept)
reply_lines n (Unload removed) = answer_line n (codes "ok unload removed") (cells_word removed ∷ [])
reply_lines n (Purge removed) = answer_line n (codes "ok purge removed") (cells_word removed ∷ [])
reply_lines n (Tasks tasks) = answer_line n (codes "ok tasks") [] ++ flat_map task_line tasks
reply_lines n (Find found) = answer_line n (codes "ok find") (found_word found ∷ [])
reply_lines n (Deps cell links) = answer_line n (codes "ok deps") (cell_word cell ∷ []) ++ flat_map link_line links
reply_lines n (Users cell links) = answer_line n (codes "ok users") (cell_word cell ∷ []) ++ flat_map link_line links
reply_lines n (Map cells) = answer_line n (codes "ok map") [] ++ flat_map cell_lines cells
reply_lines n (Dump key start bytes) = answer_line n (codes "ok dump") (key_word key ∷ []) ++ rows start bytes
reply_lines n (DumpAll lines) = answer_line n (codes "ok dumpall") [] ++ flat_map dump_line lines
reply_lines n (Recover task number fresh patched removed kept) = answer_line n (codes "ok recover") (again_words task number fresh patched removed kept)
reply_lines n (Rebuild task number fresh patched removed kept) = answer_line n (codes "ok rebuild") (again_words task number fresh patched removed kept)
reply_lines n (Clone name fresh patched) = answer_line n (codes "ok clone") (name ∷ cells_word fresh ∷ codes "patched" ∷ decimal patched ∷ [])

abbrev pub place_in : CellId → ℕ → ℕ → List ℕ
place_in cell section offset = place_word (record { cell = cell; section = section }) offset

abbrev pub refusal_line : ℕ → Refusal → List ℕ
refusal_line n (Unknown word) = answer_line n (codes "E1 unknown") (word ∷ [])
refusal_line n (NameTaken word) = answer_line n (codes "E2 taken") (word ∷ [])
refusal_line n (NotRunnable task cause pc) = answer_line n (codes "E3 faulted") (task_word task ∷ cause_word cause ∷ hex pc ∷ [])
refusal_line n (TooMany kind limit) = answer_line n (codes "E4 too-many") (many_word kind ∷ decimal limit ∷ [])
refusal_line n (NoObject stem) = answer_line n (codes "E5 no-object") (stem ∷ [])
refusal_line n (Ambiguous one two) = answer_line n (codes "E6 ambiguous") (one ∷ two ∷ [])
refusal_line n (BadObject file rule at) = answer_line n (codes "E7 object") (file ∷ codes "rule" ∷ decimal rule ∷ codes "at" ∷ decimal at ∷ [])
refusal_line n (Duplicate name holder) = answer_line n (codes "E8 duplicate") (name ∷ cell_word holder ∷ [])
refusal_line n (Missing name needed_by) = answer_line n (codes "E9 missing") (name ∷ cell_word needed_by ∷ [])
refusal_line n (NoEntry name) = answer_line n (codes "E10 no-entry") (name ∷ [])
refusal_line n (Exhausted wanted largest) = answer_line n (codes "E11 exhausted") (decimal wanted ∷ decimal largest ∷ [])
refusal_line n (Overflow cell section offset kind) = answer_line n (codes "E12 overflow") (place_in cell section offset ∷ kind_word kind ∷ [])
refusal_line n (Torn task cell section offset) = answer_line n (codes "E13 torn") (task_word task ∷ place_in cell section offset ∷ [])
refusal_line n (Transfer name why) = answer_line n (codes "E14 transfer") (name ∷ why_word why ∷ [])
refusal_line n (Held cell holder) = answer_line n (codes "E15 held") (cell_word cell ∷ holder_word holder ∷ [])
refusal_line n (NotFaulted task) = answer_line n (codes "E16 not-faulted") (task_word task ∷ [])
refusal_line n (NoCrate task pc) = answer_line n (codes "E17 no-crate") (task_word task ∷ hex pc ∷ [])
refusal_line n (NoParent word) = answer_line n (codes "E18 no-parent") (word ∷ [])

abbrev pub lines_of : ℕ → Result Reply Refusal → List ℕ
lines_of n (Ok reply) = reply_lines n reply
lines_of n (Err refusal) = refusal_line n refusal

-- the text begins with what it held
pub record Extends (old new : List ℕ) : Type 0 where
  pub more : List ℕ
  pub is : new ≡ old ++ more
