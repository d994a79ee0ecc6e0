-- The commands of a script. A later command is one more of `forms`.
--     command_in forms word arguments      the command of these words, if a form has them
--     cell_names words                     the cells that the words of an `unload` name
--     swap_words words                     what the words of a `swap` say
use Rattle.std.specs.Prelude.{ℕ, nat_lt, nat_le, Bool, false, not, ◌&&◌, ◌||◌, ◌==◌, ◌+◌, List, [], ◌∷◌, map, length, take, drop, position, unwrap_or, is_none, Option, Some, None, if◌then◌else◌, bytes_eq, codes, option_map, option_and_then}
use Rattle.std.specs.List.{list_all, slice_split}
use Rattle.cell_num.specs.Lists.{where_true, equals, each_pair}
use Rattle.cell_object.specs.Symbols.{is_global_name, is_name_byte as is_visible_byte}
use Rattle.cell_text.specs.Number.{number_in, hex_number_in}
use Rattle.cell_world.specs.declared.command.CellName.{CellName}
use Rattle.cell_world.specs.declared.command.SwapItem.{SwapItem}
use Rattle.cell_world.specs.declared.command.Command.{Command}
use Rattle.cell_world.specs.declared.command.Command.TheVariants.{Ns, Load, Spawn, Step, Run, Kill, Swap, Unload, Purge, Find, Map, Tasks, Deps, Users, Dump, DumpAll, Recover, Rebuild, Clone}
use Rattle.cell_script.specs.declared.transfer.Transfer.{Transfer}

abbrev pub is_name_byte : ℕ → Bool
is_name_byte b = (nat_le 97 b && nat_le b 122) || (nat_le 48 b && nat_le b 57) || b == 95

-- 1 to 64 bytes of a-z, 0-9 and _
abbrev pub is_name : List ℕ → Bool
is_name word = nat_lt 0 (length word) && nat_le (length word) 64 && list_all is_name_byte word

-- what a word says: a name, a symbol as a GLOBAL's name is spelled, or a decimal number of at most 2^32 - 1
abbrev pub name : List ℕ → Option (List ℕ)
name word = where_true (is_name word) word

abbrev pub symbol : List ℕ → Option (List ℕ)
symbol word = where_true (is_global_name word) word

abbrev pub number : List ℕ → Option ℕ
number word = number_in 4294967295 word

-- how many turns `step` may give a task, and a swap all its routines together
abbrev pub turns_of_one : List ℕ → Option ℕ
turns_of_one word = number_in 100000 word

-- how many turns `run` may give each task
abbrev pub turns_of_run : List ℕ → Option ℕ
turns_of_run word = number_in 10000 word

-- a task's argument, below 2^64: decimal, or hex after 0x
abbrev pub argument : List ℕ → Option ℕ
argument word = if bytes_eq (take 2 word) (codes "0x") then hex_number_in (drop 2 word) else number_in 18446744073709551615 word

-- no word, and the command
abbrev pub alone : Command → List (List ℕ) → Option Command
alone command [] = Some command
alone command words = None

-- one word, and the command of what it says
abbrev pub single : {A : Type 0} → (List ℕ → Option A) → (A → Command) → List (List ℕ) → Option Command
single said command (a ∷ []) = option_map command (said a)
single said command words = None

-- two words, and what they say together
abbrev pub both : {A B R : Type 0} → (List ℕ → Option A) → (List ℕ → Option B) → (A → B → R) → List (List ℕ) → Option R
both one other made (a ∷ b ∷ []) = option_and_then (λ x. option_map (made x) (other b)) (one a)
both one other made words = None

-- three words, and the command of what they say
abbrev pub all_three : {A B C : Type 0} → (List ℕ → Option A) → (List ℕ → Option B) → (List ℕ → Option C) → (A → B → C → Command) → List (List ℕ) → Option Command
all_three one other last command (a ∷ b ∷ c ∷ []) = option_and_then (λ x. both other last (command x) (b ∷ c ∷ [])) (one a)
all_three one other last command words = None

-- two words with that one between them, and the command of what the two say
abbrev pub both_around : {A B : Type 0} → List ℕ → (List ℕ → Option A) → (List ℕ → Option B) → (A → B → Command) → List (List ℕ) → Option Command
both_around middle one other command (a ∷ m ∷ b ∷ []) = if bytes_eq m middle then both one other command (a ∷ b ∷ []) else None
both_around middle one other command words = None

-- one word or more, and the command of what they say together
abbrev pub several : {A : Type 0} → (List (List ℕ) → Option A) → (A → Command) → List (List ℕ) → Option Command
several said command [] = None
several said command (word ∷ words) = option_map command (said (word ∷ words))

abbrev pub cell_called : List ℕ → List ℕ → CellName
cell_called ns stem = record { ns = ns; stem = stem }

-- NS/STEM: two names, and the one slash between them
abbrev pub cell_name : List ℕ → Option CellName
cell_name word = both name name cell_called (slice_split (λ b. b == 47) word)

-- what each word says, if each says something
abbrev pub each_said : {A : Type 0} → (List ℕ → Option A) → List (List ℕ) → Option (List A)
each_said said [] = Some []
each_said said (word ∷ words) = option_and_then (λ x. option_map (λ rest. x ∷ rest) (each_said said words)) (said word)

-- no word stands twice
abbrev pub are_different : List (List ℕ) → Bool
are_different words = each_pair (λ word later. not (equals later word)) words

-- the cells of such words, each named once: two words for one cell would be the same
abbrev pub cell_names : List (List ℕ) → Option (List CellName)
cell_names words = if are_different words then each_said cell_name words else None

-- 1 to 255 bytes of 0x21 to 0x7E
abbrev pub is_file : List ℕ → Bool
is_file word = nat_lt 0 (length word) && nat_le (length word) 255 && list_all is_visible_byte word

abbrev pub file : List ℕ → Option (List ℕ)
file word = where_true (is_file word) word

abbrev pub is_equals : ℕ → Bool
is_equals b = b == 61

abbrev pub first_equals : List ℕ → Option ℕ
first_equals word = position is_equals word

-- where the first equals sign stands, or the end of the word
abbrev pub end_of_cell : List ℕ → ℕ
end_of_cell word = unwrap_or (first_equals word) (length word)

abbrev pub cell_part : List ℕ → List ℕ
cell_part word = take (end_of_cell word) word

-- what follows the first equals sign
abbrev pub file_part : List ℕ → List ℕ
file_part word = drop (end_of_cell word + 1) word

abbrev pub item_called : CellName → List ℕ → SwapItem
item_called cell file = record { ns = cell.ns; stem = cell.stem; file = file }

-- NS/OLD=FILE
abbrev pub swap_item : List ℕ → Option SwapItem
swap_item word = both cell_name file item_called (cell_part word ∷ file_part word ∷ [])

-- one item or more, and each cell named once
abbrev pub swap_items : List (List ℕ) → Option (List SwapItem)
swap_items [] = None
swap_items (word ∷ words) = if are_different (map cell_part (word ∷ words)) then each_said swap_item (word ∷ words) else None

-- the words begin with that option
abbrev pub has_option : List ℕ → List (List ℕ) → Bool
has_option option [] = false
has_option option (word ∷ words) = bytes_eq word option

-- the words after that option, or all of them where it isn't given
abbrev pub after_option : List ℕ → List (List ℕ) → List (List ℕ)
after_option option words = if has_option option words then drop 1 words else words

-- how many words come before the options: an item has an equals sign, and the first option has none
abbrev pub item_count : List (List ℕ) → ℕ
item_count words = unwrap_or (position (λ word. is_none (first_equals word)) words) (length words)

-- the words behind each `transfer`, from the front on: the word after it names a routine, whatever it is
abbrev pub routine_words : List (List ℕ) → List (List ℕ)
routine_words (word ∷ routine ∷ words) = if bytes_eq word (codes "transfer") then routine ∷ routine_words words else []
routine_words words = []

-- the words after these
abbrev pub after_routines : List (List ℕ) → List (List ℕ)
after_routines (word ∷ routine ∷ words) = if bytes_eq word (codes "transfer") then after_routines words else word ∷ routine ∷ words
after_routines words = words

-- the budget where the line says none: how many turns all routines may have together
abbrev pub usual_budget : ℕ
usual_budget = 10000

-- how many turns that many routines may have together: `budget N`, which needs one at least, or nothing
abbrev pub budget_of : ℕ → List (List ℕ) → Option ℕ
budget_of routines [] = Some usual_budget
budget_of routines (word ∷ turns ∷ []) = if nat_lt 0 routines && bytes_eq word (codes "budget") then turns_of_one turns else None
budget_of routines words = None

abbrev pub transfer_by : List (List ℕ) → ℕ → Transfer
transfer_by routines budget = record { routines = routines; budget = budget }

-- the routines, and then their budget
abbrev pub transfer_of : List (List ℕ) → Option Transfer
transfer_of words =
    let routines = routine_words words in
    let budget = budget_of (length routines) (after_routines words) in
    option_and_then (λ symbols. option_map (transfer_by symbols) budget) (each_said symbol routines)

abbrev pub swap_by : List SwapItem → Bool → Bool → Transfer → Command
swap_by items reexport strict transfer = Swap items reexport strict transfer.routines transfer.budget

-- the options: `reexport`, then `strict`, then the routines and their budget
abbrev pub swap_of : List (List ℕ) → List SwapItem → Option Command
swap_of options items =
    let after_reexport = after_option (codes "reexport") options in
    let after_strict = after_option (codes "strict") after_reexport in
    let command = swap_by items (has_option (codes "reexport") options) (has_option (codes "strict") after_reexport) in
    option_map command (transfer_of after_strict)

-- the items, and then the options
abbrev pub swap_words : List (List ℕ) → Option Command
swap_words words = option_and_then (swap_of (drop (item_count words) words)) (swap_items (take (item_count words) words))

-- a command's first word, and what its other words say
pub record Form : Type 0 where
  pub word : List ℕ
  pub arguments : List (List ℕ) → Option Command

abbrev pub forms : List Form
forms =
    record { word = codes "ns"; arguments = both_around (codes "under") name name (λ fresh parent. Ns fresh parent) }
    ∷ record { word = codes "load"; arguments = both name name (λ ns stem. Load ns stem) }
    ∷ record { word = codes "spawn"; arguments = all_three name symbol argument (λ ns what arg. Spawn ns what arg) }
    ∷ record { word = codes "step"; arguments = both number turns_of_one (λ task turns. Step task turns) }
    ∷ record { word = codes "run"; arguments = single turns_of_run (λ turns. Run turns) }
    ∷ record { word = codes "kill"; arguments = single number (λ task. Kill task) }
    ∷ record { word = codes "swap"; arguments = swap_words }
    ∷ record { word = codes "unload"; arguments = several cell_names (λ cells. Unload cells) }
    ∷ record { word = codes "purge"; arguments = alone Purge }
    ∷ record { word = codes "find"; arguments = both name symbol (λ ns what. Find ns what) }
    ∷ record { word = codes "map"; arguments = alone Map }
    ∷ record { word = codes "tasks"; arguments = alone Tasks }
    ∷ record { word = codes "deps"; arguments = single number (λ cell. Deps cell) }
    ∷ record { word = codes "users"; arguments = single number (λ cell. Users cell) }
    ∷ record { word = codes "dump"; arguments = both number number (λ cell section. Dump cell section) }
    ∷ record { word = codes "dumpall"; arguments = alone DumpAll }
    ∷ record { word = codes "recover"; arguments = single number (λ task. Recover task) }
    ∷ record { word = codes "rebuild"; arguments = single number (λ task. Rebuild task) }
    ∷ record { word = codes "clone"; arguments = both_around (codes "as") name name (λ ns fresh. Clone ns fresh) }
    ∷ []

abbrev pub command_in : List Form → List ℕ → List (List ℕ) → Option Command
command_in [] word arguments = None
command_in (form ∷ rest) word arguments = if bytes_eq word form.word then form.arguments arguments else command_in rest word arguments
