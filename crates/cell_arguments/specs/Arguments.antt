-- What the words of a command line say.
--     command                the command that `clap` reads, by its own definition of simple commands
--     arguments_of words     what is to be run, and the memory; none where the words are refused
use Rattle.std.specs.Prelude.{◌≡◌, ℕ, ◌%◌, ◌≤◌, nat_le, Bool, true, ◌&&◌, ◌==◌, List, [], ◌∷◌, take, drop, Option, Some, None, option_and_then, option_map, if◌then◌else◌, bytes_eq, codes, Result, Ok, Err}
use Rattle.cell_num.specs.Limits.{max_base, max_pages, min_base, min_pages, page_size}
use Rattle.clap.specs.Words.{App, Kinds, Row, Rule, fault_of, first_of, matches_of, new_app, new_rule, with_rule}
use Rattle.clap.specs.Simple.{new_shape}
use Rattle.cell_num.specs.Lists.{where_true}
use Rattle.cell_text.specs.Number.{number_in, hex_number_in}
use Rattle.cell_arguments.specs.declared.arguments.Arguments.{Arguments}
use Rattle.cell_arguments.specs.declared.arguments.Task.{Task as TaskRead}
use Rattle.cell_arguments.specs.declared.arguments.Task.TheVariants.{Script as ScriptRead, Generated as GeneratedRead}
use Rattle.cell_arguments.specs.declared.arguments.ArgumentsFault.{ArgumentsFault}
use Rattle.cell_arguments.specs.declared.arguments.ArgumentsFault.TheVariants.{Usage, OutOfMemory}

-- an option with a name of its own, which takes one value, once
abbrev pub option : List ℕ → Rule
option name = record (new_rule name) { long = Some name }

-- neither help nor version, and no word for the program's name
abbrev pub plain : App
plain = record (new_app (codes "cells")) { top = record (new_shape (codes "cells")) { no_binary_name = true; disable_help_flag = true; disable_version_flag = true } }

-- two positionals
abbrev pub with_positionals : App
with_positionals = with_rule (with_rule plain (new_rule (codes "dir"))) (new_rule (codes "script"))

-- two positionals and four options
unfoldable pub command : App
command =
    with_rule (with_rule (with_rule (with_rule with_positionals (option (codes "base"))) (option (codes "pages"))) (option (codes "generate"))) (option (codes "seed"))

-- what is to be run: a script of a folder, or what the generator makes of so many crates and a seed
pub data Task : Type 0 where
  Script : (dir : List ℕ) → (script : List ℕ) → Task
  Generated : (crates : ℕ) → (seed : ℕ) → Task

-- what the words say
pub record Said : Type 0 where
  pub task : Task
  pub base : ℕ
  pub pages : ℕ

-- the memory where the options aren't given
abbrev pub default_base : ℕ
default_base = 0x1000_0000

abbrev pub default_pages : ℕ
default_pages = 1024

-- a multiple of a page's size in range
abbrev pub is_base : ℕ → Bool
is_base n = n % page_size == 0 && nat_le min_base n && nat_le n max_base

-- the base that the text spells: 0x, and the number in lower-case hex
abbrev pub base_in : List ℕ → Option ℕ
base_in text = if bytes_eq (take 2 text) (codes "0x") then option_and_then (λ n. where_true (is_base n) n) (hex_number_in (drop 2 text)) else None

-- the number of pages that the text spells in decimal
abbrev pub pages_in : List ℕ → Option ℕ
pages_in text = option_and_then (λ n. where_true (nat_le min_pages n) n) (number_in max_pages text)

-- how many crates the text spells: 1 to 400
abbrev pub crates_in : List ℕ → Option ℕ
crates_in text = option_and_then (λ n. where_true (nat_le 1 n) n) (number_in 400 text)

-- the seed that the text spells, below 2^64
abbrev pub seed_in : List ℕ → Option ℕ
seed_in text = number_in 18446744073709551615 text

-- what an option's text spells, or what stands for an option that isn't given
abbrev pub value_or : ℕ → (List ℕ → Option ℕ) → Option (List ℕ) → Option ℕ
value_or default spelled None = Some default
value_or default spelled (Some text) = spelled text

-- what the generator is to make
abbrev pub generated : List ℕ → List ℕ → Option Task
generated crates seed = option_and_then (λ n. option_map (Generated n) (seed_in seed)) (crates_in crates)

-- a folder and a script alone, or a number of crates and a seed alone
abbrev pub task_of : Option (List ℕ) → Option (List ℕ) → Option (List ℕ) → Option (List ℕ) → Option Task
task_of (Some dir) (Some script) None None = Some (Script dir script)
task_of None None (Some crates) (Some seed) = generated crates seed
task_of _ _ _ _ = None

abbrev pub task_in : List Row → Option Task
task_in rows = task_of (first_of (codes "dir") rows) (first_of (codes "script") rows) (first_of (codes "generate") rows) (first_of (codes "seed") rows)

abbrev pub run_on : Task → ℕ → ℕ → Said
run_on task base pages = record { task = task; base = base; pages = pages }

-- what matched words say
abbrev pub arguments_in : List Row → Option Said
arguments_in rows =
    option_and_then (λ task.
    option_and_then (λ base.
    option_map (run_on task base) (value_or default_pages pages_in (first_of (codes "pages") rows)))
    (value_or default_base base_in (first_of (codes "base") rows)))
    (task_in rows)

-- nothing where there is a fault
abbrev pub unless_fault : Kinds → Option Said → Option Said
unless_fault [] said = said
unless_fault (kind ∷ kinds) said = None

-- what the words say, where the command takes them
unfoldable pub arguments_of : List (List ℕ) → Option Said
arguments_of words = unless_fault (fault_of command words) (arguments_in (matches_of command words))

abbrev pub task_said : TaskRead → Task
task_said (ScriptRead dir script) = Script dir.now script.now
task_said (GeneratedRead crates seed) = Generated crates seed

abbrev pub said : Arguments → Said
said a = record { task = task_said a.task; base = a.base; pages = a.pages }

-- what the generator is asked for is in its range
abbrev pub IsTask : Task → Type 0
IsTask (Script dir script) = Unit {0}
IsTask (Generated crates seed) = (1 ≤ crates) × (crates ≤ 400)

-- the answer is what the words say, or memory ran out
abbrev pub ReadsArguments : Result Arguments ArgumentsFault → Option Said → Type 0
ReadsArguments (Ok arguments) words = words ≡ Some (said arguments)
ReadsArguments (Err Usage) words = words ≡ None
ReadsArguments (Err OutOfMemory) words = Unit {0}

-- a memory that a machine may have
pub record IsInRange (base pages : ℕ) : Type 0 where
  pub aligned : base % page_size ≡ 0
  pub low : 0x1000 ≤ base
  pub high : base ≤ 0x7ff_ffff_f000
  pub least : 16 ≤ pages
  pub most : pages ≤ max_pages
