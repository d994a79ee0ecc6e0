-- `i` loads the address of a word of `j` from a slot. Another `j` has it eight bytes further on.
use Rattle.std.specs.Prelude.{ℕ, List, [], ◌∷◌, Ok, Result, codes, pos, replicate, ◌++◌, false}
use Rattle.cell_num.specs.declared.kinds.RelKind.TheVariants.{Abs64, GotHi20, PcrelHi20, PcrelLo12I}
use Rattle.cell_object.specs.declared.object.Section.{Section}
use Rattle.cell_object.specs.declared.object.Symbol.{Symbol}
use Rattle.cell_object.specs.declared.object.Entry.{Entry}
use Rattle.cell_world.specs.declared.command.Command.{Command}
use Rattle.cell_world.specs.declared.command.Command.TheVariants.{Load, Deps, Spawn, Step}
use Rattle.cell_world.specs.declared.refusal.Refusal.{Refusal}
use Rattle.cell_world.specs.declared.reply.Reply.{Reply}
use Rattle.cell_world.specs.declared.reply.Reply.TheVariants.{Load as LoadDone, Deps as DepsDone, Spawn as SpawnDone, Step as StepDone, Swap as SwapDone}
use Rattle.cell_world.specs.declared.reply.TaskState.TheVariants.{Done}
use Rattle.cell_world.specs.World.{key_of}
use Rattle.cell_world.specs.Answer.{ids}
use Rattle.cell_world.specs.Gather.{Source}
use Rattle.cell_got.specs.Lower.{lowered}
use Rattle.cell_rows.specs.Pieces.{text, code, writable, defined, undefined, entry}
use Rattle.cell_rows.specs.Swaps.{item, swap}

-- a file, as it is placed and linked
abbrev pub source : List ℕ → List Section → List Symbol → List Entry → Source
source name sections symbols entries = record { name = name; reading = lowered (Ok (record { sections = sections; symbols = symbols; entries = entries })) }

abbrev pub files : List Source
files =
    source (codes "k#i.o") (text 1 (code (0x00000517 ∷ 0x00053503 ∷ 0x00000893 ∷ 0x00000073 ∷ [])) ∷ [])
    (defined (codes "i::go") 1 0 ∷ undefined (codes "j::x") ∷ []) (entry 1 0 GotHi20 2 (pos 0) ∷ entry 1 4 PcrelLo12I 1 (pos 0) ∷ [])
    ∷ source (codes "k#j.o") (writable 1 (3 ∷ replicate 7 0) ∷ []) (defined (codes "j::x") 1 0 ∷ []) []
    ∷ source (codes "n#j-2.o") (writable 1 (replicate 8 0 ++ 3 ∷ replicate 7 0) ∷ []) (defined (codes "j::x") 1 8 ∷ []) [] ∷ []

abbrev pub script : List Command
script = Load (codes "k") (codes "i") ∷ Deps 1 ∷ []

abbrev pub answered : List (Result Reply Refusal)
answered =
    Ok (LoadDone (ids (1 ∷ 2 ∷ [])) 3)
    ∷ Ok (DepsDone (record { 0 = 1 })
    (record { user = key_of 1 1; offset = 0; kind = PcrelHi20; target = key_of 1 2 }
    ∷ record { user = key_of 1 1; offset = 4; kind = PcrelLo12I; target = key_of 1 2 }
    ∷ record { user = key_of 1 2; offset = 0; kind = Abs64; target = key_of 2 1 } ∷ [])) ∷ []

abbrev pub swap_script : List Command
swap_script =
    Load (codes "k") (codes "i") ∷ swap (item (codes "k") (codes "j") (codes "n#j-2.o") ∷ []) false
    ∷ Spawn (codes "k") (codes "i::go") 0 ∷ Step 1 10 ∷ []

abbrev pub swap_answered : List (Result Reply Refusal)
swap_answered =
    Ok (LoadDone (ids (1 ∷ 2 ∷ [])) 3) ∷ Ok (SwapDone 1 (ids (3 ∷ [])) 1 (ids (2 ∷ [])) (ids [])) ∷ Ok (SpawnDone 1 0x10000000)
    ∷ Ok (StepDone (record { task = 1; turns = 4; state = Done 268447752; out = [] })) ∷ []

-- the dump after that
abbrev pub lines : List (List ℕ)
lines =
    codes "space 10000000 1024"
    ∷ codes "ns 0 k -"
    ∷ codes "cell 1 0 i k#i.o attached"
    ∷ codes "place 1 1 10000000"
    ∷ codes "place 1 2 10001000"
    ∷ codes "cell 3 0 j n#j-2.o attached"
    ∷ codes "place 3 1 10003000"
    ∷ codes "link 1.1 0 1.2"
    ∷ codes "link 1.1 1 1.2"
    ∷ codes "link 1.2 2 3.1"
    ∷ codes "name 0 i::go 1.1+0"
    ∷ codes "name 0 j::x 3.1+8"
    ∷ codes "bytes 1.1 10000000 17150000033505009308000073000000"
    ∷ codes "bytes 1.2 10001000 0830001000000000"
    ∷ codes "bytes 3.1 10003000 00000000000000000300000000000000"
    ∷ codes "end" ∷ []
