-- A dump of two cells, and the file with it.
use Rattle.std.specs.Prelude.{ℕ, List, [], ◌∷◌, ◌++◌, codes}
use Rattle.std.specs.List.{flat_map}
use Rattle.cell_world.specs.Gather.{Source}
use Rattle.cell_world.specs.Next.{next}
use Rattle.cell_world.specs.World.{World, empty_world}
use Rattle.cell_world.specs.declared.command.Command.{Command}
use Rattle.cell_world.specs.declared.command.Command.TheVariants.{Load}
use Rattle.cell_rows.specs.Loads as loads

abbrev pub world_after : List Source → World → List Command → World
world_after sources w [] = w
world_after sources w (command ∷ rest) = world_after sources (next sources w command).world rest

abbrev pub world : World
world = world_after loads.files (empty_world 0x1000_0000 1024) (Load (codes "k") (codes "a") ∷ Load (codes "k") (codes "b") ∷ [])

abbrev pub lines : List (List ℕ)
lines =
    codes "space 10000000 1024"
    ∷ codes "ns 0 k -"
    ∷ codes "cell 1 0 a k#a.o attached"
    ∷ codes "place 1 1 10000000"
    ∷ codes "cell 2 0 b k#b.o attached"
    ∷ codes "place 2 1 10001000"
    ∷ codes "link 2.1 0 1.1"
    ∷ codes "name 0 a::n 1.1+0"
    ∷ codes "name 0 b::p 2.1+0"
    ∷ codes "bytes 1.1 10000000 0700000000000000"
    ∷ codes "bytes 2.1 10001000 04000010000000000100000000000000"
    ∷ codes "end" ∷ []

-- a transcript with the dump
abbrev pub file : List (List ℕ) → List ℕ
file dump =
    codes "1 ok load #1 patched 0" ++ 10 ∷ codes "2 ok load #2 patched 1" ++ 10 ∷ codes "3 ok dumpall" ++ 10 ∷ flat_map (λ line. codes "  " ++ line ++ 10 ∷ []) dump
