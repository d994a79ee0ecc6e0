-- The text of a line of a dump: words, each with a space before it.
--     line_words l     the words
--     line_text l      the words with a space between
use Rattle.std.specs.Prelude.{ℕ, List, [], ◌∷◌, ◌++◌, Option, Some, None, codes}
use Rattle.std.specs.List.{flat_map}
use Rattle.std.specs.Fmt.{decimal}
use Rattle.cell_text.specs.Number.{hex, hex_byte}
use Rattle.cell_world.specs.declared.line.DumpLine.{DumpLine}
use Rattle.cell_world.specs.declared.line.DumpLine.TheVariants.{Space, Ns, Cell as CellLine, Place, Alias as AliasLine, Link, Provider, Content, End}
use Rattle.cell_world.specs.declared.line.Part.{Part}

abbrev pub part_word : Part → List ℕ
part_word p = decimal p.cell ++ codes "." ++ decimal p.section

abbrev pub parent_word : Option ℕ → List ℕ
parent_word None = codes "-"
parent_word (Some parent) = decimal parent

abbrev pub group_words : Option ℕ → List (List ℕ)
group_words None = codes "attached" ∷ []
group_words (Some swap) = codes "group" ∷ decimal swap ∷ []

abbrev pub line_words : DumpLine → List (List ℕ)
line_words (Space base pages) = codes "space" ∷ hex base ∷ decimal pages ∷ []
line_words (Ns number name parent) = codes "ns" ∷ decimal number ∷ name ∷ parent_word parent ∷ []
line_words (CellLine cell ns stem file group) =
    codes "cell" ∷ decimal cell ∷ decimal ns ∷ stem ∷ file ∷ group_words group
line_words (Place cell section start) = codes "place" ∷ decimal cell ∷ decimal section ∷ hex start ∷ []
line_words (AliasLine cell symbol name) = codes "alias" ∷ decimal cell ∷ decimal symbol ∷ name ∷ []
line_words (Link user entry target) = codes "link" ∷ part_word user ∷ decimal entry ∷ part_word target ∷ []
line_words (Provider ns name at offset) =
    codes "name" ∷ decimal ns ∷ name ∷ (part_word at ++ codes "+" ++ hex offset) ∷ []
line_words (Content at addr bytes) = codes "bytes" ∷ part_word at ∷ hex addr ∷ flat_map hex_byte bytes ∷ []
line_words End = codes "end" ∷ []

-- words with a space between
abbrev pub joined : List (List ℕ) → List ℕ
joined [] = []
joined (word ∷ words) = word ++ flat_map (λ w. 32 ∷ w) words

abbrev pub line_text : DumpLine → List ℕ
line_text l = joined (line_words l)
