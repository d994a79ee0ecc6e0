-- The files that a machine reads have objects that it may hold.
use Rattle.std.proofs.Common.{◌≡◌, ℕ, ◌≤◌, refl, List, length, map, Ok, Err}
use Rattle.std.specs.Prelude.{All, Result}
use Rattle.std.proofs.lemmas.List.Elements.{All-map, All-weaker}
use Rattle.cell_num.specs.Limits.{max_file_bytes}
use Rattle.cell_object.specs.declared.object.Object.{Object}
use Rattle.cell_object.specs.Bytes.{Broken}
use Rattle.cell_object.specs.Reads.{reads}
use Rattle.cell_elf.proofs.LoadableCounts.{what_is_read}
use Rattle.cell_got.specs.Lower.{lowered}
use Rattle.cell_got.proofs.LowerLoadable.{reading_loadable}
use Rattle.cell_world.specs.declared.file.File.{File}
use Rattle.cell_world.specs.Gather.{Source, source_of}
use Rattle.cell_world.specs.Coherent.{IsLoadableReading, AreSound}

-- what is read from a file of at most a mebibyte is lowered to an object that a cell may have
source_loadable : (bytes : List ℕ) (r : Result Object Broken) → length bytes ≤ max_file_bytes → lowered (reads bytes) ≡ r → IsLoadableReading r
source_loadable bytes (Ok o) small e = reading_loadable (reads bytes) (what_is_read bytes small) o e
source_loadable bytes (Err b) small e = tt

-- the objects of files of at most a mebibyte
pub sources_sound : (files : List File) → All (λ f. length f.bytes ≤ max_file_bytes) files → AreSound (map source_of files)
sources_sound files small =
    All-map (λ (s : Source). IsLoadableReading s.reading) source_of files
    (All-weaker (λ (f : File). length f.bytes ≤ max_file_bytes) (λ (f : File). IsLoadableReading (lowered (reads f.bytes))) (λ f k. source_loadable f.bytes (lowered (reads f.bytes)) k refl) files small)
