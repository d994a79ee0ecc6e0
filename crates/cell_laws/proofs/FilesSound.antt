-- What is read from a file is an object that a cell may have.
use Rattle.std.proofs.Common.{◌≡◌, refl, subst, ℕ, ◌≤◌, List, length, map, Ok, Err}
use Rattle.std.specs.Prelude.{All, Result}
use Rattle.std.proofs.lemmas.List.Elements.{All-map, All-weaker}
use Rattle.cell_object.specs.declared.object.Object.{Object}
use Rattle.cell_object.specs.Bytes.{Broken}
use Rattle.cell_object.specs.Reads.{reads}
use Rattle.cell_object.specs.Readable.{IsReadable}
use Rattle.cell_elf.proofs.LoadableCounts.{reads_passed, what_is_read}
use Rattle.cell_elf.proofs.Soundness.{object_readable}
use Rattle.cell_got.specs.Lower.{lowered}
use Rattle.cell_got.proofs.LowerLoadable.{reading_loadable}
use Rattle.cell_world.specs.Coherent.{AreSound, IsLoadable, IsLoadableReading}
use Rattle.cell_world.specs.Gather.{Source, source_of}
use Rattle.cell_num.specs.Limits.{max_file_bytes}
use Rattle.cell_world.specs.declared.file.File.{File}

pub read_readable : (bytes : List ℕ) (object : Object) → reads bytes ≡ Ok object → IsReadable object
read_readable bytes object e = let p = reads_passed bytes object e in subst IsReadable p.1 (object_readable bytes p.0)

pub lowered_loadable : (bytes : List ℕ) (object : Object) → length bytes ≤ max_file_bytes → lowered (reads bytes) ≡ Ok object → IsLoadable object
lowered_loadable bytes object small e = reading_loadable (reads bytes) (what_is_read bytes small) object e

loadable_or_broken : (bytes : List ℕ) (r : Result Object Broken) → length bytes ≤ max_file_bytes → lowered (reads bytes) ≡ r → IsLoadableReading r
loadable_or_broken bytes (Ok object) small e = lowered_loadable bytes object small e
loadable_or_broken bytes (Err broken) small e = tt

pub files_sound : (files : List File) → All (λ f. length f.bytes ≤ max_file_bytes) files → AreSound (map source_of files)
files_sound files small =
    All-map (λ (s : Source). IsLoadableReading s.reading) source_of files
    (All-weaker (λ (f : File). length f.bytes ≤ max_file_bytes) (λ (f : File). IsLoadableReading (lowered (reads f.bytes))) (λ f k. loadable_or_broken f.bytes (lowered (reads f.bytes)) k refl) files small)
