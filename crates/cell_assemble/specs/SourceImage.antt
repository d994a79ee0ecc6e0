-- The image of the object of a source.
--     image_of_source text       the image, or the number of the first line with a fault and what is wrong with it
--     GivesImage result said     how an answer stands to that
use Rattle.std.specs.Prelude.{◌≡◌, ℕ, List, Result, Ok, Err}
use Rattle.cell_object.specs.declared.object.Object.{Object}
use Rattle.cell_object.specs.Image.{image}
use Rattle.cell_asm.specs.declared.kind.AsmKind.{AsmKind}
use Rattle.cell_asm.specs.declared.kind.AsmFail.{AsmFail}
use Rattle.cell_asm.specs.declared.kind.AsmFail.TheVariants.{Fault, OutOfMemory}
use Rattle.cell_asm.specs.Assembled.{assembled}

abbrev pub image_or_fault : Result Object (ℕ × AsmKind) → Result (List ℕ) (ℕ × AsmKind)
image_or_fault (Ok object) = Ok (image object)
image_or_fault (Err fault) = Err fault

abbrev pub image_of_source : List ℕ → Result (List ℕ) (ℕ × AsmKind)
image_of_source text = image_or_fault (assembled text)

-- the answer is what is said, or want of memory
abbrev pub GivesImage : Result (List ℕ) AsmFail → Result (List ℕ) (ℕ × AsmKind) → Type 0
GivesImage (Ok bytes) said = said ≡ Ok bytes
GivesImage (Err (Fault line kind)) said = said ≡ Err (line, kind)
GivesImage (Err OutOfMemory) said = Unit {0}
