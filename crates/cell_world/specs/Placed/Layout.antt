-- How the sections of a cell are laid out: three classes with pages of their own, and in each the sections one after another.
--     is_in_class class s            the section is one of text, of read-only or of writable ones
--     sections_in class object       the sections of the class, in the order of their numbers
--     gap n align                    how many bytes are missing from n to the next multiple of the alignment
--     offset_in sections number      where the section stands in its class's run
--     laid_end sections              how many bytes the sections of a class have, one after another
--     image_of sections              the sections' own bytes, each at the next multiple of its alignment, up to whole pages
--     run_size sections              how many bytes the run of a class has
--     places_in starts object        where each section stands, by where the runs of the three classes start
use Rattle.std.specs.Prelude.{ℕ, ◌+◌, ◌-◌, ◌%◌, ◌==◌, Bool, true, false, not, ◌&&◌, List, [], ◌∷◌, ◌++◌, length, replicate, map, filter, max, if◌then◌else◌}
use Rattle.cell_num.specs.Limits.{page_size}
use Rattle.cell_object.specs.declared.object.Object.{Object}
use Rattle.cell_object.specs.declared.object.Section.{Section as ObjectSection}
use Rattle.cell_object.specs.declared.object.Fill.{Fill}
use Rattle.cell_object.specs.declared.object.Fill.TheVariants.{Prog, Note, Zero}
use Rattle.cell_world.specs.declared.layout.Class.{Class}
use Rattle.cell_world.specs.declared.layout.Class.TheVariants.{Text, ReadOnly, Writable}
use Rattle.cell_world.specs.declared.layout.Starts.{Starts}
use Rattle.cell_world.specs.declared.state.SecPlace.{SecPlace}
use Rattle.cell_world.specs.World.{Permission}

abbrev pub is_in_class : Class → ObjectSection → Bool
is_in_class Text s = s.exec
is_in_class ReadOnly s = not s.exec && not s.write
is_in_class Writable s = s.write && not s.exec

abbrev pub class_of : ObjectSection → Class
class_of s = if s.exec then Text else if s.write then Writable else ReadOnly

-- the sections of the class, in the order of their numbers
abbrev pub sections_in : Class → Object → List ObjectSection
sections_in class object = filter (is_in_class class) object.sections

abbrev pub permission_of : Class → Permission
permission_of Text = record { read = true; write = false; exec = true }
permission_of ReadOnly = record { read = true; write = false; exec = false }
permission_of Writable = record { read = true; write = true; exec = false }

-- how many bytes are missing from n to the next multiple of the alignment
abbrev pub gap : ℕ → ℕ → ℕ
gap n align = (align - n % max 1 align) % max 1 align

-- n bytes stand before the sections
abbrev pub offset_from : ℕ → List ObjectSection → ℕ → ℕ
offset_from n [] number = 0
offset_from n (s ∷ sections) number =
    let at = n + gap n s.align in if s.number == number then at else offset_from (at + s.size) sections number

abbrev pub offset_in : List ObjectSection → ℕ → ℕ
offset_in sections number = offset_from 0 sections number

-- n bytes stand before the sections
abbrev pub laid_end_from : ℕ → List ObjectSection → ℕ
laid_end_from n [] = n
laid_end_from n (s ∷ sections) = laid_end_from (n + gap n s.align + s.size) sections

abbrev pub laid_end : List ObjectSection → ℕ
laid_end sections = laid_end_from 0 sections

-- the section's bytes in the object; a Zero section has zeros
abbrev pub own_bytes : ObjectSection → Fill → List ℕ
own_bytes s Prog = s.bytes
own_bytes s Note = s.bytes
own_bytes s Zero = replicate s.size 0

-- the bytes so far and then each section at the next multiple of its alignment
abbrev pub laid_out : List ℕ → List ObjectSection → List ℕ
laid_out bytes [] = bytes
laid_out bytes (s ∷ sections) =
    laid_out (bytes ++ replicate (gap (length bytes) s.align) 0 ++ own_bytes s s.fill) sections

-- up to whole pages, at least one
abbrev pub to_pages : List ℕ → List ℕ
to_pages [] = replicate page_size 0
to_pages bytes = bytes ++ replicate (gap (length bytes) page_size) 0

abbrev pub image_of : List ObjectSection → List ℕ
image_of sections = to_pages (laid_out [] sections)

-- a class without a section takes no run
abbrev pub run_size : List ObjectSection → ℕ
run_size [] = 0
run_size (s ∷ rest) = length (image_of (s ∷ rest))

abbrev pub start_in : Starts → Class → ℕ
start_in starts Text = starts.text
start_in starts ReadOnly = starts.read_only
start_in starts Writable = starts.writable

abbrev pub place_in : Starts → Object → ObjectSection → SecPlace
place_in starts object s =
    record { section = s.number; start = start_in starts (class_of s) + offset_in (sections_in (class_of s) object) s.number }

-- in the order of the object's sections
abbrev pub places_in : Starts → Object → List SecPlace
places_in starts object = map (place_in starts object) object.sections
