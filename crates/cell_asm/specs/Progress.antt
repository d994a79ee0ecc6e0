-- What is kept while lines are put in their places.
--     known names q              what is kept for the name
--     Follows progress lines     what is kept is what the lines so far come to
use Rattle.std.specs.Prelude.{◌≡◌, ◌+◌, ◌<◌, ◌≤◌, ◌^◌, ◌==◌, ◌&&◌, ◌||◌, ◌++◌, ◌∷◌, if◌then◌else◌}
use Rattle.cell_asm.specs.Types.{ℕ, max, Bool, false, not, List, [], map, All, Option, Some, None, option_map, is_some, find, flat_map, Result, Ok, Err, get_by, list_any, option_map_or, nat_cmp, is_pcrel_lo12, equals, where_true, last, or_else, Part, Text, Rodata, Data, Bss, Statement}
use Rattle.cell_asm.specs.Types.{StatementBind as Bind, Line, Laid, Label, Key, KeyNamed as Named, KeyMade as Made, Mark, Spot, Known, Body, Bodies, Reference, AsmKind, Progress, AsmFail, AsmFailFault as Fault, AsmFailOutOfMemory as OutOfMemory, Stop, StopFault as Stopped, StopOutOfMemory as NoMemory}
use Rattle.std.specs.BTreeSet.{contains}
use Rattle.std.specs.Cmp.Lexicographic.{slice_cmp}
use Rattle.cell_asm.specs.Places.{marks_in, is_key, keys_of, labels_at, labels, choices, choice, size_in, made_in, is_in, taken, makes_label, fault_by, is_same_part, given, binding_in, is_other}
use Rattle.cell_asm.specs.Objects.{adds_choice, parts_of, alignment_asked, alignment, bytes_at, contents, target_key, label_names, statement_names, mentions}
use Rattle.cell_asm.specs.Assembled.{has_upper}

-- NAMES

abbrev pub known : {V : Type 0} → Known V → List ℕ → Option V
known names q = get_by (λ k. slice_cmp nat_cmp q k.now) names.names

-- where the label of a line is, if it is that name
abbrev pub spot_here : Option Part → ℕ → Option (List ℕ) → List ℕ → Option Spot
spot_here None offset own q = None
spot_here (Some part) offset None q = None
spot_here (Some part) offset (Some name) q = where_true (equals name q) (record { part = part; offset = offset })

abbrev pub spot_at : Label → Spot
spot_at l = record { part = l.part; offset = l.offset }

-- the first label of a name
abbrev pub spot_among : List Label → List ℕ → Option Spot
spot_among labels q = option_map spot_at (find (λ l. is_key l.key (Named q)) labels)

abbrev pub names_in : Line → List (List ℕ)
names_in line = label_names line.label ++ statement_names line.statement

-- SECTIONS

abbrev pub body_of : Bodies → Part → Body
body_of bodies Text = bodies.text
body_of bodies Rodata = bodies.rodata
body_of bodies Data = bodies.data
body_of bodies Bss = bodies.bss

-- alignment, size and bytes: those that are kept, those of the lines, and those behind one more line
abbrev pub grown : Body → ℕ × ℕ × List ℕ
grown b = (b.align, b.size, b.bytes.items)

abbrev pub grown_in : Part → List Laid → ℕ × ℕ × List ℕ
grown_in part lines = (alignment part lines, size_in part lines, contents part lines)

abbrev pub bytes_laid : Part → ℕ → Statement → List ℕ
bytes_laid Bss offset statement = []
bytes_laid part offset statement = bytes_at part offset statement

abbrev pub grown_with : Part → Laid → ℕ × ℕ × List ℕ → ℕ × ℕ × List ℕ
grown_with part l g =
    (max g.0 (alignment_asked l.line.statement), l.offset + taken l.line.statement l.offset, g.2 ++ bytes_laid part l.offset l.line.statement)

-- REFERENCES

-- each entry is for bytes of the statement
abbrev pub AreInside : Statement → Type 0
AreInside s = (offset : ℕ) → All (λ m. m.at ≤ taken s offset) (marks_in s)

-- the offsets of the entries are numbers of 32 bits
abbrev pub HasRoom : Laid → Type 0
HasRoom l = All (λ m. l.offset + m.at < 2 ^ 32) (marks_in l.line.statement)

abbrev pub reference_at : Laid → Mark → Reference
reference_at l m =
    record { line = l.number; part = l.part; offset = l.offset + m.at; kind = m.fix.kind; key = target_key l m.fix.target; addend = m.fix.addend }

abbrev pub references_of : Laid → List Reference
references_of l = map (reference_at l) (marks_in l.line.statement)

-- an instruction with %pcrel_hi or %got_pcrel_hi stands in .text at that offset
abbrev pub is_upper_at : ℕ → Laid → Bool
is_upper_at q l = is_in Text l && l.offset == q && has_upper l

-- WHAT IS KEPT

-- behind one more line
pub record Adds (old new : Progress) (l : Laid) : Type 0 where
  pub chosen : new.chosen ≡ or_else (choice l.line.statement) old.chosen
  pub parts : new.parts.items ≡ adds_choice old.parts.items l.line.statement
  pub bodies : (part : Part) → grown (body_of new.bodies part) ≡ (if is_in part l then grown_with part l (grown (body_of old.bodies part)) else grown (body_of old.bodies part))
  pub made : new.made ≡ old.made + (if makes_label l.line.statement then 1 else 0)
  pub spots : (q : List ℕ) → known new.spots q ≡ or_else (known old.spots q) (spot_here l.part l.offset l.line.label q)
  pub bindings : (q : List ℕ) → known new.bindings q ≡ or_else (known old.bindings q) (given q l.line.statement)
  pub labels : new.labels.items ≡ old.labels.items ++ labels_at l.part l.offset (keys_of l)
  pub mentions : new.mentions.items ≡ old.mentions.items ++ names_in l.line
  pub uppers : (q : ℕ) → contains nat_cmp new.uppers q ≡ (contains nat_cmp old.uppers q || is_upper_at q l)
  pub references : new.references.items ≡ old.references.items ++ references_of l

pub record Follows (progress : Progress) (lines : List Laid) : Type 0 where
  pub chosen : progress.chosen ≡ last (choices lines)
  pub parts : progress.parts.items ≡ parts_of lines
  pub bodies : (part : Part) → grown (body_of progress.bodies part) ≡ grown_in part lines
  pub made : progress.made ≡ made_in lines
  pub spots : (q : List ℕ) → known progress.spots q ≡ spot_among (labels lines) q
  pub bindings : (q : List ℕ) → known progress.bindings q ≡ binding_in lines q
  pub labels : progress.labels.items ≡ labels lines
  pub mentions : progress.mentions.items ≡ mentions lines
  pub uppers : (q : ℕ) → contains nat_cmp progress.uppers q ≡ list_any (is_upper_at q) lines
  pub references : progress.references.items ≡ flat_map references_of lines

-- how many bytes the section has that is chosen
abbrev pub offset_of : Progress → ℕ
offset_of progress = option_map_or (λ part. (body_of progress.bodies part).size) progress.chosen 0

abbrev pub twice_of : Progress → Option (List ℕ) → Bool
twice_of progress label = option_map_or (λ name. is_some (known progress.spots name)) label false

abbrev pub rebound_of : Progress → Statement → Bool
rebound_of progress (Bind binding name) = is_other binding (known progress.bindings name)
rebound_of progress _ = false

-- what is wrong with a line, by what is kept
abbrev pub fault_after : Progress → Line → Option AsmKind
fault_after progress line = fault_by progress.chosen (offset_of progress) (twice_of progress line.label || rebound_of progress line.statement) line

-- the line, by what is kept
abbrev pub laid_after : Progress → ℕ → Line → Laid
laid_after progress n line =
    record { number = n; part = progress.chosen; offset = offset_of progress; made = progress.made + 1; line = line }

-- the line goes behind those before it; or it has a fault; or memory was wanting
abbrev pub Goes : Progress → List Laid → Result (Unit {0}) Stop → Result Laid AsmKind → Type 0
Goes progress before (Ok u) said = (l : Laid) × (said ≡ Ok l) × Follows progress (before ++ l ∷ [])
Goes progress before (Err (Stopped kind)) said = said ≡ Err kind
Goes progress before (Err NoMemory) said = Unit {0}

-- what the lines come to; or the first line with a fault; or memory was wanting
abbrev pub Places : Result Progress AsmFail → Result (List Laid) (ℕ × AsmKind) → Type 0
Places (Ok progress) said = (lines : List Laid) × (said ≡ Ok lines) × Follows progress lines
Places (Err (Fault line kind)) said = said ≡ Err (line, kind)
Places (Err OutOfMemory) said = Unit {0}

-- what stops the reading of a line, with the line's number
abbrev pub failure : Stop → ℕ → AsmFail
failure (Stopped kind) line = Fault line kind
failure NoMemory line = OutOfMemory

-- %pcrel_lo of a name that has no label at such an instruction, by what is kept

abbrev pub is_upper_spot : Progress → Option Spot → Bool
is_upper_spot kept None = false
is_upper_spot kept (Some s) = is_same_part Text s.part && contains nat_cmp kept.uppers s.offset

abbrev pub key_lost_by : Progress → Key → Bool
key_lost_by kept (Made n) = false
key_lost_by kept (Named name) = not (is_upper_spot kept (known kept.spots name))

abbrev pub lost_by : Progress → Reference → Bool
lost_by kept r = is_pcrel_lo12 r.kind && key_lost_by kept r.key
