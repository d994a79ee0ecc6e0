-- The lines of what a section holds, 64 bytes each.
use Rattle.std.proofs.Common.{◌≡◌, sym, ◌∙◌, ap, ap₂, arith, inl, inr, ◌⊎◌, ℕ, suc, ◌+◌, ◌-◌, ◌*◌, ◌/◌, ◌^◌, ◌<◌, ◌≤◌, Bool, true, false, List, [], ◌∷◌, ◌++◌, length, take, drop, length-take, length-drop, append_assoc, append-nil}
use Rattle.std.specs.Prelude.{Option, Some, None, min, nat_le, option_and_then, unwrap_or, slice_range}
use Rattle.std.proofs.lemmas.Bool.{cases_lt}
use Rattle.std.proofs.lemmas.List.{take_min, drop_all}
use Rattle.cell_num.specs.Lists.{where_true}
use Rattle.cell_object.specs.declared.object.Section.{Section as ObjectSection}
use Rattle.cell_world.specs.declared.state.NewCell.{NewCell}
use Rattle.cell_world.specs.Running.Memory.{end_of, part_of, read_in, region_in}
use Rattle.cell_world.specs.Linked.Target.{start_of}
use Rattle.cell_world.specs.World.{Region}
use Rattle.cell_world.specs.declared.line.DumpLine.{DumpLine}
use Rattle.cell_world.specs.declared.line.DumpLine.TheVariants.{Content}
use Rattle.cell_world.specs.declared.line.Part.{Part}
use Rattle.cell_world.specs.DumpLines.{content_lines, lines_within}
use Rattle.cell_view.specs.Whole.{content_shown}

count_step : (n : ℕ) → 0 < n → (n + 63) / 64 ≡ suc ((n - 64 + 63) / 64)
count_step n h = omega arith

-- a line of the first 64, and the lines of the rest
content_step : (at : Part) (addr : ℕ) (bytes : List ℕ) → 0 < length bytes → content_lines at addr bytes ≡ Content at addr (take 64 bytes) ∷ content_lines at (addr + 64) (drop 64 bytes)
content_step at addr bytes some =
    ap (λ n. lines_within n at addr bytes) (count_step (length bytes) some)
    ∙ ap (λ n. Content at addr (take 64 bytes) ∷ lines_within ((n + 63) / 64) at (addr + 64) (drop 64 bytes)) (sym (length-drop 64 bytes))

pub content_end : (at : Part) (addr : ℕ) (bytes : List ℕ) → length bytes ≡ 0 → content_lines at addr bytes ≡ []
content_end at addr bytes e = ap (λ n. lines_within ((n + 63) / 64) at addr bytes) e

-- the lines so far and those of what is left are the whole, one line later
pub one_line : (at : Part) (addr : ℕ) (rest front later : List ℕ) (now new whole : List DumpLine) → 0 < length rest → front ≡ take 64 rest → later ≡ drop 64 rest → new ≡ now ++ Content at addr front ∷ []
    → now ++ content_lines at addr rest ≡ whole → new ++ content_lines at (addr + 64) later ≡ whole
one_line at addr rest front later now new whole some f l n far =
    ap (λ (v : List DumpLine). v ++ content_lines at (addr + 64) later) n
    ∙ (append_assoc now (Content at addr front ∷ []) (content_lines at (addr + 64) later)
    ∙ (ap (λ (v : List ℕ). now ++ (Content at addr v ∷ content_lines at (addr + 64) later)) f
    ∙ (ap (λ (v : List ℕ). now ++ (Content at addr (take 64 rest) ∷ content_lines at (addr + 64) v)) l
    ∙ (ap (λ (v : List DumpLine). now ++ v) (sym (content_step at addr rest some)) ∙ far))))

pub lines_done : (at : Part) (addr : ℕ) (rest : List ℕ) (now whole : List DumpLine) → length rest ≡ 0 → now ++ content_lines at addr rest ≡ whole → now ≡ whole
lines_done at addr rest now whole none far = sym (append-nil now) ∙ (ap (λ (v : List DumpLine). now ++ v) (sym (content_end at addr rest none)) ∙ far)

-- where the lines end stays
pub end_stays : (addr n k last : ℕ) → 0 < n → k ≡ n - 64 → addr + 64 * ((n + 63) / 64) ≡ last → addr + 64 + 64 * ((k + 63) / 64) ≡ last
end_stays addr n k last some is far = let step = count_step n some in omega (arith, step)

pub take_front : (n : ℕ) (xs : List ℕ) → take (min (length xs) n) xs ≡ take n xs
take_front n xs = let e : min (length xs) n ≡ min n (length xs) = omega arith in ap (λ k. take k xs) e ∙ take_min n xs

drop_by : (n : ℕ) (xs : List ℕ) → (n < length xs) ⊎ (length xs ≤ n) → drop (min (length xs) n) xs ≡ drop n xs
drop_by n xs (inl lt) = let e : min (length xs) n ≡ n = omega arith in ap (λ k. drop k xs) e
drop_by n xs (inr le) = drop_all (min (length xs) n) xs (omega arith) ∙ sym (drop_all n xs le)

pub drop_front : (n : ℕ) (xs : List ℕ) → drop (min (length xs) n) xs ≡ drop n xs
drop_front n xs = drop_by n xs (cases_lt n (length xs))

-- no more bytes are read than were asked for
pub read_few : (regions : List Region) (addr n : ℕ) → length (unwrap_or (read_in regions addr n) []) ≤ n
read_few regions addr n = found (region_in regions addr)
  where
    inside : (r : Region) (b : Bool) → length (unwrap_or (where_true b (slice_range r.bytes (addr - r.start) (addr - r.start + n))) []) ≤ n
    inside r true = omega (arith, length-take (addr - r.start + n - (addr - r.start)) (drop (addr - r.start) r.bytes))
    inside r false = omega arith

    found : (o : Option Region) → length (unwrap_or (option_and_then (λ r. part_of r addr n) o) []) ≤ n
    found None = omega arith
    found (Some r) = inside r (nat_le (addr + n) (end_of r))

-- the next address has 64 bits
pub room_before : (addr n start size : ℕ) → 0 < n → start < 2 ^ 63 → size < 2 ^ 32 → addr + 64 * ((n + 63) / 64) ≡ start + 64 * ((size + 63) / 64) → addr + 64 < 2 ^ 64
room_before addr n start size some low few far = omega arith

-- the lines of a section, by where it stands and what it holds
pub shown_by : (regions : List Region) (c : NewCell) (s : ObjectSection) (cell section start : ℕ) (bytes : List ℕ) (old new : List DumpLine) → cell ≡ c.id.0 → section ≡ s.number → start ≡ start_of c s.number → bytes ≡ unwrap_or (read_in regions start s.size) []
    → new ≡ old ++ content_lines (record { cell = cell; section = section }) start bytes → new ≡ old ++ content_shown regions c s
shown_by regions c s cell section start bytes old new cell_is section_is at is added =
    added
    ∙ (ap₂ (λ m n. old ++ content_lines (record { cell = m; section = n }) start bytes) cell_is section_is
    ∙ (ap (λ (b : List ℕ). old ++ content_lines (record { cell = c.id.0; section = s.number }) start b) is
    ∙ ap (λ a. old ++ content_lines (record { cell = c.id.0; section = s.number }) a (unwrap_or (read_in regions a s.size) [])) at))
