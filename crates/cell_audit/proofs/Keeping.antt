-- What is kept of lines, and of one more.
use Rattle.std.proofs.Common.{◌≡◌, refl, sym, ◌∙◌, ap, subst, arith, ℕ, ◌+◌, ◌-◌, ◌*◌, ◌<◌, ◌≤◌, ◌^◌, Bool, true, false, cond, ◌&&◌, List, [], ◌∷◌, ◌++◌, length, take, drop, filter_map, Option, Some, None, unwrap_or, slice_range, IfSome, append_assoc}
use Rattle.std.specs.Prelude.{bytes_eq, codes, nat_le, nat_lt, ◌==◌}
use Rattle.std.specs.Fmt.{decimal}
use Rattle.std.proofs.lemmas.Bool.{and_parts, false≢true, leb-true, ltb-true}
use Rattle.std.proofs.lemmas.List.{append-nil, drop-drop, drop-take, drop_at, length-append, length-drop, length-replicate, length-take}
use Rattle.std.proofs.lemmas.List.Elements.{All-nil}
use Rattle.cell_num.proofs.Elements.{pairs-map}
use Rattle.cell_num.specs.Limits.{max_cell_number, max_cells, max_namespaces}
use Rattle.cell_world.specs.declared.line.DumpLine.{DumpLine}
use Rattle.cell_world.specs.declared.line.DumpLine.TheVariants.{Space, Ns, Cell as CellLine, Place, Alias as AliasLine, Link, Provider, Content, End}
use Rattle.cell_dumped.specs.Readings.{line_said}
use Rattle.cell_dumped.specs.Texts.{line_text}
use Rattle.cell_dumped.proofs.Written.{said_written}
use Rattle.cell_audit.specs.declared.dump.Line.{Line}
use Rattle.cell_audit.specs.declared.dump.Lines.{Lines}
use Rattle.cell_audit.specs.declared.kept.WrittenDump.{WrittenDump}
use Rattle.cell_audit.specs.declared.order.Known.{Known}
use Rattle.cell_audit.specs.declared.written.WrittenCell.{WrittenCell}
use Rattle.cell_audit.specs.Described.{namespace_of, space_of}
use Rattle.cell_audit.specs.Dumps.{Row, lines_of, said_at}
use Rattle.cell_audit.specs.Following.{is_below, is_root}
use Rattle.cell_audit.specs.Kept.{AreNamesWithin, Fits, HasRoom, IsNothing, Keeps, Tells}
use Rattle.cell_audit.specs.Known.{after_line, follows, known_of, nothing, said_behind, stands}
use Rattle.cell_audit.specs.Reader.{HasCells, HasMemory, IsKept, IsReady}
use Rattle.cell_audit.specs.Told.{Covers}
use Rattle.cell_audit.specs.Within.{IsWithin}
use Rattle.cell_audit.proofs.Cells.{IsNamed, alias_room, cells_more, place_room}
use Rattle.cell_audit.proofs.Knowing.{known_more}
use Rattle.cell_audit.proofs.Memory.{lines_more, memory_more, space_fits, spaces_more}
use Rattle.cell_audit.proofs.Rows.{behind_said}
use Rattle.cell_audit.proofs.Telling.{told_nothing}

-- ---- where an alias's name stands
record IsSaid (text : List ℕ) (l : DumpLine) : Type 0 where
  first : ℕ
  second : ℕ
  said : List ℕ
  text_is : text ≡ first ∷ second ∷ said
  line_is : line_text l ≡ said

said_parts : (text : List ℕ) (l : DumpLine) → said_at text ≡ Some l → IsSaid text l
said_parts [] l e = absurd cc
said_parts (a ∷ []) l e = absurd cc
said_parts (a ∷ b ∷ said) l e = record { first = a; second = b; said = said; text_is = refl; line_is = said_written said l (go (a == 32 && b == 32) e) }
  where
    go : (t : Bool) → cond t (line_said said) None ≡ Some l → line_said said ≡ Some l
    go true f = f
    go false f = absurd cc

regroup : (a b c n : List ℕ) → a ++ (b ++ (c ++ (32 ∷ (n ++ [])))) ≡ (a ++ (b ++ (c ++ 32 ∷ []))) ++ n
regroup a b c n =
    ap (λ (m : List ℕ). a ++ (b ++ (c ++ (32 ∷ m)))) (append-nil n)
    ∙ sym (append_assoc a (b ++ (c ++ 32 ∷ [])) n
    ∙ ap (λ (m : List ℕ). a ++ m) (append_assoc b (c ++ 32 ∷ []) n ∙ ap (λ (m : List ℕ). b ++ m) (append_assoc c (32 ∷ []) n)))

abbrev alias_front : ℕ → ℕ → List ℕ
alias_front cell symbol = codes "alias" ++ ((32 ∷ decimal cell) ++ ((32 ∷ decimal symbol) ++ 32 ∷ []))

alias_text : (cell symbol : ℕ) (name : List ℕ) → line_text (AliasLine cell symbol name) ≡ alias_front cell symbol ++ name
alias_text cell symbol name = regroup (codes "alias") (32 ∷ decimal cell) (32 ∷ decimal symbol) name

record IsEnding (file : List ℕ) (end : ℕ) (name : List ℕ) : Type 0 where
  forward : length name ≤ end
  is : slice_range file (end - length name) end ≡ name

-- what a line ends with stands before its end
name_there : (file : List ℕ) (start end : ℕ) (front name : List ℕ) → start ≤ end → end ≤ length file → slice_range file start end ≡ front ++ name → IsEnding file end name
name_there file start end front name forward within e =
    let taken = length-take (end - start) (drop start file) in
    let left = length-drop start file in
    let both = length-append front name in
    let size : end - start ≡ length front + length name = let k = ap length e in omega (arith, taken, left, both, k, forward, within) in
    let count : end - (end - length name) ≡ length name = omega (arith, size, forward) in
    let place : end - length name ≡ start + length front = omega (arith, size, forward) in
    record {
      forward = omega (arith, size, forward);
      is =
          ap (λ (n : ℕ). take n (drop (end - length name) file)) count
          ∙ (ap (λ (n : ℕ). take (length name) (drop n file)) place
          ∙ (ap (take (length name)) (sym (drop-drop (length front) start file))
          ∙ (sym (drop-take (length front) (length name) (drop start file))
          ∙ (ap (λ (n : ℕ). drop (length front) (take n (drop start file))) (sym size)
          ∙ (ap (drop (length front)) e ∙ drop_at front name (length front) refl)))));
    }

named : (file : List ℕ) (line : Line) (l : DumpLine) → IsWithin file line → said_at (slice_range file line.start line.end) ≡ Some l → (cell symbol : ℕ) (name : List ℕ) → l ≡ AliasLine cell symbol name → IsNamed file line name
named file line l w e cell symbol name same =
    let s = said_parts (slice_range file line.start line.end) l e in
    let text : slice_range file line.start line.end ≡ (s.first ∷ s.second ∷ alias_front cell symbol) ++ name =
    s.text_is ∙ ap (λ (t : List ℕ). s.first ∷ s.second ∷ t) (sym s.line_is ∙ (ap line_text same ∙ alias_text cell symbol name)) in
    let k = name_there file line.start line.end (s.first ∷ s.second ∷ alias_front cell symbol) name w.forward w.within text in
    record { within = w.within; forward = k.forward; is = k.is }

-- ---- what a line needs
parent_small : (number : ℕ) (name : List ℕ) (parent : Option ℕ) → number < 256 → cond (number == 0) (is_root name parent) (is_below number parent) ≡ true → IfSome parent (λ p. p < 2 ^ 16)
parent_small number name None few h = tt
parent_small number name (Some p) few h = go (number == 0) h
  where
    go : (b : Bool) → cond b (is_root name (Some p)) (is_below number (Some p)) ≡ true → p < 2 ^ 16
    go true k = let r = and_parts (bytes_eq name (codes "k")) false k in absurd (false≢true r.1)
    go false k = let l = ltb-true p number k in omega (arith, l, few)

cell_small : (known : Known) (cell ns : ℕ) (stem file : List ℕ) (group : Option ℕ) → known.spaces ≤ 256 → follows known (CellLine cell ns stem file group) ≡ true → (cell < 2 ^ 32) × (ns < 2 ^ 16)
cell_small known cell ns stem file group few f =
    let a = and_parts (stands known 2 && nat_lt ns known.spaces && nat_le 1 cell && nat_le cell max_cell_number && nat_lt known.highest cell) (nat_lt known.cells max_cells) f in
    let b = and_parts (stands known 2 && nat_lt ns known.spaces && nat_le 1 cell && nat_le cell max_cell_number) (nat_lt known.highest cell) a.0 in
    let c = and_parts (stands known 2 && nat_lt ns known.spaces && nat_le 1 cell) (nat_le cell max_cell_number) b.0 in
    let d = and_parts (stands known 2 && nat_lt ns known.spaces) (nat_le 1 cell) c.0 in
    let e = and_parts (stands known 2) (nat_lt ns known.spaces) d.0 in
    let small = leb-true cell max_cell_number c.1 in
    let there = ltb-true ns known.spaces e.1 in
    (omega (arith, small), omega (arith, there, few))

space_number : (known : Known) (number : ℕ) (name : List ℕ) (parent : Option ℕ) → follows known (Ns number name parent) ≡ true → (number < 256) × (cond (number == 0) (is_root name parent) (is_below number parent) ≡ true)
space_number known number name parent f =
    let p = and_parts (stands known 1 && (number == known.spaces) && nat_lt number max_namespaces) (cond (number == 0) (is_root name parent) (is_below number parent)) f in
    let q = and_parts (stands known 1 && (number == known.spaces)) (nat_lt number max_namespaces) p.0 in
    (ltb-true number max_namespaces q.1, p.1)

line_fits : (file : List ℕ) (known : Known) (line : Line) (l : DumpLine) → ((cell symbol : ℕ) (name : List ℕ) → l ≡ AliasLine cell symbol name → IsNamed file line name) → known.spaces ≤ 256 → follows known l ≡ true → Fits line l
line_fits file known line (Space base pages) n few f = space_fits known base pages f
line_fits file known line (Ns number name parent) n few f = let s = space_number known number name parent f in parent_small number name parent s.0 s.1
line_fits file known line (CellLine cell ns stem called group) n few f = cell_small known cell ns stem called group few f
line_fits file known line (Place cell section start) n few f = tt
line_fits file known line (AliasLine cell symbol name) n few f = (n cell symbol name refl).forward
line_fits file known line (Link user entry target) n few f = tt
line_fits file known line (Provider ns name at offset) n few f = tt
line_fits file known line (Content at start bytes) n few f = tt
line_fits file known line End n few f = tt

pub said_fits : (file : List ℕ) (known : Known) (cells : List WrittenCell) (line : Line) (l : DumpLine) → IsWithin file line → IsReady known cells → said_behind known (slice_range file line.start line.end) ≡ Some l → Fits line l
said_fits file known cells line l w r e =
    let b = behind_said known (slice_range file line.start line.end) l e in
    line_fits file known line l (named file line l w b.0) r.few b.1

pub said_room : (known : Known) (cells : List WrittenCell) (text : List ℕ) (l : DumpLine) → IsReady known cells → said_behind known text ≡ Some l → HasRoom l cells
said_room known cells text l r e = go l (behind_said known text l e).1
  where
    go : (m : DumpLine) → follows known m ≡ true → HasRoom m cells
    go (Space base pages) f = tt
    go (Ns number name parent) f = tt
    go (CellLine cell ns stem called group) f = tt
    go (Place cell section start) f = place_room known cells cell section start r f
    go (AliasLine cell symbol name) f = alias_room known cells cell symbol name r f
    go (Link user entry target) f = tt
    go (Provider ns name at offset) f = tt
    go (Content at start bytes) f = tt
    go End f = tt

-- ---- what is kept
no_cells : (file : List ℕ) → HasCells file [] nothing []
no_cells file = record {
  rows_are = refl;
  rising = refl;
  below = refl;
  names = All-nil (AreNamesWithin file);
  ready = record { placing = λ number e. absurd cc; naming = λ number e. absurd cc; few = omega arith };
}

pub kept_nothing : (file : List ℕ) (lines : Lines) (w : WrittenDump) → IsNothing lines w → IsKept file [] nothing w
kept_nothing file lines w h = record {
  knows = refl;
  memory = record {
    base = h.base;
    pages = h.pages;
    told_base = h.told.base_is ∙ sym h.base;
    told_size = ap length h.told.bytes_are ∙ (length-replicate {A = Option ℕ} 0 None ∙ ap (λ (n : ℕ). 4096 * n) (sym h.pages));
    small = let a = h.base in let b = h.pages in omega (arith, a, b);
    told = λ addr c. told_nothing w.told 0 0 addr h.told;
  };
  namespaces = h.namespaces;
  cells = subst (λ (cells : List WrittenCell). HasCells file [] nothing cells) (sym h.cells) (no_cells file);
}

pub kept_more : (file : List ℕ) (rows : List Row) (known : Known) (line : Line) (l : DumpLine) (old new : WrittenDump) → IsWithin file line → IsKept file rows known old → said_behind known (slice_range file line.start line.end) ≡ Some l → Keeps line l old new
    → IsKept file (rows ++ (line.number, l) ∷ []) (after_line known l) new
kept_more file rows known line l old new w h e k =
    let b = behind_said known (slice_range file line.start line.end) l e in
    let more = lines_more rows (line.number, l) in
    record {
      knows = known_more (lines_of rows) known l h.knows ∙ ap known_of (sym more);
      memory = subst (λ (lines : List DumpLine). HasMemory lines new) (sym more) (memory_more (lines_of rows) known l old new h.knows b.1 h.memory k.memory);
      namespaces = spaces_more (lines_of rows) l old.namespaces.items new.namespaces.items h.namespaces k.namespaces ∙ ap (filter_map namespace_of) (sym more);
      cells = cells_more file rows known line l old.cells.items new.cells.items (named file line l w b.0) b.1 h.cells k.cells;
    }

pair_is : (p : ℕ × ℕ) (a b : ℕ) → a ≡ p.0 → b ≡ p.1 → (a, b) ≡ p
pair_is p a b e f = rw (e, f) refl

pub kept_tells : (file : List ℕ) (rows : List Row) (known : Known) (w : WrittenDump) → IsKept file rows known w → Tells file rows w
kept_tells file rows known w h = record {
  space = pair_is (space_of (lines_of rows)) w.base w.pages h.memory.base h.memory.pages;
  namespaces = h.namespaces;
  cells = record { rows_are = h.cells.rows_are; rising = sym (pairs-map nat_lt (λ (c : WrittenCell). c.cell) w.cells.items) ∙ h.cells.rising };
  names = h.cells.names;
  told = λ addr from below.
      let m = h.memory in
      let covers : Covers w.told addr = record { from = omega (arith, from, m.told_base); below = omega (arith, below, m.told_base, m.told_size); small = omega (arith, below, m.small) } in
      ap (λ (o : Option ℕ). unwrap_or o 0) (m.told addr covers);
}
