-- What one line more changes of the memory and of the namespaces that lines tell.
use Rattle.std.proofs.Common.{◌≡◌, refl, sym, ◌∙◌, ap, subst, arith, ℕ, ◌+◌, ◌*◌, ◌<◌, ◌^◌, true, not, ◌&&◌, List, [], ◌∷◌, ◌++◌, length, Option, Some, None, unwrap_or, filter_map}
use Rattle.std.specs.Prelude.{◌%◌, ◌==◌, nat_le}
use Rattle.std.specs.List.{cons_option}
use Rattle.std.proofs.lemmas.Bool.{and_parts, leb-true, not-true}
use Rattle.std.proofs.lemmas.List.{append-nil, length-replicate, map_push}
use Rattle.std.proofs.lemmas.List.Elements.{filter_map-append}
use Rattle.cell_num.specs.Lists.{first, or_else}
use Rattle.cell_num.specs.Limits.{max_base, max_pages, min_base, min_pages}
use Rattle.cell_world.specs.declared.state.Namespace.{Namespace}
use Rattle.cell_world.specs.declared.line.DumpLine.{DumpLine}
use Rattle.cell_world.specs.declared.line.DumpLine.TheVariants.{Space, Ns, Cell as CellLine, Place, Alias as AliasLine, Link, Provider, Content, End}
use Rattle.cell_audit.specs.declared.kept.WrittenDump.{WrittenDump}
use Rattle.cell_audit.specs.declared.order.Known.{Known}
use Rattle.cell_audit.specs.declared.told_bytes.Told.{Told}
use Rattle.cell_audit.specs.Described.{base_of, byte_in, namespace_of, space_of}
use Rattle.cell_audit.specs.Dumps.{Row, lines_of}
use Rattle.cell_audit.specs.Following.{is_space}
use Rattle.cell_audit.specs.Kept.{MemoryGoes, NamespacesGo}
use Rattle.cell_audit.specs.Known.{follows, known_of}
use Rattle.cell_audit.specs.Reader.{HasMemory}
use Rattle.cell_audit.specs.Told.{Covers, told_at}
use Rattle.cell_audit.proofs.Knowing.{begins_none}
use Rattle.cell_audit.proofs.Telling.{told_nothing}

pub lines_more : (rows : List Row) (r : Row) → lines_of (rows ++ r ∷ []) ≡ lines_of rows ++ r.1 ∷ []
lines_more rows r = map_push (λ (x : Row). x.1) rows r

-- ---- the first that a list gives
first_append : {X : Type 0} (xs ys : List X) → first (xs ++ ys) ≡ or_else (first xs) (first ys)
first_append [] ys = refl
first_append (x ∷ xs) ys = refl

first_of_one : {X : Type 0} (o : Option X) → first (cons_option o []) ≡ o
first_of_one None = refl
first_of_one (Some x) = refl

pub first_more : {X : Type 0} (f : DumpLine → Option X) (lines : List DumpLine) (l : DumpLine) → first (filter_map f (lines ++ l ∷ [])) ≡ or_else (first (filter_map f lines)) (f l)
first_more f lines l =
    ap first (filter_map-append f lines (l ∷ []))
    ∙ (first_append (filter_map f lines) (filter_map f (l ∷ []))
    ∙ ap (or_else (first (filter_map f lines))) (first_of_one (f l)))

or_none : {X : Type 0} (o : Option X) → or_else o None ≡ o
or_none None = refl
or_none (Some x) = refl

first_stays : {X : Type 0} (f : DumpLine → Option X) (lines : List DumpLine) (l : DumpLine) → f l ≡ None → first (filter_map f (lines ++ l ∷ [])) ≡ first (filter_map f lines)
first_stays f lines l e = first_more f lines l ∙ (ap (or_else (first (filter_map f lines))) e ∙ or_none (first (filter_map f lines)))

-- ---- the memory
space_stays : (lines : List DumpLine) (l : DumpLine) → base_of l ≡ None → space_of (lines ++ l ∷ []) ≡ space_of lines
space_stays lines l e = ap (λ (o : Option (ℕ × ℕ)). unwrap_or o (0, 0)) (first_stays base_of lines l e)

-- the space is small enough that each of its addresses is below 2^64
space_small : (base pages : ℕ) → is_space base pages ≡ true → base + 4096 * pages < 2 ^ 64
space_small base pages h =
    let a = and_parts ((base % 4096 == 0) && nat_le min_base base && nat_le base max_base && nat_le min_pages pages) (nat_le pages max_pages) h in
    let b = and_parts ((base % 4096 == 0) && nat_le min_base base && nat_le base max_base) (nat_le min_pages pages) a.0 in
    let c = and_parts ((base % 4096 == 0) && nat_le min_base base) (nat_le base max_base) b.0 in
    let low = leb-true base max_base c.1 in
    let few = leb-true pages max_pages a.1 in
    omega (arith, low, few)

pub space_fits : (known : Known) (base pages : ℕ) → follows known (Space base pages) ≡ true → base + 4096 * pages < 2 ^ 64
space_fits known base pages h = space_small base pages (and_parts (not known.begun) (is_space base pages) h).1

memory_first : (lines : List DumpLine) (base pages : ℕ) (old new : WrittenDump) → lines ≡ [] → base + 4096 * pages < 2 ^ 64 → MemoryGoes (Space base pages) old new
    → HasMemory (lines ++ Space base pages ∷ []) new
memory_first lines base pages old new none small g =
    subst (λ (ls : List DumpLine). HasMemory (ls ++ Space base pages ∷ []) new) (sym none) (record {
      base = g.0;
      pages = g.1;
      told_base = g.2.base_is ∙ sym g.0;
      told_size = ap length g.2.bytes_are ∙ (length-replicate (4096 * pages) None ∙ ap (λ (n : ℕ). 4096 * n) (sym g.1));
      small = let a = g.0 in let b = g.1 in omega (arith, small, a, b);
      told = λ addr c. told_nothing new.told base (4096 * pages) addr g.2;
    })

memory_told : (lines : List DumpLine) (l : DumpLine) (old new : WrittenDump) → HasMemory lines old → base_of l ≡ None → new.base ≡ old.base → new.pages ≡ old.pages → new.told.base ≡ old.told.base
    → length new.told.bytes.items ≡ length old.told.bytes.items → ((addr : ℕ) → Covers old.told addr → told_at new.told addr ≡ or_else (told_at old.told addr) (byte_in addr l)) → HasMemory (lines ++ l ∷ []) new
memory_told lines l old new h e base pages told_base told_size told = record {
  base = base ∙ (h.base ∙ ap (λ (s : ℕ × ℕ). s.0) (sym (space_stays lines l e)));
  pages = pages ∙ (h.pages ∙ ap (λ (s : ℕ × ℕ). s.1) (sym (space_stays lines l e)));
  told_base = told_base ∙ (h.told_base ∙ sym base);
  told_size = told_size ∙ (h.told_size ∙ ap (λ (n : ℕ). 4096 * n) (sym pages));
  small = let s = h.small in omega (arith, s, base, pages);
  told = λ addr c.
      let covers : Covers old.told addr = record { from = let k = c.from in omega (arith, k, told_base); below = let k = c.below in omega (arith, k, told_base, told_size); small = c.small } in
      told addr covers ∙ (ap (λ (o : Option ℕ). or_else o (byte_in addr l)) (h.told addr covers) ∙ sym (first_more (byte_in addr) lines l));
}

memory_same : (lines : List DumpLine) (l : DumpLine) (old new : WrittenDump) → HasMemory lines old → base_of l ≡ None → ((addr : ℕ) → byte_in addr l ≡ None) → (new.base ≡ old.base) × (new.pages ≡ old.pages) × (new.told ≡ old.told)
    → HasMemory (lines ++ l ∷ []) new
memory_same lines l old new h e none g =
    memory_told lines l old new h e g.0 g.1 (ap (λ (t : Told). t.base) g.2) (ap (λ (t : Told). length t.bytes.items) g.2)
    (λ addr c. ap (λ (t : Told). told_at t addr) g.2 ∙ sym (ap (or_else (told_at old.told addr)) (none addr) ∙ or_none (told_at old.told addr)))

pub memory_more : (lines : List DumpLine) (known : Known) (l : DumpLine) (old new : WrittenDump) → known ≡ known_of lines → follows known l ≡ true → HasMemory lines old → MemoryGoes l old new → HasMemory (lines ++ l ∷ []) new
memory_more lines known (Space base pages) old new k f h g =
    memory_first lines base pages old new (begins_none lines known k (not-true known.begun (and_parts (not known.begun) (is_space base pages) f).0)) (space_fits known base pages f) g
memory_more lines known (Ns number name parent) old new k f h g = memory_same lines (Ns number name parent) old new h refl (λ addr. refl) g
memory_more lines known (CellLine cell ns stem file group) old new k f h g = memory_same lines (CellLine cell ns stem file group) old new h refl (λ addr. refl) g
memory_more lines known (Place cell section start) old new k f h g = memory_same lines (Place cell section start) old new h refl (λ addr. refl) g
memory_more lines known (AliasLine cell symbol name) old new k f h g = memory_same lines (AliasLine cell symbol name) old new h refl (λ addr. refl) g
memory_more lines known (Link user entry target) old new k f h g = memory_same lines (Link user entry target) old new h refl (λ addr. refl) g
memory_more lines known (Provider ns name at offset) old new k f h g = memory_same lines (Provider ns name at offset) old new h refl (λ addr. refl) g
memory_more lines known (Content at start bytes) old new k f h g =
    memory_told lines (Content at start bytes) old new h refl g.0 g.1 g.2.same.base g.2.same.size g.2.told
memory_more lines known End old new k f h g = memory_same lines End old new h refl (λ addr. refl) g

-- ---- the namespaces
spaces_stay : (lines : List DumpLine) (l : DumpLine) (old new : List Namespace) → namespace_of l ≡ None → old ≡ filter_map namespace_of lines → new ≡ old → new ≡ filter_map namespace_of (lines ++ l ∷ [])
spaces_stay lines l old new e h g =
    g ∙ (h ∙ sym (filter_map-append namespace_of lines (l ∷ [])
    ∙ (ap (λ (o : Option Namespace). filter_map namespace_of lines ++ cons_option o []) e ∙ append-nil (filter_map namespace_of lines))))

pub spaces_more : (lines : List DumpLine) (l : DumpLine) (old new : List Namespace) → old ≡ filter_map namespace_of lines → NamespacesGo l old new → new ≡ filter_map namespace_of (lines ++ l ∷ [])
spaces_more lines (Space base pages) old new h g = spaces_stay lines (Space base pages) old new refl h g
spaces_more lines (Ns number name parent) old new h g =
    g ∙ (ap (λ (spaces : List Namespace). spaces ++ record { name = name; parent = parent } ∷ []) h ∙ sym (filter_map-append namespace_of lines (Ns number name parent ∷ [])))
spaces_more lines (CellLine cell ns stem file group) old new h g = spaces_stay lines (CellLine cell ns stem file group) old new refl h g
spaces_more lines (Place cell section start) old new h g = spaces_stay lines (Place cell section start) old new refl h g
spaces_more lines (AliasLine cell symbol name) old new h g = spaces_stay lines (AliasLine cell symbol name) old new refl h g
spaces_more lines (Link user entry target) old new h g = spaces_stay lines (Link user entry target) old new refl h g
spaces_more lines (Provider ns name at offset) old new h g = spaces_stay lines (Provider ns name at offset) old new refl h g
spaces_more lines (Content at start bytes) old new h g = spaces_stay lines (Content at start bytes) old new refl h g
spaces_more lines End old new h g = spaces_stay lines End old new refl h g
