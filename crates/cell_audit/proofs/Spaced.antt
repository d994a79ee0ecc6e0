-- The space of a dump that is read is within its limits.
use Rattle.std.proofs.Common.{◌≡◌, refl, sym, ◌∙◌, subst, ℕ, ◌%◌, Bool, true, false, true≢false, cond, ◌&&◌, List, [], ◌∷◌, ◌++◌, append_assoc, append-nil, Ok, Err}
use Rattle.std.specs.Prelude.{Option, Some, None, Result, IfOk, ◌==◌, nat_le, option_and_then, option_map}
use Rattle.std.proofs.lemmas.Bool.{and_parts, leb-true, eqb-true}
use Rattle.cell_num.specs.Lists.{where_true}
use Rattle.cell_world.specs.declared.line.DumpLine.{DumpLine}
use Rattle.cell_world.specs.declared.line.DumpLine.TheVariants.{Space, Ns, Cell as CellLine, Place, Alias as AliasLine, Link, Provider, Content, End}
use Rattle.cell_audit.specs.Described.{space_of}
use Rattle.cell_audit.specs.Dumps.{Row, Text, behind_beginning, dump_in, ends, lines_of, row_after, rows_after, rows_in, said_at, texts_from, up_to_end}
use Rattle.cell_audit.specs.Following.{is_space, may_follow}
use Rattle.cell_audit.specs.Kept.{Tells}
use Rattle.cell_audit.specs.Within.{texts_of}
use Rattle.cell_audit.specs.declared.dump.Lines.{Lines}
use Rattle.cell_audit.specs.declared.fail.AuditFail.{AuditFail}
use Rattle.cell_audit.specs.declared.kept.WrittenDump.{WrittenDump}
use Rattle.cell_num.specs.Limits.{max_base, max_pages, min_base, min_pages, page_size}
use Rattle.cell_world.specs.Placed.Pages.{IsSpace}

pub spaced : (base pages : ℕ) → is_space base pages ≡ true → IsSpace base pages
spaced base pages h =
    let aligned : Bool = base % page_size == 0 in
    let d = and_parts (aligned && nat_le min_base base && nat_le base max_base && nat_le min_pages pages) (nat_le pages max_pages) h in
    let e = and_parts (aligned && nat_le min_base base && nat_le base max_base) (nat_le min_pages pages) d.0 in
    let f = and_parts (aligned && nat_le min_base base) (nat_le base max_base) e.0 in
    let g = and_parts aligned (nat_le min_base base) f.0 in
    record {
      aligned = eqb-true (base % page_size) 0 g.0;
      lowest = leb-true min_base base g.1;
      highest = leb-true base max_base f.1;
      fewest = leb-true min_pages pages e.1;
      most = leb-true pages max_pages d.1;
    }

-- rows are added behind those before
record Grows (before rows : List Row) : Type 0 where
  pub more : List Row
  pub is : rows ≡ before ++ more

grows : (texts : List Text) (before rows : List Row) → rows_after before texts ≡ Ok rows → Grows before rows
grows [] before rows e = record { more = []; is = let same : before ≡ rows = cc in sym (append-nil before ∙ same) }
grows (t ∷ texts) before rows e = go (row_after before t) e (λ r h. grows texts (before ++ r ∷ []) rows h)
  where
    go : (o : Option Row) → elim o as (λ _. Result (List Row) ℕ) [ None ↦ Err t.0 | Some row ↦ rows_after (before ++ row ∷ []) texts ] ≡ Ok rows
        → ((r : Row) → rows_after (before ++ r ∷ []) texts ≡ Ok rows → Grows (before ++ r ∷ []) rows) → Grows before rows
    go None h f = absurd cc
    go (Some r) h f = let g = f r h in record { more = r ∷ g.more; is = g.is ∙ append_assoc before (r ∷ []) g.more }

-- the first line is that of the space
first_space : (l : DumpLine) (number : ℕ) (more : List Row) → may_follow [] l ≡ true → IsSpace (space_of (lines_of ((number, l) ∷ more))).0 (space_of (lines_of ((number, l) ∷ more))).1
first_space (Space base pages) number more h = spaced base pages h
first_space (Ns n name parent) number more h = absurd (true≢false (sym h))
first_space (CellLine cell ns stem file group) number more h = absurd (true≢false (sym h))
first_space (Place cell section start) number more h = absurd (true≢false (sym h))
first_space (AliasLine cell symbol name) number more h = absurd (true≢false (sym h))
first_space (Link user entry target) number more h = absurd (true≢false (sym h))
first_space (Provider ns name at offset) number more h = absurd (true≢false (sym h))
first_space (Content at addr bytes) number more h = absurd (true≢false (sym h))
first_space End number more h = absurd (true≢false (sym h))

first_row : (t : Text) (row : Row) (more rows : List Row) → row_after [] t ≡ Some row → rows ≡ row ∷ more → IsSpace (space_of (lines_of rows)).0 (space_of (lines_of rows)).1
first_row t row more rows e is = subst (λ (rs : List Row). IsSpace (space_of (lines_of rs)).0 (space_of (lines_of rs)).1) (sym is) (go (said_at t.1) e)
  where
    inside : (b : Bool) (l : DumpLine) → may_follow [] l ≡ b → where_true b (t.0, l) ≡ Some row → IsSpace (space_of (lines_of (row ∷ more))).0 (space_of (lines_of (row ∷ more))).1
    inside true l m h =
        let same : (t.0, l) ≡ row = cc in
        subst (λ (r : Row). IsSpace (space_of (lines_of (r ∷ more))).0 (space_of (lines_of (r ∷ more))).1) same (first_space l t.0 more m)
    inside false l m h = absurd cc

    go : (o : Option DumpLine) → option_and_then (λ l. where_true (may_follow [] l) (t.0, l)) o ≡ Some row → IsSpace (space_of (lines_of (row ∷ more))).0 (space_of (lines_of (row ∷ more))).1
    go None h = absurd cc
    go (Some l) h = inside (may_follow [] l) l refl h

rows_spaced : (texts : List Text) (rows : List Row) → (texts ≡ [] → ⊥) → rows_in texts ≡ Ok rows → IsSpace (space_of (lines_of rows)).0 (space_of (lines_of rows)).1
rows_spaced [] rows some e = absurd (some refl)
rows_spaced (t ∷ texts) rows some e = go (row_after [] t) refl e
  where
    go : (o : Option Row) → row_after [] t ≡ o → elim o as (λ _. Result (List Row) ℕ) [ None ↦ Err t.0 | Some row ↦ rows_after (row ∷ []) texts ] ≡ Ok rows
        → IsSpace (space_of (lines_of rows)).0 (space_of (lines_of rows)).1
    go None r h = absurd cc
    go (Some row) r h = let g = grows texts (row ∷ []) rows h in first_row t row g.more rows r g.is

some_texts : (texts rest : List Text) → up_to_end texts ≡ Some rest → rest ≡ [] → ⊥
some_texts [] rest e n = absurd cc
some_texts (t ∷ texts) rest e n = go (ends t) e
  where
    mapped : (o : Option (List Text)) → option_map (λ more. t ∷ more) o ≡ Some rest → ⊥
    mapped None h = absurd cc
    mapped (Some more) h = let same : t ∷ more ≡ rest = cc in nothing (same ∙ n)
      where
        nothing : t ∷ more ≡ [] → ⊥
        nothing z = absurd cc

    go : (b : Bool) → cond b (Some (t ∷ [])) (option_map (λ more. t ∷ more) (up_to_end texts)) ≡ Some rest → ⊥
    go true h = let same : t ∷ [] ≡ rest = cc in nothing (same ∙ n)
      where
        nothing : t ∷ [] ≡ [] → ⊥
        nothing z = absurd cc
    go false h = mapped (up_to_end texts) h

-- so it is with every dump that is read
pub read_spaced : (bytes : List ℕ) (texts : List Text) (rows : List Row) → dump_in bytes ≡ Some texts → rows_in texts ≡ Ok rows → IsSpace (space_of (lines_of rows)).0 (space_of (lines_of rows)).1
read_spaced bytes texts rows d r = rows_spaced texts rows (λ n. go (behind_beginning (texts_from 1 bytes)) d n) r
  where
    go : (o : Option (List Text)) → option_and_then up_to_end o ≡ Some texts → texts ≡ [] → ⊥
    go None h n = absurd cc
    go (Some all) h n = some_texts all texts h n

pub tells_spaced : (file : List ℕ) (lines : Lines) (r : Result WrittenDump AuditFail) → dump_in file ≡ Some (texts_of file lines)
    → IfOk r (λ w. (rows : List Row) × (rows_in (texts_of file lines) ≡ Ok rows) × Tells file rows w) → IfOk r (λ w. IsSpace w.base w.pages)
tells_spaced file lines (Err fault) d h = tt
tells_spaced file lines (Ok w) d h = subst (λ (s : ℕ × ℕ). IsSpace s.0 s.1) (sym h.2.space) (read_spaced file (texts_of file lines) h.0 d h.1)
