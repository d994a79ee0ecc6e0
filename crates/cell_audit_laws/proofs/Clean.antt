-- The audit of the dump of a coherent machine is clean.
use Rattle.std.proofs.Common.{◌≡◌, refl, sym, ◌∙◌, ap, subst, ℕ, ◌≤◌, inl, inr, Bool, List, [], ◌∷◌, ◌++◌, map, Option, Some, None, Ok, append_assoc}
use Rattle.std.specs.Prelude.{All, Result, Err, drop, option_and_then}
use Rattle.std.proofs.lemmas.List.{append-nil, map-append}
use Rattle.cell_num.specs.Lists.{In, where_true}
use Rattle.cell_num.proofs.Elements.{All-In}
use Rattle.cell_world.specs.Coherent.{IsCoherent}
use Rattle.cell_world.specs.Gather.{Source}
use Rattle.cell_world.specs.World.{World}
use Rattle.cell_world.specs.DumpLines.{dump_lines}
use Rattle.cell_dumped.specs.Texts.{line_text}
use Rattle.cell_dumped.specs.Writable.{IsWritable}
use Rattle.cell_world.specs.declared.line.DumpLine.{DumpLine}
use Rattle.cell_dumped.proofs.Says.{text_says}
use Rattle.cell_audit.specs.Audits.{audit_of}
use Rattle.cell_audit.specs.Dumps.{Row, Text, dump_in, lines_of, row_after, rows_after, said_at}
use Rattle.cell_audit.specs.Following.{may_follow}
use Rattle.cell_audit.proofs.Clean.{fresh_clean}
use Rattle.cell_audit_laws.specs.Anew.{shown}
use Rattle.cell_origin_law.specs.Readings.{AreRead}
use Rattle.cell_audit_laws.proofs.Anew.{all_fresh, no_lacking, no_unlinked}
use Rattle.cell_audit_laws.proofs.Order.{Follows, all_follow}
use Rattle.cell_audit_laws.proofs.Stands.{no_misplaced}

-- lines that may follow each other are read from their texts
read_all : (texts : List Text) (lines : List DumpLine) (before : List Row) → map (λ (t : Text). t.1) texts ≡ map shown lines → ((l : DumpLine) → In l lines → IsWritable l) → Follows (lines_of before) lines
    → (rows : List Row) × (rows_after before texts ≡ Ok rows) × (lines_of rows ≡ lines_of before ++ lines)
read_all [] [] before e w f = (before, refl, sym (append-nil (lines_of before)))
read_all [] (l ∷ lines) before e w f = absurd cc
read_all (t ∷ texts) [] before e w f = absurd cc
read_all (t ∷ texts) (l ∷ lines) before e w f =
    let row : Row = (t.0, l) in
    let one : row_after before t ≡ Some row =
    ap (λ (x : List ℕ). option_and_then (λ l. where_true (may_follow (lines_of before) l) (t.0, l)) (said_at x)) (head e)
    ∙ (ap (option_and_then (λ l. where_true (may_follow (lines_of before) l) (t.0, l))) (text_says l (w l (inl refl)))
    ∙ ap (λ (b : Bool). where_true b (t.0, l)) f.0) in
    let more : lines_of (before ++ row ∷ []) ≡ lines_of before ++ l ∷ [] = map-append (λ (r : Row). r.1) before (row ∷ []) in
    let rest = read_all texts lines (before ++ row ∷ []) (tail e) (λ x i. w x (inr i)) (subst (λ (b : List DumpLine). Follows b lines) (sym more) f.1) in (
      rest.0,
      ap (λ (o : Option Row). elim o as (λ _. Result (List Row) ℕ) [ None ↦ Err t.0 | Some r ↦ rows_after (before ++ r ∷ []) texts ]) one ∙ rest.1,
      rest.2 ∙ (ap (λ (b : List DumpLine). b ++ lines) more ∙ append_assoc (lines_of before) (l ∷ []) lines),
    )
  where
    head : (t.1 ∷ map (λ (t : Text). t.1) texts) ≡ (shown l ∷ map shown lines) → t.1 ≡ shown l
    head e = cc

    tail : (t.1 ∷ map (λ (t : Text). t.1) texts) ≡ (shown l ∷ map shown lines) → map (λ (t : Text). t.1) texts ≡ map shown lines
    tail e = cc

bare : (texts : List Text) (lines : List DumpLine) → map (λ (t : Text). t.1) texts ≡ map shown lines → map (λ (t : Text). drop 2 t.1) texts ≡ map line_text lines
bare texts lines e = sym (over texts) ∙ (ap (map (drop 2)) e ∙ under lines)
  where
    over : (ts : List Text) → map (drop 2) (map (λ (t : Text). t.1) ts) ≡ map (λ (t : Text). drop 2 t.1) ts
    over [] = refl
    over (t ∷ ts) = ap (λ (xs : List (List ℕ)). drop 2 t.1 ∷ xs) (over ts)

    under : (ls : List DumpLine) → map (drop 2) (map shown ls) ≡ map line_text ls
    under [] = refl
    under (l ∷ ls) = ap (λ (xs : List (List ℕ)). line_text l ∷ xs) (under ls)

pub coherent_clean : (sources : List Source) (w : World) → IsCoherent w → AreRead sources w → All (λ c. 1 ≤ c.id.0) w.cells → All IsWritable (dump_lines w)
    → (dump : List ℕ) (texts : List Text) → dump_in dump ≡ Some texts → map (λ t. t.1) texts ≡ map shown (dump_lines w) → audit_of dump sources ≡ Ok tt
coherent_clean sources w h read numbers writable dump texts there same =
    let r = read_all texts (dump_lines w) [] same (All-In IsWritable (dump_lines w) writable) (all_follow w h numbers) in
    fresh_clean dump sources texts r.0 (record {
      texts_are = there;
      rows_are = r.1;
      objects = no_lacking sources w h read r.0 r.2;
      places = no_misplaced sources w h read r.0 r.2;
      links = no_unlinked sources w h read r.0 r.2;
    }) (bare texts (dump_lines w) same ∙ ap (map line_text) (sym (all_fresh sources w h read r.0 r.2)))
