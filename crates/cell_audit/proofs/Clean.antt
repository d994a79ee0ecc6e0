-- What a clean audit says of a dump.
use Rattle.std.proofs.Common.{◌≡◌, refl, sym, ◌∙◌, ap, subst, ℕ, ◌⊎◌, inl, inr, Bool, true, false, cond, List, [], ◌∷◌, map, Option, Some, None, Ok}
use Rattle.std.specs.Prelude.{Result, Err, codes, drop, option_map, option_and_then}
use Rattle.std.proofs.lemmas.Slice.Eq.{bytes_eq-Decides}
use Rattle.cell_num.specs.Lists.{equals, numbered_from}
use Rattle.cell_text.specs.Text.{lines_in}
use Rattle.cell_world.specs.Gather.{Source}
use Rattle.cell_world.specs.Linked.Relink.{links_of}
use Rattle.cell_dumped.specs.Texts.{line_text}
use Rattle.cell_world.specs.declared.line.DumpLine.{DumpLine}
use Rattle.cell_audit.specs.declared.fail.AuditFail.{AuditFail}
use Rattle.cell_audit.specs.declared.fail.AuditFail.TheVariants.{Unreadable, NoObject, Misplaced, Unlinked, Differs}
use Rattle.cell_audit.specs.Audits.{Audit, ◌>>=◌, ◌>>◌, IsFresh, IsReading, audit_of, first_difference, found, readable, refused_by}
use Rattle.cell_audit.specs.Described.{described}
use Rattle.cell_audit.specs.Dumps.{Row, Text, behind_beginning, dump_in, ends, lines_of, rows_in, up_to_end}
use Rattle.cell_audit.specs.Linking.{first_unlinked, fresh_lines, relinked_content}
use Rattle.cell_audit.specs.Placing.{first_lacking, first_misplaced}
use Rattle.cell_audit.proofs.Ends.{EndsLast, end_text, lines_end_last}

bind_ok : {X Y : Type 0} (r : Audit X) (f : X → Audit Y) (y : Y) → (r >>= f) ≡ Ok y → (x : X) × (r ≡ Ok x) × (f x ≡ Ok y)
bind_ok (Ok x) f y e = (x, refl, e)
bind_ok (Err fault) f y e = absurd cc

then_ok : {Y : Type 0} (r : Audit (Unit {0})) (next : Audit Y) (y : Y) → (r >> next) ≡ Ok y → (r ≡ Ok tt) × (next ≡ Ok y)
then_ok (Ok x) next y e = (refl, e)
then_ok (Err fault) next y e = absurd cc

found_ok : {X : Type 0} (o : Option X) (fault : AuditFail) (x : X) → found o fault ≡ Ok x → o ≡ Some x
found_ok None fault x e = absurd cc
found_ok (Some y) fault x e = subst (λ (r : Audit _). elim r as (λ _. Type 0) [ Ok z ↦ Some y ≡ Some z | Err _ ↦ Unit {0} ]) e refl

pub readable_ok : {X : Type 0} (r : Result X ℕ) (x : X) → readable r ≡ Ok x → r ≡ Ok x
readable_ok (Ok y) x e = subst (λ (r : Audit _). elim r as (λ _. Type 0) [ Ok z ↦ (let given : Result _ ℕ = Ok y in given ≡ Ok z) | Err _ ↦ Unit {0} ]) e refl
readable_ok (Err line) x e = absurd cc

refused_ok : {X : Type 0} (fault : X → AuditFail) (o : Option X) → refused_by fault o ≡ Ok tt → o ≡ None
refused_ok fault None e = refl
refused_ok fault (Some x) e = absurd cc

-- the last of the texts ends the dump
abbrev EndsDump : List Text → Type 0
EndsDump [] = ⊥
EndsDump (t ∷ []) = ends t ≡ true
EndsDump (t ∷ u ∷ rest) = EndsDump (u ∷ rest)

ends_more : (t : Text) (texts : List Text) → EndsDump texts → EndsDump (t ∷ texts)
ends_more t [] h = absurd h
ends_more t (u ∷ texts) h = h

ends_dump : (all texts : List Text) → up_to_end all ≡ Some texts → EndsDump texts
ends_dump [] texts e = absurd cc
ends_dump (t ∷ all) texts e = go (ends t) refl (up_to_end all) (λ more k. ends_dump all more k) refl e
  where
    go : (b : Bool) → ends t ≡ b → (o : Option (List Text)) → ((more : List Text) → up_to_end all ≡ Some more → EndsDump more) → up_to_end all ≡ o
        → cond b (Some (t ∷ [])) (option_map (λ more. t ∷ more) o) ≡ Some texts → EndsDump texts
    go true is o f same k = subst (λ (x : Option (List Text)). elim x as (λ _. Type 0) [ None ↦ Unit {0} | Some v ↦ EndsDump v ]) k is
    go false is None f same k = absurd cc
    go false is (Some more) f same k = subst (λ (x : Option (List Text)). elim x as (λ _. Type 0) [ None ↦ Unit {0} | Some v ↦ EndsDump v ]) k (ends_more t more (f more same))

dump_ends : (dump : List ℕ) (texts : List Text) → dump_in dump ≡ Some texts → EndsDump texts
dump_ends dump texts e = go (behind_beginning (numbered_from 1 (lines_in dump))) e
  where
    go : (o : Option (List Text)) → option_and_then up_to_end o ≡ Some texts → EndsDump texts
    go None k = absurd cc
    go (Some all) k = ends_dump all texts k

abbrev Texts : List Text → List (List ℕ)
Texts texts = map (λ (t : Text). drop 2 t.1) texts

none_differs : (texts : List Text) (lines : List DumpLine) → EndsDump texts → EndsLast lines → first_difference texts lines ≡ None → Texts texts ≡ map line_text lines
none_differs [] lines h l e = absurd h
none_differs (t ∷ texts) [] h l e = absurd cc
none_differs (t ∷ texts) (d ∷ lines) h l e = go (equals (drop 2 t.1) (line_text d)) refl e (none_differs texts lines)
  where
    last : (rest : List Text) → EndsDump (t ∷ rest) → drop 2 t.1 ≡ line_text d → Texts rest ≡ map line_text lines ⊎ (rest ≡ []) → Texts (t ∷ rest) ≡ map line_text (d ∷ lines)
    last [] ends_t same k =
        let whole : t.1 ≡ codes "  end" = (bytes_eq-Decides t.1 (codes "  end")).0 ends_t in
        let text : line_text d ≡ codes "end" = sym same ∙ ap (drop 2) whole in
        let none : lines ≡ [] = l.0 (end_text d text) in
        ap (λ (x : List ℕ). x ∷ []) same ∙ ap (λ (ls : List DumpLine). line_text d ∷ map line_text ls) (sym none)
    last (u ∷ rest) ends_t same (inl k) = ap (λ (x : List ℕ). x ∷ Texts (u ∷ rest)) same ∙ ap (λ (xs : List (List ℕ)). line_text d ∷ xs) k
    last (u ∷ rest) ends_t same (inr k) = absurd cc

    rest_same : (rest : List Text) → EndsDump (t ∷ rest) → (EndsDump rest → EndsLast lines → first_difference rest lines ≡ None → Texts rest ≡ map line_text lines) → first_difference rest lines ≡ None
        → (Texts rest ≡ map line_text lines) ⊎ (rest ≡ [])
    rest_same [] ends_t f k = inr refl
    rest_same (u ∷ rest) ends_t f k = inl (f ends_t l.1 k)

    go : (b : Bool) → equals (drop 2 t.1) (line_text d) ≡ b → cond b (first_difference texts lines) (Some (Differs t.0 (drop 2 t.1) (line_text d))) ≡ None
        → (EndsDump texts → EndsLast lines → first_difference texts lines ≡ None → Texts texts ≡ map line_text lines) → Texts (t ∷ texts) ≡ map line_text (d ∷ lines)
    go true same k f = last texts h ((bytes_eq-Decides (drop 2 t.1) (line_text d)).0 same) (rest_same texts h f k)
    go false same k f = absurd cc

same_differs : (texts : List Text) (lines : List DumpLine) → Texts texts ≡ map line_text lines → first_difference texts lines ≡ None
same_differs [] lines e = refl
same_differs (t ∷ texts) [] e = absurd cc
same_differs (t ∷ texts) (d ∷ lines) e =
    ap (λ (b : Bool). cond b (first_difference texts lines) (Some (Differs t.0 (drop 2 t.1) (line_text d)))) ((bytes_eq-Decides (drop 2 t.1) (line_text d)).1 (heads e))
    ∙ same_differs texts lines (tails e)
  where
    heads : (drop 2 t.1 ∷ Texts texts) ≡ (line_text d ∷ map line_text lines) → drop 2 t.1 ≡ line_text d
    heads e = cc

    tails : (drop 2 t.1 ∷ Texts texts) ≡ (line_text d ∷ map line_text lines) → Texts texts ≡ map line_text lines
    tails e = cc

pub clean_fresh : (dump : List ℕ) (sources : List Source) → audit_of dump sources ≡ Ok tt → (texts : List Text) × (rows : List Row) × IsReading dump sources texts rows × IsFresh sources texts rows
clean_fresh dump sources e =
    let a = bind_ok (found (dump_in dump) (Unreadable 0)) _ tt e in
    let b = bind_ok (readable (rows_in a.0)) _ tt a.2 in
    let c = then_ok (refused_by (λ line. NoObject line) (first_lacking sources b.0)) _ tt b.2 in
    let d = then_ok (refused_by (λ line. Misplaced line) (first_misplaced sources b.0)) _ tt c.1 in
    let f = then_ok (refused_by (λ at. Unlinked at.0 at.1) (first_unlinked sources (lines_of b.0) (described sources (lines_of b.0)) b.0)) _ tt d.1 in
    let texts_are = found_ok (dump_in dump) (Unreadable 0) a.0 a.1 in (
      a.0,
      b.0,
      record {
        texts_are = texts_are;
        rows_are = readable_ok (rows_in a.0) b.0 b.1;
        objects = refused_ok (λ line. NoObject line) (first_lacking sources b.0) c.0;
        places = refused_ok (λ line. Misplaced line) (first_misplaced sources b.0) d.0;
        links = refused_ok (λ (at : ℕ × ℕ). Unlinked at.0 at.1) (first_unlinked sources (lines_of b.0) (described sources (lines_of b.0)) b.0) f.0;
      },
      none_differs a.0 (fresh_lines (lines_of b.0) (described sources (lines_of b.0))) (dump_ends dump a.0 texts_are) (lines_end_last (relinked_content (lines_of b.0) (described sources (lines_of b.0))) (record (described sources (lines_of b.0)) { links = links_of (described sources (lines_of b.0)) }))
          (refused_ok (λ fault. fault) (first_difference a.0 (fresh_lines (lines_of b.0) (described sources (lines_of b.0)))) f.1),
    )

pub fresh_clean : (dump : List ℕ) (sources : List Source) (texts : List Text) (rows : List Row) → IsReading dump sources texts rows → IsFresh sources texts rows → audit_of dump sources ≡ Ok tt
fresh_clean dump sources texts rows r f =
    rw (r.texts_are, r.rows_are, r.objects, r.places, r.links, same_differs texts (fresh_lines (lines_of rows) (described sources (lines_of rows))) f) refl
