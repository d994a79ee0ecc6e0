-- The dump of a machine in a transcript is found there, line by line.
use Rattle.std.proofs.Common.{◌≡◌, refl, sym, ◌∙◌, ap, subst, arith, ℕ, suc, ◌<◌, ◌≤◌, inl, inr, Bool, true, false, cond, ◌||◌, ◌&&◌, List, [], ◌∷◌, ◌++◌, map, true≢false, Option, Some, Ok, append_assoc}
use Rattle.std.specs.Prelude.{◌^◌, All, codes, drop, is_some, option_and_then, option_map, ◌==◌}
use Rattle.std.specs.Fmt.{decimal}
use Rattle.std.specs.List.{flat_map, list_all, list_any, slice_split}
use Rattle.std.proofs.lemmas.Bool.{and_parts}
use Rattle.std.proofs.lemmas.Slice.Eq.{bytes_eq-Decides}
use Rattle.cell_num.specs.Lists.{In, numbered_from}
use Rattle.cell_num.proofs.Elements.{All-In, In-map}
use Rattle.cell_text.specs.Text.{lines_in, onto}
use Rattle.cell_world.specs.Coherent.{IsCoherent}
use Rattle.cell_world.specs.Gather.{Source}
use Rattle.cell_world.specs.World.{World}
use Rattle.cell_world.specs.DumpLines.{dump_lines, held_in, lines_before_end}
use Rattle.cell_dumped.specs.Writable.{IsWritable}
use Rattle.cell_world.specs.declared.line.DumpLine.{DumpLine}
use Rattle.cell_world.specs.declared.line.DumpLine.TheVariants.{End}
use Rattle.cell_dumped.proofs.Feeds.{text_feedless}
use Rattle.cell_dumped.proofs.Says.{Lacks, decimal_lacks, lacks_joined, number_said, split_front}
use Rattle.cell_audit.specs.Audits.{audit_of}
use Rattle.cell_audit.specs.Dumps.{Text, behind_beginning, dump_in, ends, is_answer, up_to_end}
use Rattle.cell_audit.proofs.Ends.{all_other, end_text, is_other}
use Rattle.cell_audit_laws.specs.Anew.{shown}
use Rattle.cell_origin_law.specs.Readings.{AreRead}
use Rattle.cell_audit_laws.specs.Transcripts.{IsEarlier, answer_text, ended, transcript}
use Rattle.cell_audit_laws.proofs.Clean.{coherent_clean}

or_none : (a b : Bool) → (a || b) ≡ false → (a ≡ false) × (b ≡ false)
or_none true b e = absurd (true≢false e)
or_none false b e = (refl, e)

-- one line, and what is behind its end
one_line : (x y : List ℕ) → Lacks 10 x → lines_in (x ++ 10 ∷ y) ≡ x ∷ lines_in y
one_line [] y h = refl
one_line (b ∷ x) y h =
    let p = or_none (b == 10) (list_any (λ c. c == 10) x) h in
    ap (λ (t : Bool). cond t ([] ∷ lines_in (x ++ 10 ∷ y)) (onto b (lines_in (x ++ 10 ∷ y)))) p.0
    ∙ ap (onto b) (one_line x y p.1)

many_lines : (xs : List (List ℕ)) (y : List ℕ) → ((x : List ℕ) → In x xs → Lacks 10 x) → lines_in (flat_map ended xs ++ y) ≡ xs ++ lines_in y
many_lines [] y h = refl
many_lines (x ∷ xs) y h =
    ap lines_in (append_assoc (ended x) (flat_map ended xs) y ∙ append_assoc x (10 ∷ []) (flat_map ended xs ++ y))
    ∙ (one_line x (flat_map ended xs ++ y) (h x (inl refl))
    ∙ ap (λ (zs : List (List ℕ)). x ∷ zs) (many_lines xs y (λ z i. h z (inr i))))

-- the first line that begins a dump is the answer
found_behind : (before : List (List ℕ)) (answer : List ℕ) (rest : List (List ℕ)) (k : ℕ) → ((x : List ℕ) → In x before → is_answer (slice_split (λ b. b == 32) x) ≡ false) → is_answer (slice_split (λ b. b == 32) answer) ≡ true
    → (m : ℕ) × (behind_beginning (numbered_from k (before ++ answer ∷ rest)) ≡ Some (numbered_from m rest))
found_behind [] answer rest k none said = (suc k, ap (λ (b : Bool). cond b (Some (numbered_from (suc k) rest)) (behind_beginning (numbered_from (suc k) rest))) said)
found_behind (x ∷ before) answer rest k none said =
    let r = found_behind before answer rest (suc k) (λ z i. none z (inr i)) said in
    (r.0, ap (λ (b : Bool). cond b (Some (numbered_from (suc k) (before ++ answer ∷ rest))) (behind_beginning (numbered_from (suc k) (before ++ answer ∷ rest)))) (none x (inl refl)) ∙ r.1)

-- the lines up to the one that ends the dump
up_to : (front : List DumpLine) (rest : List (List ℕ)) (k : ℕ) → list_all is_other front ≡ true
    → (texts : List Text) × (up_to_end (numbered_from k (map shown (front ++ End ∷ []) ++ rest)) ≡ Some texts) × (map (λ (t : Text). t.1) texts ≡ map shown (front ++ End ∷ []))
up_to [] rest k h = ((k, shown End) ∷ [], refl, refl)
up_to (l ∷ front) rest k h =
    let p = and_parts (is_other l) (list_all is_other front) h in
    let r = up_to front rest (suc k) p.1 in (
      (k, shown l) ∷ r.0,
      ap (λ (b : Bool). cond b (Some (let t : Text = (k, shown l) in t ∷ [])) (option_map (λ (more : List Text). (let t : Text = (k, shown l) in t ∷ more)) (up_to_end (numbered_from (suc k) (map shown (front ++ End ∷ []) ++ rest))))) (not_end (ends (k, shown l)) refl p.0)
          ∙ ap (option_map (λ (more : List Text). (let t : Text = (k, shown l) in t ∷ more))) r.1,
      ap (λ (xs : List (List ℕ)). shown l ∷ xs) r.2,
    )
  where
    not_end : (b : Bool) → ends (k, shown l) ≡ b → is_other l ≡ true → ends (k, shown l) ≡ false
    not_end false e o = e
    not_end true e o = absurd (true≢false (sym o ∙ end_text l (ap (drop 2) ((bytes_eq-Decides (shown l) (codes "  end")).0 e))))

answer_is : (n : ℕ) → n < 2 ^ 64 → is_answer (slice_split (λ b. b == 32) (answer_text n)) ≡ true
answer_is n h =
    ap is_answer (split_front 32 (decimal n) (codes "ok dumpall") (decimal_lacks 32 n (omega arith) h))
    ∙ ap (λ (o : Option ℕ). is_some o && true && true) (number_said n h)

answer_feedless : (n : ℕ) → n < 2 ^ 64 → Lacks 10 (answer_text n)
answer_feedless n h = lacks_joined 10 (decimal n) (codes " ok dumpall") (decimal_lacks 10 n (omega arith) h) refl

shown_feedless : (ls : List DumpLine) → ((l : DumpLine) → In l ls → IsWritable l) → (x : List ℕ) → In x (map shown ls) → Lacks 10 x
shown_feedless ls w x i = let l = In-map shown ls x i in subst (Lacks 10) (sym l.2) (text_feedless l.0 (w l.0 l.1))

pub transcript_found : (before : List (List ℕ)) (n : ℕ) (w : World) (rest : List ℕ) → All IsEarlier before → n < 2 ^ 64 → All IsWritable (dump_lines w)
    → (texts : List Text) × (dump_in (transcript before n (dump_lines w) rest) ≡ Some texts) × (map (λ (t : Text). t.1) texts ≡ map shown (dump_lines w))
transcript_found before n w rest earlier small writable =
    let of_lines : lines_in (transcript before n (dump_lines w) rest) ≡ before ++ answer_text n ∷ (map shown (dump_lines w) ++ lines_in rest) =
    many_lines before (ended (answer_text n) ++ (flat_map ended (map shown (dump_lines w)) ++ rest)) (λ x i. (All-In IsEarlier before earlier x i).feedless)
    ∙ ap (λ (xs : List (List ℕ)). before ++ xs)
    (ap lines_in (append_assoc (answer_text n) (10 ∷ []) (flat_map ended (map shown (dump_lines w)) ++ rest))
    ∙ (one_line (answer_text n) (flat_map ended (map shown (dump_lines w)) ++ rest) (answer_feedless n small)
    ∙ ap (λ (xs : List (List ℕ)). answer_text n ∷ xs) (many_lines (map shown (dump_lines w)) rest (shown_feedless (dump_lines w) (All-In IsWritable (dump_lines w) writable))))) in
    let b = found_behind before (answer_text n) (map shown (dump_lines w) ++ lines_in rest) 1 (λ x i. (All-In IsEarlier before earlier x i).other) (answer_is n small) in
    let u = up_to (lines_before_end (held_in w) w) (lines_in rest) b.0 (all_other (held_in w) w) in
    (u.0, ap (λ (xs : List (List ℕ)). option_and_then up_to_end (behind_beginning (numbered_from 1 xs))) of_lines ∙ (ap (option_and_then up_to_end) b.1 ∙ u.1), u.2)

pub transcript_clean : (sources : List Source) (w : World) → IsCoherent w → AreRead sources w → All (λ c. 1 ≤ c.id.0) w.cells → All IsWritable (dump_lines w)
    → (before : List (List ℕ)) (n : ℕ) (rest : List ℕ) → All IsEarlier before → n < 2 ^ 64 → audit_of (transcript before n (dump_lines w) rest) sources ≡ Ok tt
transcript_clean sources w h read numbers writable before n rest earlier small =
    let t = transcript_found before n w rest earlier small writable in
    coherent_clean sources w h read numbers writable (transcript before n (dump_lines w) rest) t.0 t.1 t.2
