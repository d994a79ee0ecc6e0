-- Where a dump begins in a file, and where it ends.
use Rattle.std.proofs.Common.{◌≡◌, refl, sym, ◌∙◌, ap, subst, arith, ℕ, suc, ◌+◌, ◌<◌, Bool, true, false, cond, ◌&&◌, List, [], ◌∷◌, length, take, drop, length-take, Option, Some, None, option_map, not, zero, take_all, true≢false}
use Rattle.std.specs.Prelude.{bytes_eq, codes, is_some, nat_lt, option_and_then, position, ◌==◌}
use Rattle.std.specs.List.{join_with_byte, onto_first, position_or_len, prefix_len, slice_split}
use Rattle.std.proofs.lemmas.Bool.{lt-ltb, ltb-true}
use Rattle.std.proofs.lemmas.List.{drop-drop, drop-take, take-take}
use Rattle.std.proofs.lemmas.Slice.Eq.{bytes_eq-Decides}
use Rattle.std.proofs.lemmas.List.Splits.{join_with_byte-slice_split}
use Rattle.cell_num.specs.Lists.{numbered_from}
use Rattle.cell_text.specs.Text.{lines_in, onto}
use Rattle.cell_dumped.specs.Readings.{Word, number}
use Rattle.cell_dumped.proofs.Around.{found_at, split_at, split_whole}
use Rattle.cell_audit.specs.Dumps.{Text, behind_beginning, is_answer, texts_from, up_to_end}

onto_same : (b : ℕ) (parts : List Word) → onto b parts ≡ onto_first b parts
onto_same b [] = refl
onto_same b (part ∷ parts) = refl

-- lines are the parts between line feeds
pub lines_split : (text : Word) → lines_in text ≡ slice_split (λ b. b == 10) text
lines_split [] = refl
lines_split (b ∷ bs) = go (b == 10) (lines_in bs) (slice_split (λ b. b == 10) bs) (lines_split bs)
  where
    go : (t : Bool) (xs ys : List Word) → xs ≡ ys → cond t ([] ∷ xs) (onto b xs) ≡ cond t ([] ∷ ys) (onto_first b ys)
    go true xs ys e = ap (λ (zs : List Word). [] ∷ zs) e
    go false xs ys e = ap (onto b) e ∙ onto_same b ys

pub first_line : (text : Word) (k : ℕ) → position (λ b. b == 10) text ≡ Some k → lines_in text ≡ take k text ∷ lines_in (drop (k + 1) text)
first_line text k e =
    lines_split text ∙ (split_at (λ b. b == 10) text k e ∙ ap (λ (ls : List Word). take k text ∷ ls) (sym (lines_split (drop (k + 1) text))))

pub only_line : (text : Word) → position (λ b. b == 10) text ≡ None → lines_in text ≡ text ∷ []
only_line text e = lines_split text ∙ split_whole (λ b. b == 10) text e

-- ---- the beginning
pub no_space : (line : Word) → position (λ b. b == 32) line ≡ None → is_answer (slice_split (λ b. b == 32) line) ≡ false
no_space line e = ap is_answer (split_whole (λ b. b == 32) line e)

words_apart : (rest : Word) (n : Word) (words : List Word) → slice_split (λ b. b == 32) rest ≡ words → bytes_eq rest (codes "ok dumpall") ≡ false
    → is_answer (n ∷ words) ≡ false
words_apart rest n [] e f = refl
words_apart rest n (ok ∷ []) e f = refl
words_apart rest n (ok ∷ what ∷ more ∷ words) e f = refl
words_apart rest n (ok ∷ what ∷ []) e f = go (is_some (number n)) (bytes_eq ok (codes "ok")) (bytes_eq what (codes "dumpall")) refl refl
  where
    go : (a b c : Bool) → bytes_eq ok (codes "ok") ≡ b → bytes_eq what (codes "dumpall") ≡ c → (a && b && c) ≡ false
    go false b c x y = refl
    go true false c x y = refl
    go true true false x y = refl
    go true true true x y =
        let joined : join_with_byte 32 (ok ∷ what ∷ []) ≡ rest = ap (join_with_byte 32) (sym e) ∙ join_with_byte-slice_split 32 rest in
        let first : ok ≡ codes "ok" = (bytes_eq-Decides ok (codes "ok")).0 x in
        let second : what ≡ codes "dumpall" = (bytes_eq-Decides what (codes "dumpall")).0 y in
        let whole : rest ≡ codes "ok dumpall" = sym joined ∙ (ap (λ (w : Word). join_with_byte 32 (w ∷ what ∷ [])) first ∙ ap (λ (w : Word). join_with_byte 32 (codes "ok" ∷ w ∷ [])) second) in
        absurd (true≢false (sym ((bytes_eq-Decides rest (codes "ok dumpall")).1 whole) ∙ f))

pub answer_test : (line : Word) (k : ℕ) → position (λ b. b == 32) line ≡ Some k
    → is_answer (slice_split (λ b. b == 32) line) ≡ (bytes_eq (drop (k + 1) line) (codes "ok dumpall") && is_some (number (take k line)))
answer_test line k e = ap is_answer (split_at (λ b. b == 32) line k e) ∙ go (bytes_eq (drop (k + 1) line) (codes "ok dumpall")) refl
  where
    front : (b : Bool) → (b && true && true) ≡ (true && b)
    front true = refl
    front false = refl

    go : (t : Bool) → bytes_eq (drop (k + 1) line) (codes "ok dumpall") ≡ t
        → is_answer (take k line ∷ slice_split (λ b. b == 32) (drop (k + 1) line)) ≡ (t && is_some (number (take k line)))
    go true x =
        ap (λ (w : Word). is_answer (take k line ∷ slice_split (λ b. b == 32) w)) ((bytes_eq-Decides (drop (k + 1) line) (codes "ok dumpall")).0 x)
        ∙ front (is_some (number (take k line)))
    go false x = words_apart (drop (k + 1) line) (take k line) (slice_split (λ b. b == 32) (drop (k + 1) line)) refl x

pub add_one : (n : ℕ) → suc n ≡ n + 1
add_one n = omega arith

-- what is found of lines from a number on
abbrev pub found_in : ℕ → Word → Option (List Text)
found_in n text = option_and_then up_to_end (behind_beginning (numbered_from n (lines_in text)))

-- a line that begins no dump is passed over
pub passed : (n : ℕ) (text : Word) (k : ℕ) → position (λ b. b == 10) text ≡ Some k → is_answer (slice_split (λ b. b == 32) (take k text)) ≡ false
    → found_in n text ≡ found_in (n + 1) (drop (k + 1) text)
passed n text k e f =
    ap (λ (ls : List Word). option_and_then up_to_end (behind_beginning (numbered_from n ls))) (first_line text k e)
    ∙ (ap (λ (b : Bool). option_and_then up_to_end (cond b (Some (numbered_from (suc n) (lines_in (drop (k + 1) text)))) (behind_beginning (numbered_from (suc n) (lines_in (drop (k + 1) text)))))) f
    ∙ ap (λ (m : ℕ). found_in m (drop (k + 1) text)) (add_one n))

pub begun : (n : ℕ) (text : Word) (k : ℕ) → position (λ b. b == 10) text ≡ Some k → is_answer (slice_split (λ b. b == 32) (take k text)) ≡ true
    → found_in n text ≡ up_to_end (texts_from (n + 1) (drop (k + 1) text))
begun n text k e f =
    ap (λ (ls : List Word). option_and_then up_to_end (behind_beginning (numbered_from n ls))) (first_line text k e)
    ∙ (ap (λ (b : Bool). option_and_then up_to_end (cond b (Some (numbered_from (suc n) (lines_in (drop (k + 1) text)))) (behind_beginning (numbered_from (suc n) (lines_in (drop (k + 1) text)))))) f
    ∙ ap (λ (m : ℕ). up_to_end (texts_from m (drop (k + 1) text))) (add_one n))

-- nothing stands behind the last line
pub ended_there : (n : ℕ) (text : Word) → position (λ b. b == 10) text ≡ None → found_in n text ≡ None
ended_there n text e =
    ap (λ (ls : List Word). option_and_then up_to_end (behind_beginning (numbered_from n ls))) (only_line text e)
    ∙ go (is_answer (slice_split (λ b. b == 32) text))
  where
    go : (b : Bool) → option_and_then up_to_end (cond b (Some []) None) ≡ None
    go true = refl
    go false = refl

-- ---- the end
-- the lines up to the one that ends a dump are those before that place
abbrev pub IsEnd : Word → Option ℕ → Type 0
IsEnd text place = (first : ℕ) → option_map (λ end. numbered_from first (lines_in (take end text))) place ≡ up_to_end (numbered_from first (lines_in text))

prefix_taken : (q : ℕ → Bool) (m : ℕ) (xs : Word) → prefix_len q xs < m → prefix_len q (take m xs) ≡ prefix_len q xs
prefix_taken q zero xs h = absurd (omega (arith, h))
prefix_taken q (suc m) [] h = refl
prefix_taken q (suc m) (x ∷ xs) h = go (q x) h (λ k. prefix_taken q m xs k)
  where
    go : (b : Bool) → cond b (1 + prefix_len q xs) 0 < suc m → (prefix_len q xs < m → prefix_len q (take m xs) ≡ prefix_len q xs)
        → cond b (1 + prefix_len q (take m xs)) 0 ≡ cond b (1 + prefix_len q xs) 0
    go true h f = ap (λ (n : ℕ). 1 + n) (f (omega (arith, h)))
    go false h f = refl

position_taken : (p : ℕ → Bool) (xs : Word) (k m : ℕ) → position p xs ≡ Some k → k < m → position p (take m xs) ≡ Some k
position_taken p xs k m e h =
    let f = found_at (nat_lt (position_or_len p xs) (length xs)) (position_or_len p xs) k e in
    let inside = ltb-true (position_or_len p xs) (length xs) f.0 in
    let same = prefix_taken (λ x. not (p x)) m xs (subst (λ (n : ℕ). n < m) (sym f.1) h) in
    let size = length-take m xs in
    let test = lt-ltb (position_or_len p (take m xs)) (length (take m xs)) (omega (arith, same, size, inside, f.1, h)) in
    ap (λ (b : Bool). cond b (Some (position_or_len p (take m xs))) None) test ∙ ap Some (same ∙ f.1)

-- a line that is taken whole, and what is taken behind it
take_on : (text : Word) (k e : ℕ) → position (λ b. b == 10) text ≡ Some k → lines_in (take (k + 1 + e) text) ≡ take k text ∷ lines_in (take e (drop (k + 1) text))
take_on text k e h =
    first_line (take (k + 1 + e) text) k (position_taken (λ b. b == 10) text k (k + 1 + e) h (omega arith))
    ∙ (ap (λ (w : Word). w ∷ lines_in (drop (k + 1) (take (k + 1 + e) text))) (take-take k (k + 1 + e) text (omega arith))
    ∙ ap (λ (w : Word). take k text ∷ lines_in w) (drop-take (k + 1) e text))

another : (first : ℕ) (text : Word) (k : ℕ) → position (λ b. b == 10) text ≡ Some k → bytes_eq (take k text) (codes "  end") ≡ false
    → option_map (λ more. (first, take k text) ∷ more) (up_to_end (numbered_from (suc first) (lines_in (drop (k + 1) text)))) ≡ up_to_end (numbered_from first (lines_in text))
another first text k e f =
    sym (ap (λ (ls : List Word). up_to_end (numbered_from first ls)) (first_line text k e)
    ∙ ap (λ (b : Bool). cond b (Some ((first, take k text) ∷ [])) (option_map (λ more. (first, take k text) ∷ more) (up_to_end (numbered_from (suc first) (lines_in (drop (k + 1) text)))))) f)

end_later : (text : Word) (k : ℕ) → position (λ b. b == 10) text ≡ Some k → bytes_eq (take k text) (codes "  end") ≡ false → (place : Option ℕ) → IsEnd (drop (k + 1) text) place
    → IsEnd text (option_map (λ e. k + 1 + e) place)
end_later text k e f None h first = ap (option_map (λ more. (first, take k text) ∷ more)) (h (suc first)) ∙ another first text k e f
end_later text k e f (Some place) h first =
    ap (λ (ls : List Word). Some (numbered_from first ls)) (take_on text k place e)
    ∙ (ap (option_map (λ more. (first, take k text) ∷ more)) (h (suc first)) ∙ another first text k e f)

pub end_here : (text : Word) (k : ℕ) → position (λ b. b == 10) text ≡ Some k → bytes_eq (take k text) (codes "  end") ≡ true → IsEnd text (Some k)
end_here text k e f first =
    let same : take k text ≡ codes "  end" = (bytes_eq-Decides (take k text) (codes "  end")).0 f in
    ap (λ (w : Word). Some (numbered_from first (lines_in w))) same
    ∙ (ap (λ (w : Word). Some ((first, w) ∷ [])) (sym same)
    ∙ sym (ap (λ (ls : List Word). up_to_end (numbered_from first ls)) (first_line text k e)
    ∙ ap (λ (b : Bool). cond b (Some ((first, take k text) ∷ [])) (option_map (λ more. (first, take k text) ∷ more) (up_to_end (numbered_from (suc first) (lines_in (drop (k + 1) text)))))) f))

pub end_last : (text : Word) → position (λ b. b == 10) text ≡ None → bytes_eq text (codes "  end") ≡ true → IsEnd text (Some (length text))
end_last text e f first =
    ap (λ (w : Word). Some (numbered_from first (lines_in w))) (take_all (length text) text (omega arith))
    ∙ (ap (λ (ls : List Word). Some (numbered_from first ls)) (only_line text e)
    ∙ sym (ap (λ (ls : List Word). up_to_end (numbered_from first ls)) (only_line text e) ∙ ap (λ (b : Bool). cond b (Some ((first, text) ∷ [])) None) f))

pub no_end : (text : Word) → position (λ b. b == 10) text ≡ None → bytes_eq text (codes "  end") ≡ false → IsEnd text None
no_end text e f first = sym (ap (λ (ls : List Word). up_to_end (numbered_from first ls)) (only_line text e) ∙ ap (λ (b : Bool). cond b (Some ((first, text) ∷ [])) None) f)

-- the end behind so many bytes is the end of the whole
abbrev pub IsEndOn : Word → ℕ → Type 0
IsEndOn text start = (place : Option ℕ) → IsEnd (drop start text) place → IsEnd text (option_map (λ e. start + e) place)

pub end_on_zero : (text : Word) → IsEndOn text 0
end_on_zero text None h = h
end_on_zero text (Some e) h = subst (λ (n : ℕ). IsEnd text (Some n)) (omega arith) h

pub end_on_more : (text : Word) (start k : ℕ) → IsEndOn text start → position (λ b. b == 10) (drop start text) ≡ Some k → bytes_eq (take k (drop start text)) (codes "  end") ≡ false
    → IsEndOn text (start + (k + 1))
end_on_more text start k h e f place g =
    again place (h (option_map (λ e. k + 1 + e) place) (end_later (drop start text) k e f place (subst (λ (w : Word). IsEnd w place) (sym (drop-drop (k + 1) start text)) g)))
  where
    again : (o : Option ℕ) → IsEnd text (option_map (λ e. start + e) (option_map (λ e. k + 1 + e) o)) → IsEnd text (option_map (λ e. start + (k + 1) + e) o)
    again None g = g
    again (Some e) g = subst (λ (n : ℕ). IsEnd text (Some n)) (omega arith) g
