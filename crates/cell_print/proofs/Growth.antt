-- Text that grows at its end.
use Rattle.std.proofs.Common.{◌≡◌, ℕ, suc, ◌+◌, ◌-◌, ◌/◌, ◌%◌, ◌^◌, ◌<◌, ◌≤◌, List, [], ◌∷◌, ◌++◌, length, take, drop, sym, ap, ◌∙◌, arith, append_assoc, append-nil, length-drop, map, get_or, ◌⊎◌, inl, inr}
use Rattle.std.specs.Prelude.{min}
use Rattle.std.specs.List.{concat}
use Rattle.std.proofs.lemmas.Bool.{cases_lt}
use Rattle.std.proofs.lemmas.List.{take_min, drop_all, take_more, map-append}
use Rattle.std.proofs.lemmas.List.Folds.{concat-append}
use Rattle.cell_print.specs.declared.piece.Piece.{Piece}
use Rattle.cell_print.specs.Pieces.{text}
use Rattle.cell_print.specs.Lines.{Extends, row, rows, rows_within}

pub extends : (old new more : List ℕ) → new ≡ old ++ more → Extends old new
extends old new more e = record { more = more; is = e }

pub extends_self : (old : List ℕ) → Extends old old
extends_self old = record { more = []; is = sym (append-nil old) }

pub extends_more : (old mid new more : List ℕ) → Extends old mid → new ≡ mid ++ more → Extends old new
extends_more old mid new more far e = record { more = far.more ++ more; is = e ∙ ap (λ v. v ++ more) far.is ∙ append_assoc old far.more more }

pub extends_on : (old mid new : List ℕ) → Extends old mid → Extends mid new → Extends old new
extends_on old mid new far e = extends_more old mid new e.more far e.is

pub count_step : (n : ℕ) → 0 < n → (n + 15) / 16 ≡ suc ((n - 16 + 15) / 16)
count_step n h = omega arith

-- a row of the first sixteen, and the rows of the rest
pub rows_step : (addr : ℕ) (bytes : List ℕ) → 0 < length bytes → rows addr bytes ≡ row addr (take 16 bytes) ++ rows ((addr + 16) % 2 ^ 64) (drop 16 bytes)
unfolding rows
rows_step addr bytes h =
    ap (λ n. rows_within n addr bytes) (count_step (length bytes) h)
    ∙ ap (λ n. row addr (take 16 bytes) ++ rows_within ((n + 15) / 16) ((addr + 16) % 2 ^ 64) (drop 16 bytes)) (sym (length-drop 16 bytes))

pub rows_end : (addr : ℕ) (bytes : List ℕ) → length bytes ≡ 0 → rows addr bytes ≡ []
unfolding rows
rows_end addr bytes h = ap (λ n. rows_within ((n + 15) / 16) addr bytes) h

-- the text so far and the rows of what is left are the whole, one row later
pub one_row : (text new whole said : List ℕ) (addr : ℕ) (rest front later : List ℕ) → 0 < length rest → front ≡ take 16 rest → later ≡ drop 16 rest → said ≡ row addr front → new ≡ text ++ said
    → text ++ rows addr rest ≡ whole → new ++ rows ((addr + 16) % 2 ^ 64) later ≡ whole
one_row text new whole said addr rest front later some f l s n far =
    ap (λ v. v ++ rows ((addr + 16) % 2 ^ 64) later) n
    ∙ append_assoc text said (rows ((addr + 16) % 2 ^ 64) later)
    ∙ ap (λ v. text ++ (v ++ rows ((addr + 16) % 2 ^ 64) later)) (s ∙ ap (row addr) f)
    ∙ ap (λ v. text ++ (row addr (take 16 rest) ++ rows ((addr + 16) % 2 ^ 64) v)) l
    ∙ ap (λ v. text ++ v) (sym (rows_step addr rest some))
    ∙ far

pub take_front : (n : ℕ) (xs : List ℕ) → take (min (length xs) n) xs ≡ take n xs
take_front n xs = let e : min (length xs) n ≡ min n (length xs) = omega arith in ap (λ k. take k xs) e ∙ take_min n xs

drop_by : (n : ℕ) (xs : List ℕ) → (n < length xs) ⊎ (length xs ≤ n) → drop (min (length xs) n) xs ≡ drop n xs
drop_by n xs (inl lt) = let e : min (length xs) n ≡ n = omega arith in ap (λ k. drop k xs) e
drop_by n xs (inr le) = drop_all (min (length xs) n) xs (omega arith) ∙ sym (drop_all n xs le)

pub drop_front : (n : ℕ) (xs : List ℕ) → drop (min (length xs) n) xs ≡ drop n xs
drop_front n xs = drop_by n xs (cases_lt n (length xs))

pub pieces_more : (old now new : List ℕ) (pieces : List Piece) (i : ℕ) (d : Piece) → i < length pieces → now ≡ old ++ concat (map text (take i pieces))
    → new ≡ now ++ text (get_or pieces i d) → new ≡ old ++ concat (map text (take (i + 1) pieces))
pieces_more old now new pieces i d lt far e =
    let first : List (List ℕ) = map text (take i pieces) in
    let next : List ℕ = text (get_or pieces i d) in
    e ∙ ap (λ v. v ++ next) far
    ∙ append_assoc old (concat first) next
    ∙ ap (λ v. old ++ (concat first ++ v)) (sym (append-nil next))
    ∙ ap (λ v. old ++ v) (sym (concat-append first (next ∷ [])))
    ∙ ap (λ v. old ++ concat v) (sym (map-append text (take i pieces) (get_or pieces i d ∷ [])))
    ∙ ap (λ v. old ++ concat (map text v)) (sym (take_more pieces i d lt))
