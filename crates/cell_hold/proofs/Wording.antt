-- Words in bytes, and the cells that they lie in.
use Rattle.std.proofs.Common.{◌≡◌, refl, sym, ◌∙◌, ap, subst, ℕ, ◌≤◌, ◌<◌, Bool, true, false, ◌||◌, List, [], ◌∷◌, ◌++◌, length, take, drop, append_assoc, append-nil}
use Rattle.std.specs.Prelude.{◌^◌, ◌&&◌, nat_lt}
use Rattle.std.proofs.lemmas.Bool.{and_from, lt-ltb}
use Rattle.std.proofs.lemmas.List.Folds.{list_all-append, list_any-append}
use Rattle.cell_num.specs.declared.ids.CellId.{CellId}
use Rattle.cell_num.specs.Bits.{little}
use Rattle.cell_world.specs.declared.state.Placed.{Placed}
use Rattle.cell_world.specs.Running.Words.{words_in}
use Rattle.cell_task.proofs.Wording.{words_first, words_none}
use Rattle.cell_hold.specs.Adds.{Adds}
use Rattle.cell_hold.specs.Places.{is_cells_at}
use Rattle.cell_hold.specs.Reached.{touches}
use Rattle.cell_hold.specs.Spans.{IsPast, IsSettled, is_within}
use Rattle.cell_hold.specs.declared.spots.Span.{Span}
use Rattle.cell_hold.proofs.Nearing.{settled_added}
use Rattle.cell_hold.proofs.Adding.{none_added, added_same, added_then, in_room}

-- the words before the rest have been gone over
pub record SoFar (places : List Placed) (room : ℕ) (bytes rest : List ℕ) (old new : List CellId) : Type 0 where
  pub done : List ℕ
  pub left : words_in bytes ≡ done ++ words_in rest
  pub added : Adds (touches places done) room old new

pub so_far_begun : (places : List Placed) (room : ℕ) (bytes : List ℕ) (old : List CellId) → SoFar places room bytes bytes old old
so_far_begun places room bytes old = record { done = []; left = refl; added = none_added (touches places []) room old (λ c. refl) }

or_false : (b : Bool) → (b || false) ≡ b
or_false true = refl
or_false false = refl

pub so_far_more : (places : List Placed) (now room : ℕ) (bytes rest next : List ℕ) (word : ℕ) (old mid new : List CellId) → 8 ≤ length rest → word ≡ little (take 8 rest) → next ≡ drop 8 rest → now ≡ room
    → SoFar places room bytes rest old mid → Adds (λ c. is_cells_at c word places) now mid new → SoFar places room bytes next old new
so_far_more places now room bytes rest next word old mid new le is after e s a =
    record {
      done = s.done ++ word ∷ [];
      left =
          s.left ∙ ap (λ xs. s.done ++ xs) (words_first rest le ∙ (ap (λ w. w ∷ words_in (drop 8 rest)) (sym is) ∙ ap (λ xs. word ∷ words_in xs) (sym after)))
          ∙ sym (append_assoc s.done (word ∷ []) (words_in next));
      added =
          added_same (λ c. touches places s.done c || is_cells_at c word places) (touches places (s.done ++ word ∷ [])) room old new same
          (added_then (touches places s.done) (λ c. is_cells_at c word places) room old mid new s.added (in_room (λ c. is_cells_at c word places) now room mid new e a));
    }
  where
    same : (c : ℕ) → (touches places s.done c || is_cells_at c word places) ≡ touches places (s.done ++ word ∷ []) c
    same c =
        ap (λ b. touches places s.done c || b) (sym (or_false (is_cells_at c word places)))
        ∙ sym (list_any-append (λ w. is_cells_at c w places) s.done (word ∷ []))

-- no word is passed yet
pub past_begun : (span : Span) (bytes : List ℕ) → IsPast span bytes bytes
past_begun span bytes = record { passed = []; are = refl; within = refl }

pub past_more : (span : Span) (bytes rest next : List ℕ) (word : ℕ) → 8 ≤ length rest → word ≡ little (take 8 rest) → word < 2 ^ 64 → is_within span word ≡ true → next ≡ drop 8 rest
    → IsPast span bytes rest → IsPast span bytes next
past_more span bytes rest next word le is fits within after p =
    record {
      passed = p.passed ++ word ∷ [];
      are =
          p.are ∙ ap (λ xs. p.passed ++ xs) (words_first rest le ∙ (ap (λ w. w ∷ words_in (drop 8 rest)) (sym is) ∙ ap (λ xs. word ∷ words_in xs) (sym after)))
          ∙ sym (append_assoc p.passed (word ∷ []) (words_in next));
      within =
          list_all-append (λ (w : ℕ). nat_lt w (2 ^ 64) && is_within span w) p.passed (word ∷ [])
          ∙ and_from _ _ p.within (and_from _ true (and_from (nat_lt word (2 ^ 64)) (is_within span word) (lt-ltb word (2 ^ 64) fits) within) refl);
    }

-- the words that were passed have been gone over too
pub so_far_past : (places : List Placed) (span : Span) (now room : ℕ) (bytes rest next : List ℕ) (old new : List CellId) → now ≡ room → IsSettled places span now new → IsPast span rest next → SoFar places room bytes rest old new → SoFar places room bytes next old new
so_far_past places span now room bytes rest next old new e settled p s =
    record {
      done = s.done ++ p.passed;
      left = s.left ∙ (ap (λ xs. s.done ++ xs) p.are ∙ sym (append_assoc s.done p.passed (words_in next)));
      added =
          added_same (λ c. touches places s.done c || touches places p.passed c) (touches places (s.done ++ p.passed)) room old new
          (λ c. sym (list_any-append (λ w. is_cells_at c w places) s.done p.passed))
          (added_then (touches places s.done) (touches places p.passed) room old new new s.added
          (in_room (touches places p.passed) now room new new e (settled_added places span p.passed now new p.within settled)));
    }

pub so_far_done : (places : List Placed) (room : ℕ) (bytes rest : List ℕ) (old new : List CellId) → length rest < 8 → SoFar places room bytes rest old new → Adds (touches places (words_in bytes)) room old new
so_far_done places room bytes rest old new lt s =
    subst (λ words. Adds (touches places words) room old new)
    (sym (s.left ∙ (ap (λ xs. s.done ++ xs) (words_none rest lt) ∙ append-nil s.done))) s.added

-- the word that the rest begins with doesn't lead there: the others decide
pub lead_more : (places : List Placed) (c : ℕ) (bytes rest next : List ℕ) (word : ℕ) → 8 ≤ length rest → word ≡ little (take 8 rest) → next ≡ drop 8 rest → is_cells_at c word places ≡ false
    → touches places (words_in bytes) c ≡ touches places (words_in rest) c → touches places (words_in bytes) c ≡ touches places (words_in next) c
lead_more places c bytes rest next word le is after apart e =
    e ∙ (ap (λ words. touches places words c) (words_first rest le)
    ∙ (ap (λ w. is_cells_at c w places || touches places (words_in (drop 8 rest)) c) (sym is)
    ∙ (ap (λ b. b || touches places (words_in (drop 8 rest)) c) apart ∙ ap (λ xs. touches places (words_in xs) c) (sym after))))

-- that word leads there
pub lead_found : (places : List Placed) (c : ℕ) (bytes rest : List ℕ) (word : ℕ) → 8 ≤ length rest → word ≡ little (take 8 rest) → is_cells_at c word places ≡ true
    → touches places (words_in bytes) c ≡ touches places (words_in rest) c → true ≡ touches places (words_in bytes) c
lead_found places c bytes rest word le is there e =
    sym (e ∙ (ap (λ words. touches places words c) (words_first rest le)
    ∙ (ap (λ w. is_cells_at c w places || touches places (words_in (drop 8 rest)) c) (sym is)
    ∙ ap (λ b. b || touches places (words_in (drop 8 rest)) c) there)))

-- no word is left
pub lead_none : (places : List Placed) (c : ℕ) (bytes rest : List ℕ) → length rest < 8 → touches places (words_in bytes) c ≡ touches places (words_in rest) c → false ≡ touches places (words_in bytes) c
lead_none places c bytes rest lt e = sym (e ∙ ap (λ words. touches places words c) (words_none rest lt))
