-- The tasks of numbers and keys: what a look-up, a new task, a change and a removal make of them.
use Rattle.std.proofs.Common.{◌≡◌, ◌≢◌, refl, sym, ap, subst, ◌∙◌, inl, inr, arith, ℕ, zero, suc, ◌+◌, ◌<◌, ◌≤◌, true, cond, not, List, [], ◌∷◌, ◌++◌, length, get_or, map, filter, Option, Some, None, is_some}
use Rattle.std.specs.Prelude.{◌==◌, Result, MatchResult, Ok, Err, IfNone}
use Rattle.std.specs.Result.{result_ok}
use Rattle.std.specs.Ordering.{nat_cmp}
use Rattle.std.specs.List.Sorted.{IsBinarySearchResult}
use Rattle.std.proofs.lemmas.List.Sorted.{searched}
use Rattle.std.specs.List.{find, remove}
use Rattle.std.proofs.lemmas.Bool.{eq-eqb, ne_eqb, false≢true, cases_eq, cases_lt}
use Rattle.cell_world.specs.World.{Task}
use Rattle.cell_world.specs.Running.Turn.{with_task}
use Rattle.cell_task.specs.declared.task.Task.{Task as LiveTask}
use Rattle.cell_task.specs.Inside.{tasks_at, IsOther, HasValues}
use Rattle.cell_task.specs.Numbers.{IsRising, Lacks}
use Rattle.cell_task.specs.State.{seen_as}

rising_low : (low : ℕ) (ns : List ℕ) (high i : ℕ) → IsRising low ns high → i < length ns → low ≤ get_or ns i 0
rising_low low [] high i h lt = absurd (omega arith)
rising_low low (n ∷ ns) high zero h lt = h.0
rising_low low (n ∷ ns) high (suc i) h lt = omega (arith, h.0, rising_low (suc n) ns high i h.1 (omega arith))

pub rising_orders : (low : ℕ) (ns : List ℕ) (high i j : ℕ) → IsRising low ns high → i ≤ j → j < length ns → get_or ns i 0 ≤ get_or ns j 0
rising_orders low [] high i j h le lt = absurd (omega arith)
rising_orders low (n ∷ ns) high zero zero h le lt = omega arith
rising_orders low (n ∷ ns) high zero (suc j) h le lt = omega (arith, rising_low (suc n) ns high j h.1 (omega arith))
rising_orders low (n ∷ ns) high (suc i) zero h le lt = absurd (omega arith)
rising_orders low (n ∷ ns) high (suc i) (suc j) h le lt = rising_orders (suc n) ns high i j h.1 (omega arith) (omega arith)

-- no place after the first has the first number
later_differs : (n : ℕ) (ns : List ℕ) (high i : ℕ) → IsRising (suc n) ns high → i < length ns → n ≢ get_or ns i 0
later_differs n ns high i h lt e = absurd (omega (arith, e, rising_low (suc n) ns high i h lt))

pub rising_high : (low : ℕ) (ns : List ℕ) (high : ℕ) → IsRising low ns high → low ≤ high
rising_high low [] high h = h
rising_high low (n ∷ ns) high h = omega (arith, h.0, rising_high (suc n) ns high h.1)

pub rising_pushed : (low : ℕ) (ns : List ℕ) (high : ℕ) → IsRising low ns high → IsRising low (ns ++ high ∷ []) (high + 1)
rising_pushed low [] high h = (h, omega arith)
rising_pushed low (n ∷ ns) high h = (h.0, rising_pushed (suc n) ns high h.1)

rising_lower : (low lower : ℕ) (ns : List ℕ) (high : ℕ) → lower ≤ low → IsRising low ns high → IsRising lower ns high
rising_lower low lower [] high le h = omega (arith, h)
rising_lower low lower (n ∷ ns) high le h = (omega (arith, h.0), h.1)

pub rising_removed : (low : ℕ) (ns : List ℕ) (high i : ℕ) → IsRising low ns high → IsRising low (remove ns i) high
rising_removed low [] high zero h = h
rising_removed low [] high (suc i) h = h
rising_removed low (n ∷ ns) high zero h = rising_lower (suc n) low ns high (omega (arith, h.0)) h.1
rising_removed low (n ∷ ns) high (suc i) h = (h.0, rising_removed (suc n) ns high i h.1)

-- a search that finds nothing
pub absent_in : (low : ℕ) (ns : List ℕ) (high x : ℕ) (r : Result ℕ ℕ) (o : Option ℕ) → IsRising low ns high → IsBinarySearchResult (λ y. nat_cmp y x) ns r
    → o ≡ result_ok r → IfNone o (Lacks ns x)
absent_in low ns high x r o rise found e = rw e (go r (searched ns x r found (λ i j le lt. rising_orders low ns high i j rise le lt)))
  where
    go : (r : Result ℕ ℕ)
        → MatchResult r (λ i. (i < length ns) × (get_or ns i 0 ≡ x)) (λ i. (i ≤ length ns) × ((k : ℕ) → k < i → get_or ns k 0 < x) × ((k : ℕ) → i ≤ k → k < length ns → x < get_or ns k 0))
        → IfNone (result_ok r) (Lacks ns x)
    go (Ok i) s = tt
    go (Err i) s = λ place lt same.
        elim (cases_lt place i) [
          | inl below ↦ absurd (omega (arith, s.1 place below, same))
          | inr above ↦ absurd (omega (arith, s.2 place above lt, same))
        ]

-- the value of a key that has one
pub value_of : (o : Option LiveTask) → is_some o ≡ true → (t : LiveTask) × (o ≡ Some t)
value_of None e = absurd cc
value_of (Some t) e = (t, refl)

module _ (at : ℕ → Option LiveTask) where
  pub value_at : (ks : List ℕ) (i : ℕ) → HasValues at ks → i < length ks → is_some (at (get_or ks i 0)) ≡ true
  value_at [] i h lt = absurd (omega arith)
  value_at (k ∷ ks) zero h lt = h.0
  value_at (k ∷ ks) (suc i) h lt = value_at ks i h.2 (omega arith)

  -- the first task of the list
  abbrev tasks_from : Option LiveTask → ℕ → List ℕ → List ℕ → List Task
  tasks_from o n ns ks = elim o [ None ↦ tasks_at at ns ks | Some t ↦ seen_as n t ∷ tasks_at at ns ks ]

  tasks_more : (n : ℕ) (ns : List ℕ) (k : ℕ) (ks : List ℕ) (t : LiveTask) → at k ≡ Some t → tasks_at at (n ∷ ns) (k ∷ ks) ≡ seen_as n t ∷ tasks_at at ns ks
  tasks_more n ns k ks t e = ap (λ o. tasks_from o n ns ks) e

  pub numbers_of : (ns ks : List ℕ) → length ks ≡ length ns → HasValues at ks → map (λ t. t.number) (tasks_at at ns ks) ≡ ns
  numbers_of [] ks e h = refl
  numbers_of (n ∷ ns) [] e h = absurd (omega (arith, e))
  numbers_of (n ∷ ns) (k ∷ ks) e h =
      let v = value_of (at k) h.0 in
      ap (map (λ t. t.number)) (tasks_more n ns k ks v.0 v.1) ∙ ap (λ xs. n ∷ xs) (numbers_of ns ks (omega (arith, e)) h.2)

  pub found_at : (low : ℕ) (ns ks : List ℕ) (high i : ℕ) (t : LiveTask) → IsRising low ns high → length ks ≡ length ns → HasValues at ks → i < length ns
      → at (get_or ks i 0) ≡ Some t → find (λ u. u.number == get_or ns i 0) (tasks_at at ns ks) ≡ Some (seen_as (get_or ns i 0) t)
  found_at low [] ks high i t r e h lt here = absurd (omega arith)
  found_at low (n ∷ ns) [] high i t r e h lt here = absurd (omega (arith, e))
  found_at low (n ∷ ns) (k ∷ ks) high zero t r e h lt here =
      ap (find (λ u. u.number == n)) (tasks_more n ns k ks t here)
      ∙ ap (λ b. cond b (Some (seen_as n t)) (find (λ u. u.number == n) (tasks_at at ns ks))) (eq-eqb n n refl)
  found_at low (n ∷ ns) (k ∷ ks) high (suc i) t r e h lt here =
      let v = value_of (at k) h.0 in
      let m : ℕ = get_or ns i 0 in
      ap (find (λ u. u.number == m)) (tasks_more n ns k ks v.0 v.1)
      ∙ ap (λ b. cond b (Some (seen_as n v.0)) (find (λ u. u.number == m) (tasks_at at ns ks))) (ne_eqb n m (later_differs n ns high i r.1 (omega arith)))
      ∙ found_at (suc n) ns ks high i t r.1 (omega (arith, e)) h.2 (omega arith) here

  pub unfound_at : (ns ks : List ℕ) (n : ℕ) → length ks ≡ length ns → HasValues at ks → Lacks ns n → find (λ u. u.number == n) (tasks_at at ns ks) ≡ None
  unfound_at [] ks n e h lacks = refl
  unfound_at (m ∷ ns) [] n e h lacks = absurd (omega (arith, e))
  unfound_at (m ∷ ns) (k ∷ ks) n e h lacks =
      let v = value_of (at k) h.0 in
      ap (find (λ u. u.number == n)) (tasks_more m ns k ks v.0 v.1)
      ∙ ap (λ b. cond b (Some (seen_as m v.0)) (find (λ u. u.number == n) (tasks_at at ns ks))) (ne_eqb m n (lacks 0 (omega arith)))
      ∙ unfound_at ns ks n (omega (arith, e)) h.2 (λ place lt. lacks (suc place) (omega arith))

-- two look-ups that agree on the keys
module _ (at new : ℕ → Option LiveTask) (key : ℕ) (others : (other : ℕ) → other ≢ key → new other ≡ at other) where
  same_tasks : (ns ks : List ℕ) → IsOther key ks → tasks_at new ns ks ≡ tasks_at at ns ks
  same_tasks [] ks o = refl
  same_tasks (n ∷ ns) [] o = refl
  same_tasks (n ∷ ns) (k ∷ ks) o =
      ap (λ x. tasks_from new x n ns ks) (others k o.0) ∙ go (at k) (same_tasks ns ks o.1)
    where
      go : (x : Option LiveTask) → tasks_at new ns ks ≡ tasks_at at ns ks → tasks_from new x n ns ks ≡ tasks_from at x n ns ks
      go None rest = rest
      go (Some t) rest = ap (λ xs. seen_as n t ∷ xs) rest

  same_values : (ks : List ℕ) → IsOther key ks → HasValues at ks → HasValues new ks
  same_values [] o h = tt
  same_values (k ∷ ks) o h = (ap is_some (others k o.0) ∙ h.0, h.1, same_values ks o.1 h.2)

  -- a key without a value is no key of a task
  pub fresh : (ks : List ℕ) → at key ≡ None → HasValues at ks → IsOther key ks
  fresh [] none h = tt
  fresh (k ∷ ks) none h = (λ e. false≢true (sym (ap (λ x. is_some (at x)) e ∙ ap is_some none) ∙ h.0), fresh ks none h.2)

  pub pushed_values : (ks : List ℕ) → IsOther key ks → is_some (new key) ≡ true → HasValues at ks → HasValues new (ks ++ key ∷ [])
  pushed_values [] o some h = (some, tt, tt)
  pushed_values (k ∷ ks) o some h = (ap is_some (others k o.0) ∙ h.0, other_pushed ks h.1, pushed_values ks o.1 some h.2)
    where
      other_pushed : (js : List ℕ) → IsOther k js → IsOther k (js ++ key ∷ [])
      other_pushed [] p = (λ e. o.0 (sym e), tt)
      other_pushed (j ∷ js) p = (p.0, other_pushed js p.1)

  pub pushed_tasks : (ns ks : List ℕ) (n : ℕ) (t : LiveTask) → length ks ≡ length ns → IsOther key ks → new key ≡ Some t
      → tasks_at new (ns ++ n ∷ []) (ks ++ key ∷ []) ≡ tasks_at at ns ks ++ seen_as n t ∷ []
  pushed_tasks [] [] n t e o some = tasks_more new n [] key [] t some
  pushed_tasks [] (k ∷ ks) n t e o some = absurd (omega (arith, e))
  pushed_tasks (m ∷ ns) [] n t e o some = absurd (omega (arith, e))
  pushed_tasks (m ∷ ns) (k ∷ ks) n t e o some =
      ap (λ x. tasks_from new x m (ns ++ n ∷ []) (ks ++ key ∷ [])) (others k o.0) ∙ go (at k) (pushed_tasks ns ks n t (omega (arith, e)) o.1 some)
    where
      go : (x : Option LiveTask) → tasks_at new (ns ++ n ∷ []) (ks ++ key ∷ []) ≡ tasks_at at ns ks ++ seen_as n t ∷ []
          → tasks_from new x m (ns ++ n ∷ []) (ks ++ key ∷ []) ≡ tasks_from at x m ns ks ++ seen_as n t ∷ []
      go None rest = rest
      go (Some u) rest = ap (λ xs. seen_as m u ∷ xs) rest

  other_at : (k : ℕ) (ks : List ℕ) (i : ℕ) → IsOther k ks → i < length ks → get_or ks i 0 ≢ k
  other_at k [] i o lt e = absurd (omega arith)
  other_at k (j ∷ ks) zero o lt e = o.0 e
  other_at k (j ∷ ks) (suc i) o lt e = other_at k ks i o.1 (omega arith) e

  other_removed : (k : ℕ) (ks : List ℕ) (i : ℕ) → IsOther k ks → IsOther k (remove ks i)
  other_removed k [] zero o = o
  other_removed k [] (suc i) o = o
  other_removed k (j ∷ ks) zero o = o.1
  other_removed k (j ∷ ks) (suc i) o = (o.0, other_removed k ks i o.1)

  pub changed_values : (ks : List ℕ) → is_some (new key) ≡ true → HasValues at ks → HasValues new ks
  changed_values [] some h = tt
  changed_values (k ∷ ks) some h = (
    elim (cases_eq k key) [ inl same ↦ ap (λ x. is_some (new x)) same ∙ some | inr differs ↦ ap is_some (others k differs) ∙ h.0 ],
    h.1,
    changed_values ks some h.2,
  )

  pub removed_values : (ks : List ℕ) (i : ℕ) → i < length ks → get_or ks i 0 ≡ key → HasValues at ks → HasValues new (remove ks i)
  removed_values [] i lt e h = absurd (omega arith)
  removed_values (k ∷ ks) zero lt e h = same_values ks (subst (λ x. IsOther x ks) e h.1) h.2
  removed_values (k ∷ ks) (suc i) lt e h = (
    ap is_some (others k (λ same. other_at k ks i h.1 (omega arith) (e ∙ sym same))) ∙ h.0,
    other_removed k ks i h.1,
    removed_values ks i (omega arith) e h.2,
  )

  -- tasks of higher numbers
  kept_above : (n : ℕ) (u : Task) (low : ℕ) (ns ks : List ℕ) (high : ℕ) → u.number ≡ n → n < low → IsRising low ns high → with_task u (tasks_at at ns ks) ≡ tasks_at at ns ks
  kept_above n u low [] ks high e lt r = refl
  kept_above n u low (m ∷ ns) [] high e lt r = refl
  kept_above n u low (m ∷ ns) (k ∷ ks) high e lt r = go (at k) (kept_above n u (suc m) ns ks high e (omega (arith, r.0)) r.1)
    where
      go : (x : Option LiveTask) → with_task u (tasks_at at ns ks) ≡ tasks_at at ns ks → with_task u (tasks_from at x m ns ks) ≡ tasks_from at x m ns ks
      go None rest = rest
      go (Some t) rest =
          ap (λ b. cond b u (seen_as m t) ∷ with_task u (tasks_at at ns ks)) (ne_eqb m u.number (λ same. absurd (omega (arith, same, e, r.0))))
          ∙ ap (λ xs. seen_as m t ∷ xs) rest

  stays_above : (n low : ℕ) (ns ks : List ℕ) (high : ℕ) → n < low → IsRising low ns high → filter (λ u. not (u.number == n)) (tasks_at at ns ks) ≡ tasks_at at ns ks
  stays_above n low [] ks high lt r = refl
  stays_above n low (m ∷ ns) [] high lt r = refl
  stays_above n low (m ∷ ns) (k ∷ ks) high lt r = go (at k) (stays_above n (suc m) ns ks high (omega (arith, r.0)) r.1)
    where
      go : (x : Option LiveTask) → filter (λ u. not (u.number == n)) (tasks_at at ns ks) ≡ tasks_at at ns ks → filter (λ u. not (u.number == n)) (tasks_from at x m ns ks) ≡ tasks_from at x m ns ks
      go None rest = rest
      go (Some t) rest =
          ap (λ b. cond (not b) (seen_as m t ∷ filter (λ u. not (u.number == n)) (tasks_at at ns ks)) (filter (λ u. not (u.number == n)) (tasks_at at ns ks))) (ne_eqb m n (λ same. absurd (omega (arith, same, r.0))))
          ∙ ap (λ xs. seen_as m t ∷ xs) rest

  pub changed_tasks : (low : ℕ) (ns ks : List ℕ) (high i : ℕ) (t : LiveTask) → IsRising low ns high → length ks ≡ length ns → HasValues at ks → i < length ns
      → get_or ks i 0 ≡ key → new key ≡ Some t → tasks_at new ns ks ≡ with_task (seen_as (get_or ns i 0) t) (tasks_at at ns ks)
  changed_tasks low [] ks high i t r e h lt here some = absurd (omega arith)
  changed_tasks low (n ∷ ns) [] high i t r e h lt here some = absurd (omega (arith, e))
  changed_tasks low (n ∷ ns) (k ∷ ks) high zero t r e h lt here some =
      let v = value_of (at k) h.0 in
      tasks_more new n ns k ks t (ap new here ∙ some)
      ∙ ap (λ xs. seen_as n t ∷ xs) (same_tasks ns ks (subst (λ x. IsOther x ks) here h.1) ∙ sym (kept_above n (seen_as n t) (suc n) ns ks high refl (omega arith) r.1))
      ∙ sym (ap (with_task (seen_as n t)) (tasks_more at n ns k ks v.0 v.1) ∙ ap (λ b. cond b (seen_as n t) (seen_as n v.0) ∷ with_task (seen_as n t) (tasks_at at ns ks)) (eq-eqb n n refl))
  changed_tasks low (n ∷ ns) (k ∷ ks) high (suc i) t r e h lt here some =
      let v = value_of (at k) h.0 in
      let u : Task = seen_as (get_or ns i 0) t in
      tasks_more new n ns k ks v.0 (others k (λ same. other_at k ks i h.1 (omega (arith, e)) (here ∙ sym same)) ∙ v.1)
      ∙ ap (λ xs. seen_as n v.0 ∷ xs) (changed_tasks (suc n) ns ks high i t r.1 (omega (arith, e)) h.2 (omega arith) here some)
      ∙ sym (ap (with_task u) (tasks_more at n ns k ks v.0 v.1) ∙ ap (λ b. cond b u (seen_as n v.0) ∷ with_task u (tasks_at at ns ks)) (ne_eqb n (get_or ns i 0) (later_differs n ns high i r.1 (omega arith))))

  pub removed_tasks : (low : ℕ) (ns ks : List ℕ) (high i : ℕ) → IsRising low ns high → length ks ≡ length ns → HasValues at ks → i < length ns → get_or ks i 0 ≡ key
      → tasks_at new (remove ns i) (remove ks i) ≡ filter (λ u. not (u.number == get_or ns i 0)) (tasks_at at ns ks)
  removed_tasks low [] ks high i r e h lt here = absurd (omega arith)
  removed_tasks low (n ∷ ns) [] high i r e h lt here = absurd (omega (arith, e))
  removed_tasks low (n ∷ ns) (k ∷ ks) high zero r e h lt here =
      let v = value_of (at k) h.0 in
      same_tasks ns ks (subst (λ x. IsOther x ks) here h.1)
      ∙ sym (stays_above n (suc n) ns ks high (omega arith) r.1)
      ∙ sym (ap (filter (λ u. not (u.number == n))) (tasks_more at n ns k ks v.0 v.1)
      ∙ ap (λ b. cond (not b) (seen_as n v.0 ∷ filter (λ u. not (u.number == n)) (tasks_at at ns ks)) (filter (λ u. not (u.number == n)) (tasks_at at ns ks))) (eq-eqb n n refl))
  removed_tasks low (n ∷ ns) (k ∷ ks) high (suc i) r e h lt here =
      let v = value_of (at k) h.0 in
      let m : ℕ = get_or ns i 0 in
      tasks_more new n (remove ns i) k (remove ks i) v.0 (others k (λ same. other_at k ks i h.1 (omega (arith, e)) (here ∙ sym same)) ∙ v.1)
      ∙ ap (λ xs. seen_as n v.0 ∷ xs) (removed_tasks (suc n) ns ks high i r.1 (omega (arith, e)) h.2 (omega arith) here)
      ∙ sym (ap (filter (λ u. not (u.number == m))) (tasks_more at n ns k ks v.0 v.1)
      ∙ ap (λ b. cond (not b) (seen_as n v.0 ∷ filter (λ u. not (u.number == m)) (tasks_at at ns ks)) (filter (λ u. not (u.number == m)) (tasks_at at ns ks))) (ne_eqb n m (later_differs n ns high i r.1 (omega arith))))
