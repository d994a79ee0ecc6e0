-- A list of cells that grows by what its cells reach, one after the other.
use Rattle.std.proofs.Common.{get_or-take, length-append, length-take-le, false, ◌&&◌, not, ◌≡◌, refl, sym, ◌∙◌, ap, subst, arith, ℕ, zero, suc, ◌+◌, ◌≤◌, ◌<◌, ◌⊎◌, inl, inr, Bool, true, ◌||◌, List, [], ◌∷◌, ◌++◌, length, take, get_or, true≢false, append_assoc, append-nil, take_all}
use Rattle.std.specs.Prelude.{◌==◌}
use Rattle.std.proofs.lemmas.Bool.{false≢true, or_cases, or_left, or_right, eqb-true, eq-eqb}
use Rattle.std.proofs.lemmas.List.{get_or_append_left, take-append-le}
use Rattle.std.proofs.lemmas.List.Folds.{list_any_at, list_any_more}
use Rattle.cell_num.specs.declared.ids.CellId.{CellId}
use Rattle.cell_hold.specs.Adds.{Adds, Spreads, has_cell, has_or_full}
use Rattle.cell_hold.proofs.Adding.{full_more, in_room}

taken_more : (n m : ℕ) (cells : List CellId) (a : ℕ) → n ≤ m → has_cell (take n cells) a ≡ true → has_cell (take m cells) a ≡ true
taken_more zero m cells a le h = absurd (true≢false (sym h))
taken_more (suc n) zero cells a le h = absurd (omega (arith, le))
taken_more (suc n) (suc m) [] a le h = h
taken_more (suc n) (suc m) (x ∷ cells) a le h = go (or_cases (x.0 == a) (has_cell (take n cells) a) h) (taken_more n m cells a (omega (arith, le)))
  where
    go : ((x.0 == a) ≡ true) ⊎ (has_cell (take n cells) a ≡ true) → (has_cell (take n cells) a ≡ true → has_cell (take m cells) a ≡ true) → (x.0 == a || has_cell (take m cells) a) ≡ true
    go (inl k) f = or_left (x.0 == a) (has_cell (take m cells) a) k
    go (inr k) f = or_right (x.0 == a) (has_cell (take m cells) a) (f k)

module _ (may must : ℕ → ℕ → Bool) (room : ℕ) (old : List CellId) where
  pub spread_begun : Spreads may must room 0 old old
  spread_begun = record { more = []; is = sym (append-nil old); once = λ o. o; only = λ p g f c h. f c h; has = λ a b h r. absurd (true≢false (sym h)) }

  spread_one : (t : ℕ → Bool) (done : ℕ) (mid new : List CellId) (cell : CellId) → done < length mid → cell ≡ get_or mid done cell → ((c : ℕ) → t c ≡ true → may cell.0 c ≡ true) → ((c : ℕ) → must cell.0 c ≡ true → t c ≡ true)
      → Spreads may must room done old mid → Adds t room mid new → Spreads may must room (done + 1) old new
  spread_one t done mid new cell lt at allowed asked s a =
      record {
        more = s.more ++ a.more;
        is = a.is ∙ (ap (λ xs. xs ++ a.more) s.is ∙ append_assoc old s.more a.more);
        once = λ o. a.once (s.once o);
        only = only_more;
        has = λ x y h r. has_more x y (or_cases (has_cell (take done mid) x) ((get_or mid done cell).0 == x) (taken x h)) r;
      }
    where
      there : has_cell mid cell.0 ≡ true
      there = list_any_at (λ (x : CellId). x.0 == cell.0) mid done cell lt (eq-eqb (get_or mid done cell).0 cell.0 (ap (λ (x : CellId). x.0) (sym at)))

      only_more : (p : ℕ → Bool) → ((a b : ℕ) → p a ≡ true → may a b ≡ true → p b ≡ true) → ((c : ℕ) → has_cell old c ≡ true → p c ≡ true) → (c : ℕ) → has_cell new c ≡ true → p c ≡ true
      only_more p g f c h = go (or_cases (has_cell mid c) (t c) (a.only c h))
        where
          go : (has_cell mid c ≡ true) ⊎ (t c ≡ true) → p c ≡ true
          go (inl k) = s.only p g f c k
          go (inr k) = g cell.0 c (s.only p g f cell.0 there) (allowed c k)

      taken : (x : ℕ) → has_cell (take (done + 1) new) x ≡ true → (has_cell (take done mid) x || ((get_or mid done cell).0 == x)) ≡ true
      taken x h =
          sym (list_any_more (λ (y : CellId). y.0 == x) mid done cell lt)
          ∙ (ap (λ xs. has_cell xs x) (sym (take-append-le (done + 1) mid a.more (omega (arith, lt))) ∙ ap (λ xs. take (done + 1) xs) (sym a.is)) ∙ h)

      has_more : (x y : ℕ) → (has_cell (take done mid) x ≡ true) ⊎ (((get_or mid done cell).0 == x) ≡ true) → must x y ≡ true → has_or_full new room y ≡ true
      has_more x y (inl k) r = subst (λ xs. has_or_full xs room y ≡ true) (sym a.is) (full_more mid a.more room y (s.has x y k r))
      has_more x y (inr k) r =
          let e : cell.0 ≡ x = ap (λ (z : CellId). z.0) at ∙ eqb-true (get_or mid done cell).0 x k in
          a.has y (asked y (subst (λ n. must n y ≡ true) (sym e) r))

  pub spread_more : (t : ℕ → Bool) (now done : ℕ) (mid new : List CellId) (cell : CellId) → done < length mid → cell ≡ get_or mid done cell → now ≡ room → ((c : ℕ) → t c ≡ true → may cell.0 c ≡ true) → ((c : ℕ) → must cell.0 c ≡ true → t c ≡ true)
      → Spreads may must room done old mid → Adds t now mid new → Spreads may must room (done + 1) old new
  spread_more t now done mid new cell lt at e allowed asked s b = spread_one t done mid new cell lt at allowed asked s (in_room t now room mid new e b)

  -- all cells have had their turn
  pub spread_done : (done : ℕ) (new : List CellId) → (length new ≤ done) ⊎ (room ≤ done) → Spreads may must room done old new → Spreads may must room room old new
  spread_done done new e s = record { more = s.more; is = s.is; once = s.once; only = s.only; has = λ a b h r. s.has a b (within a h e) r }
    where
      all_of : (a n : ℕ) → has_cell (take n new) a ≡ true → has_cell new a ≡ true
      all_of a n h = subst (λ xs. has_cell xs a ≡ true) (take_all (n + length new) new (omega arith)) (taken_more n (n + length new) new a (omega arith) h)

      within : (a : ℕ) → has_cell (take room new) a ≡ true → (length new ≤ done) ⊎ (room ≤ done) → has_cell (take done new) a ≡ true
      within a h (inl k) = subst (λ xs. has_cell xs a ≡ true) (sym (take_all done new k)) (all_of a room h)
      within a h (inr k) = taken_more room done new a k h

-- a cell at one of the first places is among the first
pub known_there : (old mid more : List CellId) (known done : ℕ) (cell : CellId) → mid ≡ old ++ more → known ≤ length old → done < known → cell ≡ get_or mid done cell → has_cell (take known old) cell.0 ≡ true
known_there old mid more known done cell is few lt at =
    list_any_at (λ (x : CellId). x.0 == cell.0) (take known old) done cell (omega (arith, lt, length-take-le known old few))
    (eq-eqb (get_or (take known old) done cell).0 cell.0 (ap (λ (x : CellId). x.0) same))
  where
    same : get_or (take known old) done cell ≡ cell
    same = get_or-take known old done cell lt ∙ (sym (get_or_append_left old more cell done (omega (arith, lt, few))) ∙ (ap (λ xs. get_or xs done cell) (sym is) ∙ sym at))

-- the first cells are those that were there before
pub first_of : (old held used more further : List CellId) (n : ℕ) → n ≡ length old → held ≡ old ++ more → used ≡ held ++ further → take n used ≡ old
first_of old held used more further n e a b =
    ap (take n) (b ∙ ap (λ xs. xs ++ further) a)
    ∙ (take-append-le n (old ++ more) further (omega (arith, e, length-append old more)) ∙ (take-append-le n old more (omega (arith, e)) ∙ take_all n old (omega (arith, e))))

-- whether links are known or not, what is added is allowed
pub any_known : (known link word : Bool) → (not known && link || word) ≡ true → (link || word) ≡ true
any_known true link word h = or_right link word h
any_known false link word h = h

-- and what is asked is added, where the known ones are among the first
pub must_known : (known first link word : Bool) → (known ≡ true → first ≡ true) → (not first && link || word) ≡ true → (not known && link || word) ≡ true
must_known true true link word f h = h
must_known true false link word f h = absurd (false≢true (f refl))
must_known false true link word f h = or_right link word h
must_known false false link word f h = h
