-- Cells that links of others lead into, section by section.
use Rattle.std.proofs.Common.{◌≡◌, refl, sym, ◌∙◌, ap, subst, ℕ, ◌+◌, ◌<◌, ◌≤◌, ◌⊎◌, inl, inr, Bool, true, false, ◌&&◌, ◌||◌, List, [], ◌∷◌, ◌++◌, length, take, get_or, append_assoc, append-nil, take_all, true≢false}
use Rattle.std.specs.Prelude.{◌==◌, nat_le}
use Rattle.std.specs.List.{list_any}
use Rattle.std.specs.List.Sorted.{IsPermutation}
use Rattle.std.proofs.lemmas.Bool.{and_parts, and_from, or_cases, or_left, eqb-true}
use Rattle.std.proofs.lemmas.List.Folds.{list_any_more}
use Rattle.std.proofs.lemmas.List.Sorted.{list_any-IsPermutation}
use Rattle.cell_num.specs.declared.ids.CellId.{CellId}
use Rattle.cell_num.specs.declared.ids.SecKey.{SecKey}
use Rattle.cell_num.specs.Lists.{In}
use Rattle.cell_num.proofs.Elements.{any-Has, any-In}
use Rattle.cell_graph.specs.Links.{is_same, links_to}
use Rattle.cell_world.specs.declared.state.LinkRow.{LinkRow}
use Rattle.cell_world.specs.declared.state.Placed.{Placed}
use Rattle.cell_hold.specs.Adds.{Adds, has_cell, has_or_full}
use Rattle.cell_hold.specs.Uses.{Uses, is_used_by}
use Rattle.cell_hold.proofs.Adding.{added_same, full_more, has_left, in_room, none_added, nothing_added}
use Rattle.cell_hold.proofs.Rows.{any_filtered}

-- what passes one test passes another
pub any_goes : {X : Type 0} (p q : X → Bool) (xs : List X) → ((x : X) → p x ≡ true → q x ≡ true) → list_any p xs ≡ true → list_any q xs ≡ true
any_goes p q xs f h = let r = any-Has p xs h in any-In q xs r.0 r.1 (f r.0 r.2)

-- one of these links is of a cell of the list
abbrev pub some_used : List CellId → List LinkRow → Bool
some_used cells rows = list_any (λ (r : LinkRow). has_cell cells r.user.cell.0) rows

-- the links into the section decide, in whatever order
pub links_decide : (rows : List LinkRow) (cells : List CellId) (section : SecKey) (left : List LinkRow) → IsPermutation (links_to section rows) left → some_used cells left ≡ is_used_by rows cells section
links_decide rows cells section left moved =
    sym (list_any-IsPermutation (λ (r : LinkRow). has_cell cells r.user.cell.0) (links_to section rows) left moved)
    ∙ any_filtered (λ (r : LinkRow). has_cell cells r.user.cell.0) (λ (r : LinkRow). is_same r.target section) rows

module _ (cells : List CellId) (left next : List LinkRow) (row : LinkRow) (b : Bool) (is : left ≡ row ∷ next) where
  pub user_found : has_cell cells row.user.cell.0 ≡ true → some_used cells left ≡ b → true ≡ b
  user_found h e = sym (ap (λ d. d || some_used cells next) h) ∙ (ap (some_used cells) (sym is) ∙ e)

  pub user_passed : has_cell cells row.user.cell.0 ≡ false → some_used cells left ≡ b → some_used cells next ≡ b
  user_passed h e = sym (ap (λ d. d || some_used cells next) h) ∙ (ap (some_used cells) (sym is) ∙ e)

pub no_user : (cells : List CellId) (left : List LinkRow) (b : Bool) → left ≡ [] → some_used cells left ≡ b → false ≡ b
no_user cells left b is e = ap (some_used cells) (sym is) ∙ e

-- the section's cell, where a link of one of these leads into it
abbrev pub used_at : List LinkRow → List CellId → Placed → ℕ → Bool
used_at rows cells s c = s.key.cell.0 == c && is_used_by rows cells s.key

module _ (rows : List LinkRow) (s : Placed) (room : ℕ) (old : List CellId) where
  -- a cell that is there stays so
  pub used_there : has_cell old s.key.cell.0 ≡ true → Adds (used_at rows old s) room old old
  used_there h =
      nothing_added (used_at rows old s) room old (λ c t.
      let e = eqb-true s.key.cell.0 c (and_parts (s.key.cell.0 == c) (is_used_by rows old s.key) t).0 in
      or_left (has_cell old c) (nat_le room (length old)) (subst (λ n. has_cell old n ≡ true) e h))

  pub used_not : is_used_by rows old s.key ≡ false → Adds (used_at rows old s) room old old
  used_not h = none_added (used_at rows old s) room old (λ c. and_false (s.key.cell.0 == c) h)
    where
      and_false : (a : Bool) → is_used_by rows old s.key ≡ false → (a && is_used_by rows old s.key) ≡ false
      and_false true h = h
      and_false false h = refl

  pub used_now : (new : List CellId) → is_used_by rows old s.key ≡ true → Adds (λ c. s.key.cell.0 == c) room old new → Adds (used_at rows old s) room old new
  used_now new h a = added_same (λ c. s.key.cell.0 == c) (used_at rows old s) room old new (λ c. and_true (s.key.cell.0 == c) h) a
    where
      and_true : (b : Bool) → is_used_by rows old s.key ≡ true → b ≡ (b && is_used_by rows old s.key)
      and_true true h = sym h
      and_true false h = refl

-- more cells use no less
used_more : (rows : List LinkRow) (old more : List CellId) (section : SecKey) → is_used_by rows old section ≡ true → is_used_by rows (old ++ more) section ≡ true
used_more rows old more section h =
    any_goes (λ (r : LinkRow). is_same r.target section && has_cell old r.user.cell.0) (λ (r : LinkRow). is_same r.target section && has_cell (old ++ more) r.user.cell.0) rows
    (λ r t. let p = and_parts (is_same r.target section) (has_cell old r.user.cell.0) t in and_from (is_same r.target section) (has_cell (old ++ more) r.user.cell.0) p.0 (has_left old more r.user.cell.0 p.1)) h

module _ (rows : List LinkRow) (room : ℕ) (old : List CellId) where
  pub uses_begun : Uses rows [] room old old
  uses_begun = record { more = []; is = sym (append-nil old); once = λ o. o; only = λ p g f c h. f c h; has = λ c h. absurd (true≢false (sym h)) }

  pub uses_more : (others : List Placed) (i : ℕ) (d : Placed) (now : ℕ) (mid new : List CellId) → i < length others → now ≡ room → Uses rows (take i others) room old mid → Adds (used_at rows mid (get_or others i d)) now mid new → Uses rows (take (i + 1) others) room old new
  uses_more others i d now mid new lt same u b =
      record {
        more = u.more ++ a.more;
        is = a.is ∙ (ap (λ xs. xs ++ a.more) u.is ∙ append_assoc old u.more a.more);
        once = λ o. a.once (u.once o);
        only = only_more;
        has = λ c h. has_more c (or_cases (list_any (λ (s : Placed). used_at rows old s c) (take i others)) (used_at rows old (get_or others i d) c) (sym (list_any_more (λ (s : Placed). used_at rows old s c) others i d lt) ∙ h));
      }
    where
      s : Placed
      s = get_or others i d

      a : Adds (used_at rows mid s) room mid new
      a = in_room (used_at rows mid s) now room mid new same b

      only_more : (p : ℕ → Bool) → ((r : LinkRow) → In r rows → p r.user.cell.0 ≡ true → p r.target.cell.0 ≡ true) → ((c : ℕ) → has_cell old c ≡ true → p c ≡ true) → (c : ℕ) → has_cell new c ≡ true → p c ≡ true
      only_more p g f c h = go (or_cases (has_cell mid c) (used_at rows mid s c) (a.only c h))
        where
          go : (has_cell mid c ≡ true) ⊎ (used_at rows mid s c ≡ true) → p c ≡ true
          go (inl k) = u.only p g f c k
          go (inr k) =
              let t = and_parts (s.key.cell.0 == c) (is_used_by rows mid s.key) k in
              let r = any-Has (λ (r : LinkRow). is_same r.target s.key && has_cell mid r.user.cell.0) rows t.1 in
              let q = and_parts (is_same r.0.target s.key) (has_cell mid r.0.user.cell.0) r.2 in
              let e = and_parts (r.0.target.cell.0 == s.key.cell.0) (r.0.target.section == s.key.section) q.0 in
              subst (λ n. p n ≡ true) (eqb-true r.0.target.cell.0 s.key.cell.0 e.0 ∙ eqb-true s.key.cell.0 c t.0) (g r.0 r.1 (u.only p g f r.0.user.cell.0 q.1))

      has_more : (c : ℕ) → (list_any (λ (s : Placed). used_at rows old s c) (take i others) ≡ true) ⊎ (used_at rows old s c ≡ true) → has_or_full new room c ≡ true
      has_more c (inl k) = subst (λ xs. has_or_full xs room c ≡ true) (sym a.is) (full_more mid a.more room c (u.has c k))
      has_more c (inr k) =
          let t = and_parts (s.key.cell.0 == c) (is_used_by rows old s.key) k in
          a.has c (and_from (s.key.cell.0 == c) (is_used_by rows mid s.key) t.0 (subst (λ xs. is_used_by rows xs s.key ≡ true) (sym u.is) (used_more rows old u.more s.key t.1)))

  pub uses_done : (others : List Placed) (i : ℕ) (new : List CellId) → length others ≤ i → Uses rows (take i others) room old new → Uses rows others room old new
  uses_done others i new le u = subst (λ (ss : List Placed). Uses rows ss room old new) (take_all i others le) u
