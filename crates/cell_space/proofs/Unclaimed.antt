-- A name that nobody on the path has, and the cell itself is on its path.
use Rattle.std.proofs.Common.{◌≡◌, refl, sym, ◌∙◌, ap, arith, ℕ, zero, suc, ◌<◌, Bool, true, false, cond, List, [], ◌∷◌, ◌++◌, Some, None, length}
use Rattle.std.specs.Prelude.{All, IsSomeAnd, Option, ◌&&◌, ◌||◌, find, filter, slice_get}
use Rattle.std.proofs.lemmas.List.Elements.{All-cons, All-nil}
use Rattle.cell_num.specs.Lists.{holds, or_else}
use Rattle.cell_world.specs.declared.state.Namespace.{Namespace}
use Rattle.cell_world.specs.Names.{are_on_one_path, chain, chain_within, has_name}
use Rattle.cell_world.specs.declared.state.Standing.TheVariants.{Attached}
use Rattle.cell_space.specs.declared.cell.SpaceCell.{SpaceCell}
use Rattle.cell_space.specs.Named.{LacksName, cell_numbered, clash_name, is_in, is_numbered, is_rival, number_of}
use Rattle.cell_space.proofs.Changes.{All-find}
use Rattle.cell_space.proofs.Layered.{rival-append}
use Rattle.cell_space.proofs.Rising.{itself}
use Rattle.cell_space.proofs.Searches.{find-filter}

module _ (spaces : List Namespace) where
  own_by : (steps ns : ℕ) (o : Option Namespace) → slice_get spaces ns ≡ o → ns < length spaces → holds (chain_within (suc steps) spaces ns) ns ≡ true
  own_by steps ns None e lt = absurd (past spaces ns e lt)
    where
      past : (xs : List Namespace) (i : ℕ) → slice_get xs i ≡ None → i < length xs → ⊥
      past [] i f h = omega arith
      past (x ∷ xs) zero f h = cc f
      past (x ∷ xs) (suc i) f h = past xs i f (omega (arith, h))
  own_by steps ns (Some space) e lt =
      ap (λ (o : Option Namespace). holds (elim o as (λ _. List ℕ) [ None ↦ [] | Some s ↦ elim s.parent as (λ _. List ℕ) [ None ↦ ns ∷ [] | Some parent ↦ ns ∷ chain_within steps spaces parent ] ]) ns) e
      ∙ by space.parent
    where
      by : (p : Option ℕ) → holds (elim p as (λ _. List ℕ) [ None ↦ ns ∷ [] | Some parent ↦ ns ∷ chain_within steps spaces parent ]) ns ≡ true
      by None = ap (λ b. b || false) (itself ns)
      by (Some parent) = ap (λ b. b || holds (chain_within steps spaces parent) ns) (itself ns)

  -- a namespace is on its own path
  pub on_own_path : (ns : ℕ) → ns < length spaces → are_on_one_path spaces ns ns ≡ true
  on_own_path ns lt = ap (λ b. b || holds (chain spaces ns) ns) (from (length spaces) lt)
    where
      from : (n : ℕ) → ns < n → holds (chain_within (length spaces) spaces ns) ns ≡ true
      from n h = steps (length spaces) refl
        where
          steps : (m : ℕ) → length spaces ≡ m → holds (chain_within m spaces ns) ns ≡ true
          steps zero e = absurd (omega (arith, lt, e))
          steps (suc m) e = own_by m ns (slice_get spaces ns) refl lt

fail_by : (b : Bool) (c : SpaceCell) (o : Option SpaceCell) → cond b (Some c) o ≡ None → (b ≡ false) × (o ≡ None)
fail_by true c o e = absurd (cc e)
fail_by false c o e = (refl, e)

-- where none is found, none passes
all_fail : (test : SpaceCell → Bool) (cells : List SpaceCell) → find test cells ≡ None → All (λ c. test c ≡ false) cells
all_fail test [] e = All-nil (λ (c : SpaceCell). test c ≡ false)
all_fail test (c ∷ cells) e =
    let parts = fail_by (test c) c (find test cells) e in
    All-cons (λ (d : SpaceCell). test d ≡ false) c cells parts.0 (all_fail test cells parts.1)

second_none : (a b : Option ℕ) → or_else a b ≡ None → b ≡ None
second_none None b e = e
second_none (Some x) b e = absurd (cc e)

none_numbered : (o : Option SpaceCell) → number_of o ≡ None → o ≡ None
none_numbered None e = refl
none_numbered (Some c) e = absurd (cc e)

first_off : (b c : Bool) → (b && c) ≡ false → c ≡ true → b ≡ false
first_off true c e on = absurd (cc (e, on))
first_off false c e on = refl

module _ (spaces : List Namespace) (ns : ℕ) (there : ns < length spaces) (name : List ℕ) (present fresh : List SpaceCell) (free : clash_name spaces ns name (present ++ fresh) ≡ None) where
  abbrev named : SpaceCell → Bool
  named d = has_name d.names name

  none_new : find (λ d. named d && is_rival spaces ns d) fresh ≡ None
  none_new =
      sym (find-filter named (is_rival spaces ns) fresh)
      ∙ none_numbered (find named (filter (is_rival spaces ns) fresh))
      (second_none (number_of (find named (filter (is_rival spaces ns) present))) (number_of (find named (filter (is_rival spaces ns) fresh)))
      (sym (rival-append named (is_rival spaces ns) present fresh) ∙ free))

  -- then no new cell of the namespace has the name
  pub lacks_free : (n : ℕ) (c : SpaceCell) → cell_numbered fresh n ≡ Some c → c.ns ≡ ns → is_in Attached c ≡ true → LacksName fresh n name
  lacks_free n c found at on =
      let test : SpaceCell → Bool = λ d. named d && is_rival spaces ns d in
      let off : test c ≡ false = All-find (λ d. test d ≡ false) (is_numbered n) fresh c (all_fail test fresh none_new) found in
      let rival : is_rival spaces ns c ≡ true = ap (λ b. b && are_on_one_path spaces ns c.ns) on ∙ ap (λ m. are_on_one_path spaces ns m) at ∙ on_own_path spaces ns there in
      is_it (cell_numbered fresh n) found (first_off (named c) (is_rival spaces ns c) off rival)
    where
      is_it : (o : Option SpaceCell) → o ≡ Some c → named c ≡ false → IsSomeAnd o (λ d. named d ≡ false)
      is_it None e h = absurd (cc e)
      is_it (Some d) e h = let same : d ≡ c = cc in ap named same ∙ h
