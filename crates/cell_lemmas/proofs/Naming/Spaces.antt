-- A namespace that is added: the lists of them, and what it leaves of those before it.
use Rattle.std.proofs.Common.{◌≡◌, ◌≤◌, refl, sym, ◌∙◌, ap, subst, arith, ℕ, suc, ◌+◌, ◌<◌, inl, inr, Bool, true, false, cond, not, ◌&&◌, ◌||◌, List, [], ◌∷◌, ◌++◌, length, length-append, Some, None}
use Rattle.std.specs.Prelude.{position, nat_lt}
use Rattle.std.specs.List.{list_any, list_all, prefix_len}
use Rattle.std.proofs.lemmas.Bool.{and_parts, and_from, lt-ltb, ltb-true}
use Rattle.std.proofs.lemmas.List.{append-nil}
use Rattle.cell_num.specs.Lists.{equals, holds, holds_name, numbered, numbered_from, each_pair, or_else, In}
use Rattle.cell_world.specs.declared.state.Namespace.{Namespace}
use Rattle.cell_world.specs.World.{World, Cell, Standing, is_attached}
use Rattle.cell_world.specs.Names.{asked_by, chain, are_on_one_path, first_provider, nearest_provider, strong_provider, provider_for}
use Rattle.cell_world.specs.Linked.Target.{target_of}
use Rattle.cell_object.specs.declared.object.Entry.{Entry}
use Rattle.cell_world.specs.Commands.NsCommand.{with_namespace}
use Rattle.cell_world.specs.Coherent.{all_names, may_both_stand, is_sound_parent, begins_with_k, is_known_cell}
use Rattle.cell_num.proofs.Elements.{all-In, In-all, pairs_push, pairs_same}
use Rattle.cell_lemmas.proofs.Naming.Known.{known_parts, known_from}
use Rattle.cell_lemmas.proofs.Naming.Chains.{chain_more}
use Rattle.cell_lemmas.proofs.Naming.Attach.{Grows}
use Rattle.cell_lemmas.proofs.Naming.Agreeing.{target_agrees}

module _ {X : Type 0} where
  -- where no first one passes, none does
  passed_by : (p : X → Bool) (xs : List X) → nat_lt (prefix_len (λ x. not (p x)) xs) (length xs) ≡ false → (x : X) → In x xs → p x ≡ false
  passed_by p [] h x k = absurd k
  passed_by p (y ∷ ys) h x k = go (p y) refl h k (passed_by p ys)
    where
      go : (b : Bool) → p y ≡ b → nat_lt (cond (not b) (1 + prefix_len (λ x. not (p x)) ys) 0) (suc (length ys)) ≡ false → In x (y ∷ ys)
          → (nat_lt (prefix_len (λ x. not (p x)) ys) (length ys) ≡ false → (z : X) → In z ys → p z ≡ false) → p x ≡ false
      go true e h k f = absurd (grind (arith, h))
      go false e h (inl i) f = ap p i ∙ e
      go false e h (inr i) f = f (grind (arith, h)) x i

  pub unplaced-In : (p : X → Bool) (xs : List X) → position p xs ≡ None → (x : X) → In x xs → p x ≡ false
  unplaced-In p xs h = go (nat_lt (prefix_len (λ x. not (p x)) xs) (length xs)) refl h
    where
      go : (b : Bool) → nat_lt (prefix_len (λ x. not (p x)) xs) (length xs) ≡ b → cond b (Some (prefix_len (λ x. not (p x)) xs)) None ≡ None → (x : X) → In x xs → p x ≡ false
      go true e k = cc
      go false e k = passed_by p xs e

  pub numbered_push : (p : ℕ × X → Bool) (xs : List X) (i n : ℕ) (x : X) → n ≡ i + length xs → list_all p (numbered_from i xs) ≡ true → p (n, x) ≡ true → list_all p (numbered_from i (xs ++ x ∷ [])) ≡ true
  numbered_push p [] i n x e h k = let m : n ≡ i = omega (arith, e) in and_from (p (i, x)) true (subst (λ (j : ℕ). p (j, x) ≡ true) m k) refl
  numbered_push p (y ∷ ys) i n x e h k =
      let q = and_parts (p (i, y)) (list_all p (numbered_from (suc i) ys)) h in
      and_from (p (i, y)) (list_all p (numbered_from (suc i) (ys ++ x ∷ []))) q.0 (numbered_push p ys (suc i) n x (omega (arith, e)) q.1 k)

pub below_more : {X : Type 0} (xs ys : List X) (n : ℕ) → nat_lt n (length xs) ≡ true → nat_lt n (length (xs ++ ys)) ≡ true
below_more xs ys n h = lt-ltb n (length (xs ++ ys)) (omega (arith, ltb-true n (length xs) h, length-append xs ys))

begins_more : (spaces more : List Namespace) → begins_with_k spaces ≡ true → begins_with_k (spaces ++ more) ≡ true
begins_more [] more h = cc
begins_more (space ∷ spaces) more h = h

abbrev pub child : List ℕ → ℕ → Namespace
child name parent = record { name = name; parent = Some parent }

pub spaces_more : (spaces : List Namespace) (name : List ℕ) (parent : ℕ) → (begins_with_k spaces && list_all is_sound_parent (numbered spaces)) ≡ true → parent < length spaces
    → (begins_with_k (spaces ++ child name parent ∷ []) && list_all is_sound_parent (numbered (spaces ++ child name parent ∷ []))) ≡ true
spaces_more spaces name parent h below =
    let p = and_parts (begins_with_k spaces) (list_all is_sound_parent (numbered spaces)) h in
    and_from (begins_with_k (spaces ++ child name parent ∷ [])) (list_all is_sound_parent (numbered (spaces ++ child name parent ∷ []))) (begins_more spaces (child name parent ∷ []) p.0)
    (numbered_push is_sound_parent spaces 0 (length spaces) (child name parent) (omega arith) p.1 (lt-ltb parent (length spaces) below))

pub names_more : (spaces : List Namespace) (name : List ℕ) (parent : ℕ) → each_pair (λ a b. not (equals a.name b.name)) spaces ≡ true → position (λ space. equals space.name name) spaces ≡ None
    → each_pair (λ a b. not (equals a.name b.name)) (spaces ++ child name parent ∷ []) ≡ true
names_more spaces name parent h free =
    pairs_push (λ a b. not (equals a.name b.name)) spaces (child name parent) h
    (λ space k. ap not (unplaced-In (λ space. equals space.name name) spaces free space k))

pub few_more : {X : Type 0} (xs : List X) (x : X) (n : ℕ) → nat_lt (length xs) n ≡ true → length (xs ++ x ∷ []) ≤ n
few_more xs x n h = omega (arith, ltb-true (length xs) n h, length-append xs (x ∷ []))

module _ (w : World) (spaces : (begins_with_k w.namespaces && list_all is_sound_parent (numbered w.namespaces)) ≡ true) (name : List ℕ) (parent : ℕ) where
  abbrev after : World
  after = with_namespace w name parent

  pub chain_stays : (ns : ℕ) → nat_lt ns (length w.namespaces) ≡ true → chain after.namespaces ns ≡ chain w.namespaces ns
  chain_stays = chain_more w.namespaces (child name parent ∷ []) (and_parts (begins_with_k w.namespaces) (list_all is_sound_parent (numbered w.namespaces)) spaces).1

  pub space_grows : Grows w after
  space_grows = record { spaces = chain_stays; new = []; cells = sym (append-nil w.cells); attached = refl }

  path_stays : (a b : ℕ) → nat_lt a (length w.namespaces) ≡ true → nat_lt b (length w.namespaces) ≡ true → are_on_one_path after.namespaces a b ≡ are_on_one_path w.namespaces a b
  path_stays a b i j =
      ap (λ (xs : List ℕ). holds xs b || holds (chain after.namespaces b) a) (chain_stays a i)
      ∙ ap (λ (xs : List ℕ). holds (chain w.namespaces a) b || holds xs a) (chain_stays b j)

  -- who provides a name for a namespace that is there
  pub provider_stays : (s : Standing) (ns : ℕ) → nat_lt ns (length w.namespaces) ≡ true → (symbol : List ℕ) → provider_for after s ns symbol ≡ provider_for w s ns symbol
  provider_stays s ns there symbol = ap (λ (xs : List ℕ). or_else (asked_by w (first_provider xs symbol) s) (asked_by w (nearest_provider xs symbol) s)) (chain_stays ns there)

  strong_stays : (s : Standing) (ns : ℕ) → nat_lt ns (length w.namespaces) ≡ true → (symbol : List ℕ) → strong_provider after s ns symbol ≡ strong_provider w s ns symbol
  strong_stays s ns there symbol = ap (λ (xs : List ℕ). asked_by w (first_provider xs symbol) s) (chain_stays ns there)

  -- what an entry of a cell in such a namespace names
  pub target_stays : (c : Cell) → nat_lt c.ns (length w.namespaces) ≡ true → (e : Entry) → target_of after c e ≡ target_of w c e
  target_stays c there = target_agrees w after c (strong_stays c.standing c.ns there) (provider_stays c.standing c.ns there) (λ p. refl)

  module _ (known : list_all (is_known_cell w) w.cells ≡ true) where
    pub stands_there : (c : Cell) → In c w.cells → nat_lt c.ns (length w.namespaces) ≡ true
    stands_there c k = (known_parts w c (all-In (is_known_cell w) w.cells known c k)).ns

    pub known_stays : list_all (is_known_cell after) w.cells ≡ true
    known_stays = In-all (is_known_cell after) w.cells
        (λ c k. let p = known_parts w c (all-In (is_known_cell w) w.cells known c k) in
        known_from after c (record { number = p.number; ns = below_more w.namespaces (child name parent ∷ []) c.ns p.ns; standing = p.standing; aliases = p.aliases }))

    pub names_stay : each_pair (may_both_stand w) w.cells ≡ true → each_pair (may_both_stand after) w.cells ≡ true
    names_stay = pairs_same (may_both_stand w) (may_both_stand after) w.cells
        (λ a b i j h. subst (λ p. (not (is_attached a.standing && is_attached b.standing && p) || not (equals a.stem b.stem) && not (list_any (holds_name (all_names b)) (all_names a))) ≡ true) (sym (path_stays a.ns b.ns (stands_there a i) (stands_there b j))) h)
