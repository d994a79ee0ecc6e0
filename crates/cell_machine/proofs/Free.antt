-- No new cell clashes with one before it.
use Rattle.std.proofs.Common.{◌≡◌, refl, sym, ◌∙◌, ap, subst, ℕ, ◌<◌, inl, inr, Bool, true, false, true≢false, cond, ◌&&◌, ◌||◌, not, map, List, [], ◌∷◌, ◌++◌, Some, None, length, append_assoc}
use Rattle.std.specs.Prelude.{All, find, nat_lt}
use Rattle.std.specs.List.{list_any}
use Rattle.std.proofs.lemmas.Slice.Eq.{bytes_eq-Decides}
use Rattle.std.proofs.lemmas.Bool.{ltb-true}
use Rattle.std.proofs.lemmas.List.{map-append}
use Rattle.cell_num.specs.Lists.{each_pair, equals, holds, holds_name, In}
use Rattle.cell_world.specs.World.{Alias, World, Cell, is_attached}
use Rattle.cell_world.specs.Names.{are_on_one_path, chain, names_of, has_name}
use Rattle.cell_world.specs.Coherent.{all_names, is_known_cell, may_both_stand}
use Rattle.cell_lemmas.proofs.Placement.Distinct.{pairs_across}
use Rattle.cell_num.proofs.Elements.{none-In, In-none, In-All, In-filtered, filter-Passes, In-map, map-In}
use Rattle.cell_lemmas.proofs.Naming.Known.{known_parts}
use Rattle.cell_space.specs.declared.cell.SpaceCell.{SpaceCell}
use Rattle.cell_space.specs.Machine.{called}
use Rattle.cell_space.specs.Named.{clash_name, clash_stem, is_rival, number_of, rivals}
use Rattle.cell_commit.specs.Cells.{AreFree, MayCome, arrived, with_no_room}
use Rattle.cell_space.specs.Spaces.{IsFree}
use Rattle.cell_commit.specs.declared.attach.Newcomer.{Newcomer}

none_found : (p : SpaceCell → Bool) (cells : List SpaceCell) → ((d : SpaceCell) → In d cells → p d ≡ false) → number_of (find p cells) ≡ None
none_found p [] f = refl
none_found p (d ∷ cells) f = go (p d) (f d (inl refl)) (none_found p cells (λ e k. f e (inr k)))
  where
    go : (b : Bool) → b ≡ false → number_of (find p cells) ≡ None → number_of (cond b (Some d) (find p cells)) ≡ None
    go true e ih = absurd (true≢false e)
    go false e ih = ih

equals_swap : (a b : List ℕ) → equals a b ≡ false → equals b a ≡ false
equals_swap a b h = go (equals b a) refl
  where
    go : (t : Bool) → equals b a ≡ t → equals b a ≡ false
    go true e = let k : b ≡ a = (bytes_eq-Decides b a).0 e in absurd (true≢false (sym ((bytes_eq-Decides a b).1 (sym k)) ∙ h))
    go false e = e

or_swap : (a b : Bool) → (a || b) ≡ true → (b || a) ≡ true
or_swap true true h = refl
or_swap true false h = refl
or_swap false true h = refl
or_swap false false h = h

-- where both are attached on one path, they have nothing in common
stand_parts : (a p e l : Bool) → (not (a && true && p) || not e && not l) ≡ true → (a && p) ≡ true → (e ≡ false) × (l ≡ false)
stand_parts true true false false h k = (refl, refl)
stand_parts true true true l h k = absurd (true≢false (sym h))
stand_parts true true false true h k = absurd (true≢false (sym h))
stand_parts true false e l h k = absurd (true≢false (sym k))
stand_parts false p e l h k = absurd (true≢false (sym k))

swap_right : (a p q : Bool) → ((p ≡ true) → (q ≡ true)) → (a && p) ≡ true → (a && q) ≡ true
swap_right true p q f h = f h
swap_right false p q f h = h

module _ (w : World) (before : List Cell) (c : Cell) (is : is_attached c.standing ≡ true) (stand : (d : Cell) → In d before → may_both_stand w d c ≡ true) where
  abbrev Apart : Cell → Type 0
  Apart d = (equals d.stem c.stem ≡ false) × (list_any (holds_name (all_names c)) (all_names d) ≡ false)

  apart : (d : Cell) → In d before → (is_attached d.standing && are_on_one_path w.namespaces c.ns d.ns) ≡ true → Apart d
  apart d k r =
      stand_parts (is_attached d.standing) (are_on_one_path w.namespaces d.ns c.ns) (equals d.stem c.stem) (list_any (holds_name (all_names c)) (all_names d))
      (subst (λ (b : Bool). (not (is_attached d.standing && b && are_on_one_path w.namespaces d.ns c.ns) || not (equals d.stem c.stem) && not (list_any (holds_name (all_names c)) (all_names d))) ≡ true) is (stand d k))
      (swap_right (is_attached d.standing) (are_on_one_path w.namespaces c.ns d.ns) (are_on_one_path w.namespaces d.ns c.ns) (or_swap (holds (chain w.namespaces c.ns) d.ns) (holds (chain w.namespaces d.ns) c.ns)) r)

  -- each rival is one of the cells before
  rival : (x : SpaceCell) → In x (rivals w.namespaces c.ns (map called before)) → (d : Cell) × (x ≡ called d) × Apart d
  rival x k =
      let d : (d : Cell) × In d before × (x ≡ called d) = In-map called before x (In-filtered (is_rival w.namespaces c.ns) (map called before) x k) in
      let r : is_rival w.namespaces c.ns (called d.0) ≡ true = subst (λ (x : SpaceCell). is_rival w.namespaces c.ns x ≡ true) d.2 (filter-Passes (is_rival w.namespaces c.ns) (map called before) x k) in
      (d.0, d.2, apart d.0 d.1 r)

  pub stem_free : clash_stem w.namespaces c.ns c.stem (map called before) ≡ None
  stem_free =
      none_found (λ (x : SpaceCell). equals x.stem c.stem) (rivals w.namespaces c.ns (map called before)) (λ x k.
      let d = rival x k in
      subst (λ (x : SpaceCell). equals x.stem c.stem ≡ false) (sym d.1) d.2.0)

  unnamed : (d : Cell) → list_any (holds_name (all_names c)) (all_names d) ≡ false → (a : Alias) → In a (names_of c) → has_name (names_of d) a.name ≡ false
  unnamed d none a k =
      In-none (λ (b : Alias). equals b.name a.name) (names_of d) (λ b j.
      equals_swap a.name b.name
      (none-In (λ other. equals other b.name) (all_names c)
      (none-In (holds_name (all_names c)) (all_names d) none b.name (map-In (λ (b : Alias). b.name) (names_of d) b j))
      a.name (map-In (λ (a : Alias). a.name) (names_of c) a k)))

  pub names_free : All (λ (a : Alias). clash_name w.namespaces c.ns a.name (map called before) ≡ None) (names_of c)
  names_free =
      In-All (λ (a : Alias). clash_name w.namespaces c.ns a.name (map called before) ≡ None) (names_of c) (λ a i.
      none_found (λ (x : SpaceCell). has_name x.names a.name) (rivals w.namespaces c.ns (map called before)) (λ x k.
      let d = rival x k in
      subst (λ (x : SpaceCell). has_name x.names a.name ≡ false) (sym d.1) (unnamed d.0 d.2.1 a i)))

head_is : {X : Type 0} (x y : X) (xs ys : List X) → x ∷ xs ≡ y ∷ ys → x ≡ y
head_is x y xs ys e = cc

tail_is : {X : Type 0} (x y : X) (xs ys : List X) → x ∷ xs ≡ y ∷ ys → xs ≡ ys
tail_is x y xs ys e = cc

called_more : (before : List Cell) (c : Cell) → map called before ++ called c ∷ [] ≡ map called (before ++ c ∷ [])
called_more before c = sym (map-append called before (c ∷ []))

-- the machine's rule of names, and its order
pub record AreApart (w : World) (cells : List Cell) : Type 0 where
  pub names : each_pair (may_both_stand w) cells ≡ true
  pub order : each_pair (λ (a b : Cell). nat_lt a.id.0 b.id.0) cells ≡ true

module _ (w : World) where
  may_come : (before cells : List Cell) (c : Cell) → AreApart w (before ++ c ∷ cells) → is_attached c.standing ≡ true → is_known_cell w c ≡ true
      → (n : Newcomer) → arrived n ≡ called c → MayCome w.namespaces (map called before) n
  may_come before cells c are is known n e =
      let here : In c (c ∷ cells) = inl refl in
      let stand : (d : Cell) → In d before → may_both_stand w d c ≡ true = (λ d k. pairs_across (may_both_stand w) before (c ∷ cells) are.names d c k here) in
      let lower : (d : Cell) → In d before → d.id.0 < c.id.0 = (λ d k. ltb-true d.id.0 c.id.0 (pairs_across (λ (a b : Cell). nat_lt a.id.0 b.id.0) before (c ∷ cells) are.order d c k here)) in
      let cell : n.cell.0 ≡ c.id.0 = ap (λ (x : SpaceCell). x.cell.0) e in
      let ns : n.ns ≡ c.ns = ap (λ (x : SpaceCell). x.ns) e in
      record {
        above = subst (λ (k : ℕ). All (λ (d : SpaceCell). d.cell.0 < k) (map called before)) (sym cell)
            (In-All (λ (d : SpaceCell). d.cell.0 < c.id.0) (map called before) (λ x k.
            let d : (d : Cell) × In d before × (x ≡ called d) = In-map called before x k in
            subst (λ (x : SpaceCell). x.cell.0 < c.id.0) (sym d.2) (lower d.0 d.1)));
        inside = subst (λ (k : ℕ). k < length w.namespaces) (sym ns) (ltb-true c.ns (length w.namespaces) (known_parts w c known).ns);
        free = subst (λ (x : SpaceCell). IsFree (with_no_room w.namespaces (map called before)) x) (sym e)
            (record { stem = stem_free w before c is stand; names = names_free w before c is stand });
      }

  -- the cells clash with none before them
  pub are_free : (cells before : List Cell) (list : List Newcomer) → map arrived list ≡ map called cells → AreApart w (before ++ cells)
      → ((c : Cell) → In c cells → (is_attached c.standing ≡ true) × (is_known_cell w c ≡ true))
      → AreFree w.namespaces (map called before) list
  are_free cells before [] e are known = tt
  are_free [] before (n ∷ list) e are known = cc
  are_free (c ∷ cells) before (n ∷ list) e are known =
      let here : arrived n ≡ called c = head_is (arrived n) (called c) (map arrived list) (map called cells) e in
      let rest : map arrived list ≡ map called cells = tail_is (arrived n) (called c) (map arrived list) (map called cells) e in
      let k = known c (inl refl) in
      let more : AreApart w ((before ++ c ∷ []) ++ cells) = subst (AreApart w) (sym (append_assoc before (c ∷ []) cells)) are in
      let same : map called before ++ arrived n ∷ [] ≡ map called (before ++ c ∷ []) = ap (λ (x : SpaceCell). map called before ++ x ∷ []) here ∙ called_more before c in (
        may_come before cells c are k.0 k.1 n here,
        subst (λ (cs : List SpaceCell). AreFree w.namespaces cs list) (sym same) (are_free cells (before ++ c ∷ []) list rest more (λ d j. known d (inr j))),
      )
