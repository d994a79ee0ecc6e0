-- A new cell that takes on a name which nobody on a path has keeps the rule of names.
use Rattle.std.proofs.Common.{◌≡◌, refl, sym, ◌∙◌, ap, subst, arith, ℕ, ◌⊎◌, inl, inr, Bool, true, false, cond, not, ◌&&◌, ◌||◌, List, [], ◌∷◌, ◌++◌, map, length, true≢false, Some, None, append_assoc}
use Rattle.std.specs.Prelude.{find, nat_lt, ◌==◌}
use Rattle.std.specs.List.{list_any}
use Rattle.std.proofs.lemmas.Bool.{and_from, eqb-true, ltb-true}
use Rattle.std.proofs.lemmas.List.{length-map, map-append}
use Rattle.std.proofs.lemmas.Slice.Eq.{bytes_eq-Decides}
use Rattle.cell_num.specs.Lists.{equals, holds, holds_name, each_pair, In}
use Rattle.cell_world.specs.World.{World, Cell, Alias, Standing, cell_of, is_attached}
use Rattle.cell_world.specs.declared.state.Standing.TheVariants.{Attached, Detached}
use Rattle.cell_world.specs.Names.{chain, rivals, clash_name, has_name, names_of, definitions_of, weak_definitions_of, weak_symbol_named, are_on_one_path}
use Rattle.cell_world.specs.Reexport.{with_alias}
use Rattle.cell_world.specs.Coherent.{IsLoadable, all_names, may_both_stand, has_each_name_once, is_known_cell, is_sound_standing}
use Rattle.cell_num.proofs.Elements.{all-In, In-all, All-In, In-All, In-none, none-In, unfound-In, filter-In, In-append, In-map, found-In, pairs-map, pairs_same, pairs_push, all_push}
use Rattle.cell_lemmas.proofs.Naming.Known.{KnownParts, known_parts, known_from}
use Rattle.cell_lemmas.specs.Named.{has_own_aliases}
use Rattle.cell_lemmas.proofs.Naming.Appended.{unmapped}
use Rattle.cell_lemmas.proofs.Naming.Gathered.{Ranks}
use Rattle.cell_lemmas.proofs.Targeting.Present.{some_same}
use Rattle.cell_lemmas.proofs.Targeting.Targets.{In-find}
use Rattle.cell_num.proofs.Sublists.{pairs_kept}
use Rattle.cell_lemmas.proofs.Naming.Paths.{in_own_chain}

-- the test of two cells goes on to hold where stems and names stay apart
stand_if : (a b p e l m : Bool) → (not (a && b && p) || not e && not l) ≡ true → (a ≡ true → b ≡ true → p ≡ true → l ≡ false → m ≡ false) → (not (a && b && p) || not e && not m) ≡ true
stand_if true true true false false m h f = ap not (f refl refl refl refl)
stand_if true true true false true m h f = absurd (true≢false (sym h))
stand_if true true true true l m h f = absurd (true≢false (sym h))
stand_if true true false e l m h f = refl
stand_if true false p e l m h f = refl
stand_if false b p e l m h f = refl

-- no name of the one list is in the other
module _ (names others : List (List ℕ)) where
  names_apart : list_any (holds_name others) names ≡ false → (n m : List ℕ) → In n names → In m others → equals m n ≡ false
  names_apart h n m i j = none-In (λ other. equals other n) others (none-In (holds_name others) names h n i) m j

  apart_names : ((n m : List ℕ) → In n names → In m others → equals m n ≡ false) → list_any (holds_name others) names ≡ false
  apart_names f = In-none (holds_name others) names (λ n i. In-none (λ other. equals other n) others (λ m j. f n m i j))

differ_swap : (a b : List ℕ) → equals a b ≡ false → equals b a ≡ false
differ_swap a b h = go (equals b a) refl
  where
    go : (x : Bool) → equals b a ≡ x → x ≡ false
    go true e = absurd (true≢false (sym ((bytes_eq-Decides a b).1 (sym ((bytes_eq-Decides b a).0 e))) ∙ h))
    go false e = refl

module _ (number : ℕ) (a : Alias) where
  abbrev pub renamed : Cell → Cell
  renamed c = with_alias number a c

  pub renamed_same : {A : Type 0} (f : Cell → A) (c : Cell) → f (record c { aliases = c.aliases ++ a ∷ [] }) ≡ f c → f (renamed c) ≡ f c
  renamed_same {A = A} f c e = go (c.id.0 == number)
    where
      go : (b : Bool) → f (cond b (record c { aliases = c.aliases ++ a ∷ [] }) c) ≡ f c
      go true = e
      go false = refl

  pub renamed_out : (c : Cell) → (c.id.0 == number) ≡ false → renamed c ≡ c
  renamed_out c e = ap (λ b. cond b (record c { aliases = c.aliases ++ a ∷ [] }) c) e

  pub renamed_in : (c : Cell) → (c.id.0 == number) ≡ true → renamed c ≡ record c { aliases = c.aliases ++ a ∷ [] }
  renamed_in c e = ap (λ b. cond b (record c { aliases = c.aliases ++ a ∷ [] }) c) e

  names_more : (c : Cell) → all_names (record c { aliases = c.aliases ++ a ∷ [] }) ≡ all_names c ++ a.name ∷ []
  names_more c = ap (map (λ (x : Alias). x.name)) (sym (append_assoc (definitions_of c.object) c.aliases (a ∷ []))) ∙ map-append (λ (x : Alias). x.name) (names_of c) (a ∷ [])

  module _ (u : World) (r : Ranks u) (c : Cell) (at : cell_of u number ≡ Some c) (attached : is_attached c.standing ≡ true) (free : clash_name u c.ns a.name ≡ None) (unweak : weak_symbol_named c a.name ≡ None)
      (own : list_any (λ d. d.symbol == a.symbol) (definitions_of c.object) ≡ true) where
    abbrev after : World
    after = record u { cells = map renamed u.cells }

    present : In c u.cells
    present = (found-In (λ (x : Cell). x.id.0 == number) u.cells c at).0

    -- no rival has the name
    nobody : (d : Cell) → In d u.cells → is_attached d.standing ≡ true → are_on_one_path u.namespaces c.ns d.ns ≡ true → (n : List ℕ) → In n (all_names d) → equals n a.name ≡ false
    nobody d i t p n j =
        let x = In-map (λ (y : Alias). y.name) (names_of d) n j in
        ap (λ (m : List ℕ). equals m a.name) x.2
        ∙ none-In (λ (y : Alias). equals y.name a.name) (names_of d)
        (unfound-In (λ e. has_name (names_of e) a.name) (rivals u c.ns) (unmapped (λ (e : Cell). e.id.0) _ free) d
        (filter-In (λ (e : Cell). is_attached e.standing && are_on_one_path u.namespaces c.ns e.ns) u.cells d i (and_from (is_attached d.standing) (are_on_one_path u.namespaces c.ns d.ns) t p))) x.0 x.1

    on_own_path : are_on_one_path u.namespaces c.ns c.ns ≡ true
    on_own_path =
        let k = in_own_chain u.namespaces c.ns (ltb-true c.ns (length u.namespaces) (known_parts u c (all-In (is_known_cell u) u.cells r.known c present)).ns) in
        ap (λ b. b || holds (chain u.namespaces c.ns) c.ns) k

    is_c : (x : Cell) → In x u.cells → (x.id.0 == number) ≡ true → x ≡ c
    is_c x i e = some_same x c (sym (subst (λ (n : ℕ). find (λ y. y.id.0 == n) u.cells ≡ Some x) (eqb-true x.id.0 number e) (In-find u.cells r.order x i)) ∙ at)

    path_swap : (x y : ℕ) → are_on_one_path u.namespaces x y ≡ true → are_on_one_path u.namespaces y x ≡ true
    path_swap x y e = go (holds (chain u.namespaces x) y) (holds (chain u.namespaces y) x) e
      where
        go : (p q : Bool) → (p || q) ≡ true → (q || p) ≡ true
        go true true e = refl
        go true false e = refl
        go false true e = refl
        go false false e = e

    stands_first : (y : Cell) → In y u.cells → may_both_stand u c y ≡ true → may_both_stand after (record c { aliases = c.aliases ++ a ∷ [] }) y ≡ true
    stands_first y j e = stand_if (is_attached c.standing) (is_attached y.standing) (are_on_one_path u.namespaces c.ns y.ns) (equals c.stem y.stem) (list_any (holds_name (all_names y)) (all_names c)) _ e
        (λ p q s l. apart_names (all_names (record c { aliases = c.aliases ++ a ∷ [] })) (all_names y) (λ n m k o. each q s l n m (In-append (all_names c) (a.name ∷ []) n (subst (λ (xs : List (List ℕ)). In n xs) (names_more c) k)) o))
      where
        each : is_attached y.standing ≡ true → are_on_one_path u.namespaces c.ns y.ns ≡ true → list_any (holds_name (all_names y)) (all_names c) ≡ false → (n m : List ℕ) → In n (all_names c) ⊎ In n (a.name ∷ []) → In m (all_names y) → equals m n ≡ false
        each q s l n m (inl k) o = names_apart (all_names c) (all_names y) l n m k o
        each q s l n m (inr (inl k)) o = ap (equals m) k ∙ nobody y j q s m o
        each q s l n m (inr (inr k)) o = absurd k

    stands_second : (x : Cell) → In x u.cells → may_both_stand u x c ≡ true → may_both_stand after x (record c { aliases = c.aliases ++ a ∷ [] }) ≡ true
    stands_second x i e = stand_if (is_attached x.standing) (is_attached c.standing) (are_on_one_path u.namespaces x.ns c.ns) (equals x.stem c.stem) (list_any (holds_name (all_names c)) (all_names x)) _ e
        (λ p q s l. apart_names (all_names x) (all_names (record c { aliases = c.aliases ++ a ∷ [] })) (λ n m k o. each p (path_swap x.ns c.ns s) l n m k (In-append (all_names c) (a.name ∷ []) m (subst (λ (xs : List (List ℕ)). In m xs) (names_more c) o))))
      where
        each : is_attached x.standing ≡ true → are_on_one_path u.namespaces c.ns x.ns ≡ true → list_any (holds_name (all_names c)) (all_names x) ≡ false → (n m : List ℕ) → In n (all_names x) → In m (all_names c) ⊎ In m (a.name ∷ []) → equals m n ≡ false
        each p s l n m k (inl o) = names_apart (all_names x) (all_names c) l n m k o
        each p s l n m k (inr (inl o)) = differ_swap n m (ap (equals n) o ∙ nobody x i p s n k)
        each p s l n m k (inr (inr o)) = absurd o

    -- a cell doesn't stand beside itself
    not_itself : may_both_stand u c c ≡ true → ⊥
    not_itself e = go (equals c.stem c.stem) ((bytes_eq-Decides c.stem c.stem).1 refl) (is_attached c.standing) attached (are_on_one_path u.namespaces c.ns c.ns) on_own_path (list_any (holds_name (all_names c)) (all_names c)) e
      where
        go : (s : Bool) → s ≡ true → (t : Bool) → t ≡ true → (p : Bool) → p ≡ true → (l : Bool) → (not (t && t && p) || not s && not l) ≡ true → ⊥
        go true x true y true z l e = true≢false (sym e)
        go false x t y p z l e = true≢false (sym x)
        go true x false y p z l e = true≢false (sym y)
        go true x true y false z l e = true≢false (sym z)

    stand : (x y : Cell) → In x u.cells → In y u.cells → may_both_stand u x y ≡ true → may_both_stand after (renamed x) (renamed y) ≡ true
    stand x y i j e = go (x.id.0 == number) refl (y.id.0 == number) refl
      where
        go : (p : Bool) → (x.id.0 == number) ≡ p → (q : Bool) → (y.id.0 == number) ≡ q → may_both_stand after (renamed x) (renamed y) ≡ true
        go true p true q = absurd (not_itself (subst (λ (z : Cell). may_both_stand u z c ≡ true) (is_c x i p) (subst (λ (z : Cell). may_both_stand u x z ≡ true) (is_c y j q) e)))
        go true p false q =
            ap (λ (z : Cell). may_both_stand after z (renamed y)) (renamed_in x p) ∙ (ap (λ (z : Cell). may_both_stand after (record x { aliases = x.aliases ++ a ∷ [] }) z) (renamed_out y q)
            ∙ (ap (λ (z : Cell). may_both_stand after (record z { aliases = z.aliases ++ a ∷ [] }) y) (is_c x i p)
            ∙ stands_first y j (subst (λ (z : Cell). may_both_stand u z y ≡ true) (is_c x i p) e)))
        go false p true q =
            ap (λ (z : Cell). may_both_stand after z (renamed y)) (renamed_out x p) ∙ (ap (λ (z : Cell). may_both_stand after x z) (renamed_in y q)
            ∙ (ap (λ (z : Cell). may_both_stand after x (record z { aliases = z.aliases ++ a ∷ [] })) (is_c y j q)
            ∙ stands_second x i (subst (λ (z : Cell). may_both_stand u x z ≡ true) (is_c y j q) e)))
        go false p false q =
            ap (λ (z : Cell). may_both_stand after z (renamed y)) (renamed_out x p) ∙ (ap (λ (z : Cell). may_both_stand after x z) (renamed_out y q) ∙ e)

    abbrev weak_names : List (List ℕ)
    weak_names = map (λ (x : Alias). x.name) (weak_definitions_of c.object)

    -- nor does it hold it weakly itself
    none : (n : List ℕ) → In n weak_names ⊎ In n (all_names c) → equals n a.name ≡ false
    none n (inr k) = nobody c present attached on_own_path n k
    none n (inl k) =
        let x = In-map (λ (y : Alias). y.name) (weak_definitions_of c.object) n k in
        ap (λ (m : List ℕ). equals m a.name) x.2
        ∙ unfound-In (λ (y : Alias). equals y.name a.name) (weak_definitions_of c.object) (unmapped (λ (y : Alias). y.symbol) _ unweak) x.0 x.1

    own_once : (z : Cell) → In z u.cells → has_each_name_once (renamed z) ≡ true
    own_once z i = go (z.id.0 == number) refl
      where
        once : has_each_name_once z ≡ true
        once = all-In has_each_name_once u.cells r.own_names z i

        push : has_each_name_once c ≡ true → has_each_name_once (record c { aliases = c.aliases ++ a ∷ [] }) ≡ true
        push o = ap (λ (names : List (List ℕ)). each_pair (λ x y. not (equals x y)) (weak_names ++ names)) (names_more c)
            ∙ (ap (each_pair (λ x y. not (equals x y))) (sym (append_assoc weak_names (all_names c) (a.name ∷ [])))
            ∙ pairs_push (λ x y. not (equals x y)) (weak_names ++ all_names c) a.name o (λ n k. ap not (none n (In-append weak_names (all_names c) n k))))

        go : (b : Bool) → (z.id.0 == number) ≡ b → has_each_name_once (renamed z) ≡ true
        go true e =
            ap has_each_name_once (renamed_in z e) ∙ (ap (λ (x : Cell). has_each_name_once (record x { aliases = x.aliases ++ a ∷ [] })) (is_c z i e)
            ∙ push (subst (λ (x : Cell). has_each_name_once x ≡ true) (is_c z i e) once))
        go false e = ap has_each_name_once (renamed_out z e) ∙ once

    known_after : (z : Cell) → In z u.cells → is_known_cell after (renamed z) ≡ true
    known_after z i = known_from after (renamed z) (record {
      number = renamed_same (λ x. nat_lt x.id.0 u.next_cell) z refl ∙ p.number;
      ns = renamed_same (λ x. nat_lt x.ns (length u.namespaces)) z refl ∙ p.ns;
      standing = renamed_same (λ x. is_sound_standing after x.standing) z refl ∙ keep z.standing p.standing;
      aliases = go (z.id.0 == number) refl;
    })
      where
        p : KnownParts u z
        p = known_parts u z (all-In (is_known_cell u) u.cells r.known z i)

        keep : (s : Standing) → is_sound_standing u s ≡ true → is_sound_standing after s ≡ true
        keep Attached e = e
        keep (Detached k) e = e

        go : (b : Bool) → (z.id.0 == number) ≡ b → has_own_aliases (renamed z) ≡ true
        go true e = ap has_own_aliases (renamed_in z e)
            ∙ all_push (λ (x : Alias). list_any (λ (d : Alias). d.symbol == x.symbol) (definitions_of z.object)) z.aliases a p.aliases (ap (λ (x : Cell). list_any (λ (d : Alias). d.symbol == a.symbol) (definitions_of x.object)) (is_c z i e) ∙ own)
        go false e = ap has_own_aliases (renamed_out z e) ∙ p.aliases

    of_map : (P : Cell → Type 0) → ((z : Cell) → In z u.cells → P (renamed z)) → (z : Cell) → In z (map renamed u.cells) → P z
    of_map P f z m = let x = In-map renamed u.cells z m in subst P (sym x.2) (f x.0 x.1)

    pub renamed_ranks : Ranks after
    renamed_ranks = record {
      names = pairs-map (may_both_stand after) renamed u.cells ∙ pairs_same (may_both_stand u) (λ x y. may_both_stand after (renamed x) (renamed y)) u.cells stand r.names;
      own_names = In-all has_each_name_once (map renamed u.cells) (of_map (λ z. has_each_name_once z ≡ true) own_once);
      order = pairs_kept (λ (x y : Cell). nat_lt x.id.0 y.id.0) (λ (x y : Cell). nat_lt x.id.0 y.id.0) renamed u.cells
          (λ x y i j. ap (λ n. nat_lt n (renamed y).id.0) (renamed_same (λ z. z.id.0) x refl) ∙ ap (λ n. nat_lt x.id.0 n) (renamed_same (λ z. z.id.0) y refl)) r.order;
      known = In-all (is_known_cell after) (map renamed u.cells) (of_map (λ z. is_known_cell after z ≡ true) known_after);
      objects = In-All (λ (z : Cell). IsLoadable z.object) (map renamed u.cells) (of_map (λ z. IsLoadable z.object)
          (λ z i. subst IsLoadable (sym (renamed_same (λ x. x.object) z refl)) (All-In (λ (x : Cell). IsLoadable x.object) u.cells r.objects z i)));
      few = omega (arith, length-map u.cells renamed, r.few);
      last = r.last;
    }
