-- A cell that is appended keeps the rule of names, the numbers of cells and the limits.
use Rattle.std.proofs.Common.{◌≡◌, refl, sym, ◌∙◌, ap, subst, ℕ, suc, ◌⊎◌, inl, inr, Bool, true, false, cond, not, ◌&&◌, ◌||◌, List, [], ◌∷◌, ◌++◌, map, length, true≢false, Option, Some, None, Result, Ok, Err}
use Rattle.std.specs.Prelude.{filter, option_map, nat_lt, nat_le}
use Rattle.std.specs.List.{list_any, list_all}
use Rattle.std.proofs.lemmas.Bool.{and_parts, and_from, cases_Bool}
use Rattle.std.proofs.lemmas.List.{append-nil}
use Rattle.std.proofs.lemmas.Slice.Eq.{bytes_eq-Decides}
use Rattle.cell_object.specs.declared.object.Object.{Object}
use Rattle.cell_object.specs.declared.object.Symbol.{Symbol}
use Rattle.cell_object.specs.Bytes.{Broken}
use Rattle.cell_object.specs.declared.object.Bind.{Bind}
use Rattle.cell_object.specs.declared.object.Bind.TheVariants.{Local, Global, Weak}
use Rattle.cell_object.specs.Parts.{is_global, is_local, is_weak, is_defined}
use Rattle.cell_object.specs.Sound.{IsSoundObject, may_both_be}
use Rattle.cell_world.specs.declared.refusal.Refusal.TheVariants.{BadObject, TooMany}
use Rattle.cell_world.specs.declared.refusal.Many.TheVariants.{Cells, CellNumbers}
use Rattle.cell_num.specs.Lists.{equals, holds, holds_name, numbered_from, each_pair, In}
use Rattle.cell_world.specs.World.{World, Cell, Alias, is_attached}
use Rattle.cell_world.specs.Names.{chain, rivals, clash_stem, clash_name, has_name, names_of, definitions_of, weak_definitions_of, is_definition, is_weak_definition, are_on_one_path}
use Rattle.cell_world.specs.Gather.{Source, stem_of_file, clash_among, duplicate, object_in, new_cell, append_cell}
use Rattle.cell_world.specs.Outcome.{Outcome, need, refused_by}
use Rattle.cell_world.specs.Coherent.{all_names, may_both_stand, has_each_name_once}
use Rattle.cell_num.proofs.Elements.{none-In, In-none, unfound-In, filter-In, In-filtered, filter-Passes, In-map, In-numbered, get-In, pairs-In, pairs_push, all_push, or_else_parts}
use Rattle.cell_num.proofs.Sublists.{pairs-append}
use Rattle.cell_lemmas.proofs.Outcomes.{bind_ok, then_ok, need_ok, refused_ok}

abbrev pub with_new : World → Source → ℕ → Object → World
with_new w f ns object = record w { cells = w.cells ++ new_cell w ns f object ∷ []; next_cell = suc w.next_cell }

-- what an append that ends well has passed
pub record Appended (w : World) (f : Source) (ns : ℕ) (w' : World) : Type 0 where
  pub object : Object
  pub room : nat_lt (length w.cells) 1024 ≡ true
  pub numbers : nat_le w.next_cell 65535 ≡ true
  pub reading : f.reading ≡ Ok object
  pub stem : clash_stem w ns (stem_of_file f.name) ≡ None
  pub names : clash_among w ns (definitions_of object) ≡ None
  pub is : with_new w f ns object ≡ w'

read_ok : (name : List ℕ) (r : Result Object Broken) (o : Object) → elim r as (λ _. Outcome Object) [ Ok object ↦ Ok object | Err broken ↦ Err (BadObject name broken.0 broken.1) ] ≡ Ok o → r ≡ Ok o
read_ok name (Ok p) o h = cc
read_ok name (Err b) o h = cc

pub unmapped : {X Y : Type 0} (f : X → Y) (o : Option X) → option_map f o ≡ None → o ≡ None
unmapped f None h = refl
unmapped f (Some x) h = cc

abbrev pub Same : {X : Type 0} → Outcome X → Outcome X → Type 0
Same a b = a ≡ b

pub ok_same : {X : Type 0} (x y : X) → Same (Ok x) (Ok y) → x ≡ y
ok_same x y h = cc

pub append_ok : (w : World) (f : Source) (ns : ℕ) (w' : World) → append_cell w f ns ≡ Ok w' → Appended w f ns w'
append_ok w f ns w' h =
    let a = then_ok (need (nat_lt (length w.cells) 1024) (TooMany Cells 1024)) _ w' h in
    let b = then_ok (need (nat_le w.next_cell 65535) (TooMany CellNumbers 65535)) _ w' a.2 in
    let c = bind_ok (object_in f) _ w' b.2 in
    let d = then_ok (refused_by (option_map (duplicate (stem_of_file f.name)) (clash_stem w ns (stem_of_file f.name)))) _ w' c.2 in
    let e = then_ok (refused_by (clash_among w ns (definitions_of c.0))) _ w' d.2 in
    record {
      object = c.0;
      room = need_ok _ _ a.0 a.1;
      numbers = need_ok _ _ b.0 b.1;
      reading = read_ok f.name f.reading c.0 c.1;
      stem = unmapped (duplicate (stem_of_file f.name)) _ (refused_ok _ d.0 d.1);
      names = refused_ok _ e.0 e.1;
      is = ok_same _ w' e.2;
    }

equals_swap : (a b : List ℕ) → equals a b ≡ false → equals b a ≡ false
equals_swap a b h = go (cases_Bool (equals b a))
  where
    go : (equals b a ≡ true) ⊎ (equals b a ≡ false) → equals b a ≡ false
    go (inl t) = let e : b ≡ a = (bytes_eq-Decides b a).0 t in let k : equals a b ≡ true = (bytes_eq-Decides a b).1 (sym e) in absurd (true≢false (sym k ∙ h))
    go (inr f) = f

or_swap : (a b : Bool) → (a || b) ≡ true → (b || a) ≡ true
or_swap true true h = refl
or_swap true false h = refl
or_swap false true h = refl
or_swap false false h = h

unclashed : (w : World) (ns : ℕ) (names : List Alias) → clash_among w ns names ≡ None → (d : Alias) → In d names → clash_name w ns d.name ≡ None
unclashed w ns [] h d k = absurd k
unclashed w ns (a ∷ names) h d (inl e) = subst (λ (v : Alias). clash_name w ns v.name ≡ None) (sym e) (unmapped (duplicate a.name) _ (or_else_parts _ _ h).0)
unclashed w ns (a ∷ names) h d (inr k) = unclashed w ns names (or_else_parts _ _ h).1 d k

stand_from : (a b p e l : Bool) → (a ≡ true → p ≡ true → (e ≡ false) × (l ≡ false)) → (not (a && b && p) || not e && not l) ≡ true
stand_from false b p e l f = refl
stand_from true false p e l f = refl
stand_from true true false e l f = refl
stand_from true true true e l f = let r : (e ≡ false) × (l ≡ false) = f refl refl in subst (λ v. (not v && not l) ≡ true) (sym r.0) (subst (λ v. not v ≡ true) (sym r.1) refl)

module _ (w : World) (f : Source) (ns : ℕ) (w' : World) (app : Appended w f ns w') where
  abbrev new : Cell
  new = new_cell w ns f app.object

  rival-In : (a : Cell) → In a w.cells → is_attached a.standing ≡ true → are_on_one_path w.namespaces ns a.ns ≡ true → In a (rivals w ns)
  rival-In a k t p = filter-In (λ c. is_attached c.standing && are_on_one_path w.namespaces ns c.ns) w.cells a k (and_from (is_attached a.standing) (are_on_one_path w.namespaces ns a.ns) t p)

  no_stem : (a : Cell) → In a (rivals w ns) → equals a.stem (stem_of_file f.name) ≡ false
  no_stem a k = unfound-In (λ c. equals c.stem (stem_of_file f.name)) (rivals w ns) (unmapped (λ c. c.id.0) _ app.stem) a k

  no_name : (a : Cell) → In a (rivals w ns) → list_any (holds_name (all_names new)) (all_names a) ≡ false
  no_name a k = In-none (holds_name (all_names new)) (all_names a) each_name
    where
      apart : (x d : Alias) → In x (names_of a) → In d (definitions_of app.object) → equals d.name x.name ≡ false
      apart x d i j =
          equals_swap x.name d.name
          (none-In (λ (y : Alias). equals y.name d.name) (names_of a)
          (unfound-In (λ c. has_name (names_of c) d.name) (rivals w ns) (unmapped (λ c. c.id.0) _ (unclashed w ns (definitions_of app.object) app.names d j)) a k) x i)

      each_name : (n : List ℕ) → In n (all_names a) → holds_name (all_names new) n ≡ false
      each_name n i =
          let x : (x : Alias) × In x (names_of a) × (n ≡ x.name) = In-map (λ (y : Alias). y.name) (names_of a) n i in
          In-none (λ other. equals other n) (all_names new) (λ m j.
          let d : (d : Alias) × In d (names_of new) × (m ≡ d.name) = In-map (λ (y : Alias). y.name) (names_of new) m j in
          subst (λ v. equals v n ≡ false) (sym d.2) (subst (λ v. equals d.0.name v ≡ false) (sym x.2)
          (apart x.0 d.0 x.1 (subst (λ l. In d.0 l) (append-nil (definitions_of app.object)) d.1))))

  may_stand : (a : Cell) → In a w.cells → may_both_stand w a new ≡ true
  may_stand a k =
      stand_from (is_attached a.standing) true (are_on_one_path w.namespaces a.ns ns) (equals a.stem (stem_of_file f.name)) (list_any (holds_name (all_names new)) (all_names a))
      (λ t p. let r : In a (rivals w ns) = rival-In a k t (or_swap (holds (chain w.namespaces a.ns) ns) (holds (chain w.namespaces ns) a.ns) p) in (no_stem a r, no_name a r))

unlike : (a b e : Bool) → a ≡ false → b ≡ false → (a || b || not e) ≡ true → not e ≡ true
unlike false false e x y h = h
unlike true b e x y h = absurd (true≢false x)
unlike false true e x y h = absurd (true≢false y)

-- the names of symbols that pass a test which no LOCAL passes
module _ (p : Symbol → Bool) where
  abbrev Names : ℕ → List Symbol → List (List ℕ)
  Names i symbols = map (λ (a : Alias). a.name) (map (λ (q : ℕ × Symbol). record { name = q.1.name; symbol = q.0 }) (filter (λ q. p q.1) (numbered_from i symbols)))

  -- each is that of such a symbol
  name_of : (symbols : List Symbol) (i : ℕ) (n : List ℕ) → In n (Names i symbols) → (s : Symbol) × In s symbols × (p s ≡ true) × (n ≡ s.name)
  name_of symbols i n k =
      let a = In-map (λ (a : Alias). a.name) (map (λ (q : ℕ × Symbol). record { name = q.1.name; symbol = q.0 }) (filter (λ q. p q.1) (numbered_from i symbols))) n k in
      let q = In-map (λ (q : ℕ × Symbol). let x : Alias = record { name = q.1.name; symbol = q.0 } in x) (filter (λ q. p q.1) (numbered_from i symbols)) a.0 a.1 in
      let g = In-numbered symbols i q.0 (In-filtered (λ (x : ℕ × Symbol). p x.1) (numbered_from i symbols) q.0 q.1) in
      (q.0.1, get-In symbols g.0 q.0.1 g.1, filter-Passes (λ (x : ℕ × Symbol). p x.1) (numbered_from i symbols) q.0 q.1, a.2 ∙ ap (λ (x : Alias). x.name) q.2)

  module _ (unlocal : (s : Symbol) → p s ≡ true → is_local s.bind ≡ false) where
    unlike_all : (s : Symbol) → is_local s.bind ≡ false → (symbols : List Symbol) (i : ℕ) → list_all (may_both_be s) symbols ≡ true → list_all (λ n. not (equals s.name n)) (Names i symbols) ≡ true
    unlike_all s g [] i h = refl
    unlike_all s g (t ∷ rest) i h = go (p t) refl (unlike_all s g rest (suc i) k.1)
      where
        k : (may_both_be s t ≡ true) × (list_all (may_both_be s) rest ≡ true)
        k = and_parts (may_both_be s t) (list_all (may_both_be s) rest) h

        go : (b : Bool) → p t ≡ b → list_all (λ n. not (equals s.name n)) (Names (suc i) rest) ≡ true
            → list_all (λ n. not (equals s.name n)) (map (λ (a : Alias). a.name) (map (λ (q : ℕ × Symbol). record { name = q.1.name; symbol = q.0 }) (cond b ((i, t) ∷ filter (λ q. p q.1) (numbered_from (suc i) rest)) (filter (λ q. p q.1) (numbered_from (suc i) rest))))) ≡ true
        go false e r = r
        go true e r = and_from _ _ (unlike (is_local s.bind) (is_local t.bind) (equals s.name t.name) g (unlocal t e) k.0) r

    distinct_names : (symbols : List Symbol) (i : ℕ) → each_pair may_both_be symbols ≡ true → each_pair (λ a b. not (equals a b)) (Names i symbols) ≡ true
    distinct_names [] i h = refl
    distinct_names (s ∷ rest) i h = go (p s) refl (distinct_names rest (suc i) k.1)
      where
        k : (list_all (may_both_be s) rest ≡ true) × (each_pair may_both_be rest ≡ true)
        k = and_parts (list_all (may_both_be s) rest) (each_pair may_both_be rest) h

        go : (b : Bool) → p s ≡ b → each_pair (λ a b. not (equals a b)) (Names (suc i) rest) ≡ true
            → each_pair (λ a b. not (equals a b)) (map (λ (a : Alias). a.name) (map (λ (q : ℕ × Symbol). record { name = q.1.name; symbol = q.0 }) (cond b ((i, s) ∷ filter (λ q. p q.1) (numbered_from (suc i) rest)) (filter (λ q. p q.1) (numbered_from (suc i) rest))))) ≡ true
        go false e r = r
        go true e r = and_from _ _ (unlike_all s (unlocal s e) rest (suc i) k.0) r

global_unlocal : (s : Symbol) → is_definition s ≡ true → is_local s.bind ≡ false
global_unlocal s e = go s.bind (and_parts (is_global s.bind) (is_defined s.home) e).0
  where
    go : (b : Bind) → is_global b ≡ true → is_local b ≡ false
    go Local h = absurd (true≢false (sym h))
    go Global h = refl
    go Weak h = refl

weak_unlocal : (s : Symbol) → is_weak_definition s ≡ true → is_local s.bind ≡ false
weak_unlocal s e = go s.bind (and_parts (is_weak s.bind) (is_defined s.home) e).0
  where
    go : (b : Bind) → is_weak b ≡ true → is_local b ≡ false
    go Local h = absurd (true≢false (sym h))
    go Global h = refl
    go Weak h = refl

not_both_binds : (s : Symbol) → is_weak_definition s ≡ true → is_definition s ≡ true → ⊥
not_both_binds s e f = go s.bind (and_parts (is_weak s.bind) (is_defined s.home) e).0 (and_parts (is_global s.bind) (is_defined s.home) f).0
  where
    go : (b : Bind) → is_weak b ≡ true → is_global b ≡ true → ⊥
    go Local h k = true≢false (sym h)
    go Global h k = true≢false (sym h)
    go Weak h k = true≢false (sym k)

-- a WEAK definition and a GLOBAL one have different names
weak_apart : (symbols : List Symbol) → each_pair may_both_be symbols ≡ true → (n m : List ℕ) → In n (Names is_weak_definition 1 symbols) → In m (Names is_definition 1 symbols) → not (equals n m) ≡ true
weak_apart symbols h n m i j = go (pairs-In may_both_be symbols h x.0 y.0 x.1 y.1)
  where
    x : (s : Symbol) × In s symbols × (is_weak_definition s ≡ true) × (n ≡ s.name)
    x = name_of is_weak_definition symbols 1 n i

    y : (s : Symbol) × In s symbols × (is_definition s ≡ true) × (m ≡ s.name)
    y = name_of is_definition symbols 1 m j

    named : not (equals x.0.name y.0.name) ≡ true → not (equals n m) ≡ true
    named e = ap (λ (v : List ℕ). not (equals v m)) x.3 ∙ (ap (λ (v : List ℕ). not (equals x.0.name v)) y.3 ∙ e)

    unnot : (b : Bool) → not b ≡ true → b ≡ false
    unnot true e = absurd (true≢false (sym e))
    unnot false e = refl

    go : (x.0 ≡ y.0) ⊎ ((may_both_be x.0 y.0 ≡ true) ⊎ (may_both_be y.0 x.0 ≡ true)) → not (equals n m) ≡ true
    go (inl e) = absurd (not_both_binds x.0 x.2 (subst (λ (s : Symbol). is_definition s ≡ true) (sym e) y.2))
    go (inr (inl e)) = named (unlike (is_local x.0.bind) (is_local y.0.bind) (equals x.0.name y.0.name) (weak_unlocal x.0 x.2) (global_unlocal y.0 y.2) e)
    go (inr (inr e)) = named (ap not (equals_swap y.0.name x.0.name (unnot (equals y.0.name x.0.name) (unlike (is_local y.0.bind) (is_local x.0.bind) (equals y.0.name x.0.name) (global_unlocal y.0 y.2) (weak_unlocal x.0 x.2) e))))

module _ (w : World) (f : Source) (ns : ℕ) (w' : World) (app : Appended w f ns w') where
  -- within the new cell a name stands once
  pub append_own : IsSoundObject app.object → list_all has_each_name_once w.cells ≡ true → list_all has_each_name_once w'.cells ≡ true
  append_own s h = subst (λ (v : World). list_all has_each_name_once v.cells ≡ true) app.is (all_push has_each_name_once w.cells (new_cell w ns f app.object) h own)
    where
      own : has_each_name_once (new_cell w ns f app.object) ≡ true
      own =
          subst (λ l. each_pair (λ a b. not (equals a b)) (map (λ (a : Alias). a.name) (weak_definitions_of app.object) ++ map (λ (a : Alias). a.name) l) ≡ true) (sym (append-nil (definitions_of app.object)))
          (pairs-append (λ a b. not (equals a b)) (map (λ (a : Alias). a.name) (weak_definitions_of app.object)) (map (λ (a : Alias). a.name) (definitions_of app.object))
          (distinct_names is_weak_definition weak_unlocal app.object.symbols 1 s.names) (distinct_names is_definition global_unlocal app.object.symbols 1 s.names) (weak_apart app.object.symbols s.names))

  -- the rule of names goes on to hold
  pub append_names : each_pair (may_both_stand w) w.cells ≡ true → each_pair (may_both_stand w') w'.cells ≡ true
  append_names h = subst (λ (v : World). each_pair (may_both_stand v) v.cells ≡ true) app.is (pairs_push (may_both_stand w) w.cells (new_cell w ns f app.object) h (may_stand w f ns w' app))
