-- Definitions and needs, symbol by symbol.
use Rattle.std.proofs.Common.{◌≡◌, refl, sym, ◌∙◌, ap, ℕ, suc, ◌+◌, ◌<◌, ◌≤◌, Bool, true, false, cond, List, [], ◌∷◌, ◌++◌, length, map, get_or, drop, add-one, append-nil, append_assoc}
use Rattle.std.specs.Prelude.{not, filter, ◌&&◌, ◌||◌}
use Rattle.std.specs.List.{list_all}
use Rattle.std.proofs.lemmas.List.{drop_more, drop_all}
use Rattle.cell_num.specs.Lists.{numbered_from, each_pair, equals}
use Rattle.cell_object.specs.declared.object.Symbol.{Symbol}
use Rattle.cell_object.specs.declared.object.Bind.{Bind}
use Rattle.cell_object.specs.declared.object.Bind.TheVariants.{Local, Global, Weak}
use Rattle.cell_object.specs.Parts.{is_local, is_defined}
use Rattle.cell_object.specs.Sound.{may_both_be}
use Rattle.cell_world.specs.World.{Alias}
use Rattle.cell_world.specs.Names.{has_name}
use Rattle.cell_space.specs.Rows.{are_apart}
use Rattle.cell_gather.specs.Appending.{definitions_from, is_bind, is_defined_as}

-- what passes a test among numbered symbols
module _ {Y : Type 0} (test : ℕ → Symbol → Bool) (view : ℕ × Symbol → Y) where
  abbrev pub passed_from : ℕ → List Symbol → List Y
  passed_from n symbols = map view (filter (λ p. test p.0 p.1) (numbered_from n symbols))

  pub passed_next : (symbols : List Symbol) (place : ℕ) (s : Symbol) → place < length symbols → s ≡ get_or symbols place s
      → passed_from (suc place) (drop place symbols) ≡ map view (cond (test (suc place) s) ((suc place, s) ∷ filter (λ p. test p.0 p.1) (numbered_from (suc (suc place)) (drop (place + 1) symbols))) (filter (λ p. test p.0 p.1) (numbered_from (suc (suc place)) (drop (place + 1) symbols))))
  passed_next symbols place s lt item =
      ap (passed_from (suc place)) (drop_more symbols place s lt ∙ ap (λ x. x ∷ drop (place + 1) symbols) (sym item))

  pub passed_here : (symbols : List Symbol) (place : ℕ) (s : Symbol) → place < length symbols → s ≡ get_or symbols place s → test (suc place) s ≡ true
      → passed_from (suc place) (drop place symbols) ≡ view (suc place, s) ∷ passed_from (suc (place + 1)) (drop (place + 1) symbols)
  passed_here symbols place s lt item here =
      let rest : List (ℕ × Symbol) = filter (λ p. test p.0 p.1) (numbered_from (suc (suc place)) (drop (place + 1) symbols)) in
      passed_next symbols place s lt item
      ∙ ap (λ b. map view (cond b ((suc place, s) ∷ rest) rest)) here
      ∙ ap (λ n. view (suc place, s) ∷ passed_from (suc n) (drop (place + 1) symbols)) (sym (add-one place))

  one_first : (b : Bool) (n : ℕ) (s : Symbol) (rest : List (ℕ × Symbol)) → map view (cond b ((n, s) ∷ rest) rest) ≡ map view (cond b ((n, s) ∷ []) []) ++ map view rest
  one_first true n s rest = refl
  one_first false n s rest = refl

  -- so far, with those that are left
  pub one_taken : (symbols : List Symbol) (place : ℕ) (s : Symbol) (old new all : List Y) → place < length symbols → s ≡ get_or symbols place s
      → new ≡ old ++ passed_from (place + 1) (s ∷ []) → old ++ passed_from (suc place) (drop place symbols) ≡ all → new ++ passed_from (suc (place + 1)) (drop (place + 1) symbols) ≡ all
  one_taken symbols place s old new all lt item e far =
      let rest : List (ℕ × Symbol) = filter (λ p. test p.0 p.1) (numbered_from (suc (suc place)) (drop (place + 1) symbols)) in
      ap (λ ys. ys ++ passed_from (suc (place + 1)) (drop (place + 1) symbols)) e
      ∙ append_assoc old (passed_from (place + 1) (s ∷ [])) (passed_from (suc (place + 1)) (drop (place + 1) symbols))
      ∙ ap (λ n. old ++ (passed_from n (s ∷ []) ++ passed_from (suc n) (drop (place + 1) symbols))) (add-one place)
      ∙ ap (λ ys. old ++ ys) (sym (passed_next symbols place s lt item ∙ one_first (test (suc place) s) (suc place) s rest))
      ∙ far

  pub at_end : (symbols : List Symbol) (place : ℕ) (old all : List Y) → length symbols ≤ place → old ++ passed_from (suc place) (drop place symbols) ≡ all → old ≡ all
  at_end symbols place old all le far = sym (append-nil old) ∙ ap (λ ss. old ++ passed_from (suc place) ss) (sym (drop_all place symbols le)) ∙ far

  -- one symbol alone
  pub one_added : (n : ℕ) (s : Symbol) (y : Y) (old new : List Y) → test n s ≡ true → y ≡ view (n, s) → new ≡ old ++ y ∷ [] → new ≡ old ++ passed_from n (s ∷ [])
  one_added n s y old new here is e = e ∙ ap (λ x. old ++ x ∷ []) is ∙ ap (λ b. old ++ map view (cond b ((n, s) ∷ []) [])) (sym here)

  pub none_added : (n : ℕ) (s : Symbol) (old : List Y) → test n s ≡ false → old ≡ old ++ passed_from n (s ∷ [])
  none_added n s old off = sym (append-nil old) ∙ ap (λ b. old ++ map view (cond b ((n, s) ∷ []) [])) (sym off)

abbrev pub defines : Bind → ℕ → Symbol → Bool
defines bind n s = is_defined_as bind s

abbrev pub as_alias : ℕ × Symbol → Alias
as_alias p = record { name = p.1.name; symbol = p.0 }

abbrev pub its_name : ℕ × Symbol → List ℕ
its_name p = p.1.name

left : (b c : Bool) → (b && c) ≡ true → b ≡ true
left true c e = refl
left false c e = absurd (cc e)

right : (b c : Bool) → (b && c) ≡ true → c ≡ true
right true c e = e
right false c e = absurd (cc e)

both : (b c : Bool) → b ≡ true → c ≡ true → (b && c) ≡ true
both true c e f = f
both false c e f = absurd (cc e)

-- two definitions of one binding have two names
two_names : (bind a b : Bind) (da db same : Bool) → is_local bind ≡ false → (is_bind bind a && da) ≡ true → (is_bind bind b && db) ≡ true → (is_local a || is_local b || not same) ≡ true → not same ≡ true
two_names Local a b da db same named d e may = absurd (cc named)
two_names Global Global Global da db same named d e may = may
two_names Global Global Local da db same named d e may = absurd (cc e)
two_names Global Global Weak da db same named d e may = absurd (cc e)
two_names Global Local b da db same named d e may = absurd (cc d)
two_names Global Weak b da db same named d e may = absurd (cc d)
two_names Weak Weak Weak da db same named d e may = may
two_names Weak Weak Local da db same named d e may = absurd (cc e)
two_names Weak Weak Global da db same named d e may = absurd (cc e)
two_names Weak Local b da db same named d e may = absurd (cc d)
two_names Weak Global b da db same named d e may = absurd (cc d)

abbrev differs : Alias → Alias → Bool
differs a b = not (equals a.name b.name)

module _ (bind : Bind) (named : is_local bind ≡ false) (a : ℕ) (s : Symbol) (here : is_defined_as bind s ≡ true) where
  one_differs : (b : Bool) (n : ℕ) (t : Symbol) (rest : List (ℕ × Symbol)) → is_defined_as bind t ≡ b → may_both_be s t ≡ true → list_all (differs (as_alias (a, s))) (map as_alias rest) ≡ true
      → list_all (differs (as_alias (a, s))) (map as_alias (cond b ((n, t) ∷ rest) rest)) ≡ true
  one_differs true n t rest is may all =
      both (not (equals s.name t.name)) _ (two_names bind s.bind t.bind (is_defined s.home) (is_defined t.home) (equals s.name t.name) named here is may) all
  one_differs false n t rest is may all = all

  all_differ : (n : ℕ) (symbols : List Symbol) → list_all (may_both_be s) symbols ≡ true → list_all (differs (as_alias (a, s))) (definitions_from bind n symbols) ≡ true
  all_differ n [] e = refl
  all_differ n (t ∷ symbols) e =
      one_differs (is_defined_as bind t) n t (filter (λ p. is_defined_as bind p.1) (numbered_from (suc n) symbols)) refl (left (may_both_be s t) _ e) (all_differ (suc n) symbols (right (may_both_be s t) _ e))

one_apart : (b : Bool) (n : ℕ) (s : Symbol) (rest : List (ℕ × Symbol)) → (b ≡ true → list_all (differs (as_alias (n, s))) (map as_alias rest) ≡ true) → are_apart (map as_alias rest) ≡ true
    → are_apart (map as_alias (cond b ((n, s) ∷ rest) rest)) ≡ true
one_apart true n s rest all apart = both (list_all (differs (as_alias (n, s))) (map as_alias rest)) _ (all refl) apart
one_apart false n s rest all apart = apart

definitions_apart : (bind : Bind) → is_local bind ≡ false → (n : ℕ) (symbols : List Symbol) → each_pair may_both_be symbols ≡ true → are_apart (definitions_from bind n symbols) ≡ true
definitions_apart bind named n [] e = refl
definitions_apart bind named n (s ∷ symbols) e =
    one_apart (is_defined_as bind s) n s (filter (λ p. is_defined_as bind p.1) (numbered_from (suc n) symbols))
    (λ here. all_differ bind named n s here (suc n) symbols (left (list_all (may_both_be s) symbols) _ e))
    (definitions_apart bind named (suc n) symbols (right (list_all (may_both_be s) symbols) _ e))

off : (b : Bool) → not b ≡ true → b ≡ false
off true e = absurd (cc e)
off false e = refl

neither : (b c : Bool) → b ≡ false → c ≡ false → (b || c) ≡ false
neither true c e f = absurd (cc e)
neither false c e f = f

in_all : (p : Alias → Bool) (xs : List Alias) (y : Alias) (ys : List Alias) → list_all p (xs ++ y ∷ ys) ≡ true → p y ≡ true
in_all p [] y ys e = left (p y) (list_all p ys) e
in_all p (x ∷ xs) y ys e = in_all p xs y ys (right (p x) _ e)

-- no row before has the name of a row
front_free : (xs : List Alias) (r : Alias) (ys : List Alias) → are_apart (xs ++ r ∷ ys) ≡ true → has_name xs r.name ≡ false
front_free [] r ys e = refl
front_free (x ∷ xs) r ys e =
    neither (equals x.name r.name) _ (off (equals x.name r.name) (in_all (differs x) xs r ys (left (list_all (differs x) (xs ++ r ∷ ys)) _ e)))
    (front_free xs r ys (right (list_all (differs x) (xs ++ r ∷ ys)) _ e))

-- the name of a definition is not there yet
pub definition_new : (bind : Bind) → is_local bind ≡ false → (symbols : List Symbol) (place : ℕ) (s : Symbol) (old : List Alias) → each_pair may_both_be symbols ≡ true → place < length symbols → s ≡ get_or symbols place s
    → old ++ definitions_from bind (suc place) (drop place symbols) ≡ definitions_from bind 1 symbols → is_defined_as bind s ≡ true → has_name old s.name ≡ false
definition_new bind named symbols place s old apart lt item far here =
    front_free old (as_alias (suc place, s)) (definitions_from bind (suc (place + 1)) (drop (place + 1) symbols))
    (ap are_apart (ap (λ ys. old ++ ys) (sym (passed_here (defines bind) as_alias symbols place s lt item here)) ∙ far)
    ∙ definitions_apart bind named 1 symbols apart)
