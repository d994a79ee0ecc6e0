-- By the rule of names one attached cell of a chain has a name, so who provides it doesn't depend on the order of cells.
use Rattle.std.proofs.Common.{◌≡◌, refl, sym, ◌∙◌, ap, ℕ, ◌⊎◌, inl, inr, Bool, true, false, not, ◌&&◌, ◌||◌, List, [], ◌∷◌, true≢false, Option, Some, None}
use Rattle.std.specs.Prelude.{filter_map, find, option_map}
use Rattle.std.specs.List.{list_any, cons_option}
use Rattle.std.proofs.lemmas.Slice.Eq.{bytes_eq-Decides}
use Rattle.cell_num.specs.Lists.{equals, holds, holds_name, first, each_pair, In}
use Rattle.cell_world.specs.World.{World, Cell, Alias, is_attached}
use Rattle.cell_world.specs.Names.{Provider, chain, names_of, symbol_named, are_on_one_path}
use Rattle.cell_world.specs.Coherent.{all_names, may_both_stand}
use Rattle.cell_num.proofs.Elements.{any-In, map-In, found-In, pairs-In}
use Rattle.cell_lemmas.proofs.Naming.Paths.{on_one_path}

-- what the cell is as a provider of the name
abbrev pub offered : List ℕ → Cell → Option Provider
offered name c = option_map (λ symbol. record { cell = c.id.0; symbol = symbol }) (symbol_named c name)

module _ {X Y : Type 0} (f : X → Option Y) where
  -- where all that is given is the same, that is the first
  pub first_only : (xs : List X) (x : X) (y : Y) → In x xs → f x ≡ Some y → ((z : X) (v : Y) → In z xs → f z ≡ Some v → v ≡ y) → first (filter_map f xs) ≡ Some y
  first_only [] x y i e u = absurd i
  first_only (z ∷ xs) x y i e u = go (f z) refl i (λ j. first_only xs x y j e (λ a v m. u a v (inr m)))
    where
      go : (o : Option Y) → f z ≡ o → (x ≡ z) ⊎ In x xs → (In x xs → first (filter_map f xs) ≡ Some y) → first (cons_option o (filter_map f xs)) ≡ Some y
      go (Some v) k j ih = ap (λ (a : Y). Some a) (u z v (inl refl) k)
      go None k (inr j) ih = ih j
      go None k (inl j) ih = let h : None ≡ Some y = sym k ∙ (ap f (sym j) ∙ e) in cc

  pub first_none : (xs : List X) → ((z : X) (v : Y) → In z xs → f z ≡ Some v → ⊥) → first (filter_map f xs) ≡ None
  first_none [] u = refl
  first_none (z ∷ xs) u = go (f z) refl (first_none xs (λ a v m. u a v (inr m)))
    where
      go : (o : Option Y) → f z ≡ o → first (filter_map f xs) ≡ None → first (cons_option o (filter_map f xs)) ≡ None
      go None k ih = ih
      go (Some v) k ih = absurd (u z v (inl refl) k)

-- a name that two cells have
shared_name : (a b : Cell) (name : List ℕ) (m n : ℕ) → symbol_named a name ≡ Some m → symbol_named b name ≡ Some n → list_any (holds_name (all_names b)) (all_names a) ≡ true
shared_name a b name m n h k = go (find (λ (x : Alias). equals x.name name) (names_of a)) refl h (find (λ (x : Alias). equals x.name name) (names_of b)) refl k
  where
    go : (o : Option Alias) → find (λ (x : Alias). equals x.name name) (names_of a) ≡ o → option_map (λ (x : Alias). x.symbol) o ≡ Some m
        → (p : Option Alias) → find (λ (x : Alias). equals x.name name) (names_of b) ≡ p → option_map (λ (x : Alias). x.symbol) p ≡ Some n → list_any (holds_name (all_names b)) (all_names a) ≡ true
    go None e h p f k = cc
    go (Some x) e h None f k = cc
    go (Some x) e h (Some y) f k =
        let i = found-In (λ (z : Alias). equals z.name name) (names_of a) x e in
        let j = found-In (λ (z : Alias). equals z.name name) (names_of b) y f in
        let s : y.name ≡ x.name = (bytes_eq-Decides y.name name).0 j.1 ∙ sym ((bytes_eq-Decides x.name name).0 i.1) in
        any-In (holds_name (all_names b)) (all_names a) x.name (map-In (λ (z : Alias). z.name) (names_of a) x i.0)
        (any-In (λ other. equals other x.name) (all_names b) y.name (map-In (λ (z : Alias). z.name) (names_of b) y j.0) ((bytes_eq-Decides y.name x.name).1 s))

not_both_stand : (a b p e l : Bool) → (not (a && b && p) || not e && not l) ≡ true → a ≡ true → b ≡ true → p ≡ true → l ≡ true → ⊥
not_both_stand true true true e true h i j k m = go e h
  where
    go : (e : Bool) → (not e && false) ≡ true → ⊥
    go true h = true≢false (sym h)
    go false h = true≢false (sym h)
not_both_stand false b p e l h i j k m = true≢false (sym i)
not_both_stand true false p e l h i j k m = true≢false (sym j)
not_both_stand true true false e l h i j k m = true≢false (sym k)
not_both_stand true true true e false h i j k m = true≢false (sym m)

module _ (w : World) (names : each_pair (may_both_stand w) w.cells ≡ true) (ns : ℕ) where
  -- the cell may provide the name in the namespace
  pub record Candidate (name : List ℕ) (c : Cell) : Type 0 where
    pub present : In c w.cells
    pub attached : is_attached c.standing ≡ true
    pub in_chain : holds (chain w.namespaces ns) c.ns ≡ true
    pub symbol : ℕ
    pub has : symbol_named c name ≡ Some symbol

  pub one_candidate : (name : List ℕ) (c d : Cell) → Candidate name c → Candidate name d → c ≡ d
  one_candidate name c d x y = go (pairs-In (may_both_stand w) w.cells names c d x.present y.present)
    where
      clash : (a b : Cell) → Candidate name a → Candidate name b → may_both_stand w a b ≡ true → ⊥
      clash a b p q h = not_both_stand (is_attached a.standing) (is_attached b.standing) (are_on_one_path w.namespaces a.ns b.ns) (equals a.stem b.stem) (list_any (holds_name (all_names b)) (all_names a))
          h p.attached q.attached (on_one_path w.namespaces ns a.ns b.ns p.in_chain q.in_chain) (shared_name a b name p.symbol q.symbol p.has q.has)

      go : (c ≡ d) ⊎ ((may_both_stand w c d ≡ true) ⊎ (may_both_stand w d c ≡ true)) → c ≡ d
      go (inl e) = e
      go (inr (inl h)) = absurd (clash c d x y h)
      go (inr (inr h)) = absurd (clash d c y x h)
