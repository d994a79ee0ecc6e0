-- What linking computes for an entry depends on the targets of the entry, and of the high entry that it stands for, alone.
use Rattle.std.proofs.Common.{◌≡◌, refl, sym, ◌∙◌, ap, ℕ, Bool, true, false, cond, ◌&&◌, List, [], ◌∷◌, map, Option, Some, None}
use Rattle.std.specs.Prelude.{ℤ, pos, find, filter, fold, option_map, option_and_then, unwrap_or, ◌==◌}
use Rattle.std.proofs.lemmas.List.Folds.{fold-map}
use Rattle.cell_num.specs.Kinds.{is_pcrel_lo12, is_pcrel_hi20}
use Rattle.cell_object.specs.declared.object.Entry.{Entry}
use Rattle.cell_object.specs.Parts.{label_of, high_of}
use Rattle.cell_reloc.specs.Relocation.{does_fit, inserted}
use Rattle.cell_world.specs.declared.state.NewCell.{NewCell}
use Rattle.cell_world.specs.declared.state.Target.{Target}
use Rattle.cell_world.specs.Linked.Field.{Bound, bound_by, number_at, bound_high_of, number_of, fits, is_at, own_number, field_value_of}
use Rattle.cell_num.specs.Lists.{In}
use Rattle.cell_num.proofs.Elements.{In-filtered, filter-Passes, fold_same}
use Rattle.cell_num.proofs.Sublists.{map_filter}

abbrev pub bind : (Entry → Target) → Entry → Bound
bind t e = record { entry = e; target = t e }

pub bound_map : (t : Entry → Target) (entries : List Entry) → bound_by entries (map t entries) ≡ map (bind t) entries
bound_map t [] = refl
bound_map t (e ∷ entries) = ap (λ (bs : List Bound). bind t e ∷ bs) (bound_map t entries)

pub find_map : {X Y : Type 0} (p : Y → Bool) (f : X → Y) (xs : List X) → find p (map f xs) ≡ option_map f (find (λ x. p (f x)) xs)
find_map p f [] = refl
find_map {X = X} {Y = Y} p f (x ∷ xs) = go (p (f x)) (find_map p f xs)
  where
    go : (b : Bool) → find p (map f xs) ≡ option_map f (find (λ x. p (f x)) xs) → cond b (Some (f x)) (find p (map f xs)) ≡ option_map f (cond b (Some x) (find (λ x. p (f x)) xs))
    go true ih = refl
    go false ih = ih

module _ (c : NewCell) where
  abbrev bound : (Entry → Target) → List Bound
  bound t = map (bind t) c.object.entries

  high_bound : (t : Entry → Target) (e : Entry) → bound_high_of c (bound t) e ≡ option_map (bind t) (high_of c.object e)
  high_bound t e = go (label_of c.object e)
    where
      go : (o : Option (ℕ × ℕ)) → option_and_then (λ label. find (λ (h : Bound). is_pcrel_hi20 h.entry.kind && h.entry.section == label.0 && h.entry.offset == label.1) (bound t)) o
          ≡ option_map (bind t) (option_and_then (λ label. find (λ (h : Entry). is_pcrel_hi20 h.kind && h.section == label.0 && h.offset == label.1) c.object.entries) o)
      go None = refl
      go (Some label) = find_map (λ (h : Bound). is_pcrel_hi20 h.entry.kind && h.entry.section == label.0 && h.entry.offset == label.1) (bind t) c.object.entries

  -- the entry's own target, and that of the high entry at its label
  pub record HasSame (t u : Entry → Target) (e : Entry) : Type 0 where
    pub own : t e ≡ u e
    pub high : is_pcrel_lo12 e.kind ≡ true → (h : Entry) → high_of c.object e ≡ Some h → t h ≡ u h

  pub same_number : (t u : Entry → Target) (e : Entry) → HasSame t u e → (v : ℕ) → number_of c (bound t) (bind t e) v ≡ number_of c (bound u) (bind u e) v
  same_number t u e s v = go (is_pcrel_lo12 e.kind) refl
    where
      highs : (o : Option Entry) → ((h : Entry) → o ≡ Some h → t h ≡ u h) → option_map (bind t) o ≡ option_map (bind u) o
      highs None f = refl
      highs (Some h) f = let g : Target → Option Bound = λ x. Some (record { entry = h; target = x }) in ap g (f h refl)

      go : (b : Bool) → is_pcrel_lo12 e.kind ≡ b
          → elim b as (λ _. ℤ) [ true ↦ unwrap_or (option_map (λ high. number_at c high v) (bound_high_of c (bound t) e)) (pos 0) | false ↦ number_at c (bind t e) v ]
          ≡ elim b as (λ _. ℤ) [ true ↦ unwrap_or (option_map (λ high. number_at c high v) (bound_high_of c (bound u) e)) (pos 0) | false ↦ number_at c (bind u e) v ]
      go true k = ap (λ (o : Option Bound). unwrap_or (option_map (λ high. number_at c high v) o) (pos 0)) (high_bound t e ∙ (highs (high_of c.object e) (s.high k) ∙ sym (high_bound u e)))
      go false k = ap (λ (x : Target). number_at c (record { entry = e; target = x }) v) s.own

  pub same_fits : (t u : Entry → Target) (e : Entry) → HasSame t u e → fits c (bound t) (bind t e) ≡ fits c (bound u) (bind u e)
  same_fits t u e s = ap (does_fit e.kind) (same_number t u e s 0)

  value_is : (t : Entry → Target) (f : Entry) → field_value_of c (bound t) f ≡ fold (λ v e. inserted e.kind v (number_of c (bound t) (bind t e) v)) (own_number c.object f) (filter (is_at f) c.object.entries)
  value_is t f =
      ap (fold (λ v b. inserted b.entry.kind v (number_of c (bound t) b v)) (own_number c.object f)) (sym (map_filter (bind t) (λ (b : Bound). is_at f b.entry) c.object.entries))
      ∙ fold-map (λ v (b : Bound). inserted b.entry.kind v (number_of c (bound t) b v)) (bind t) (own_number c.object f) (filter (is_at f) c.object.entries)

  -- a field has the same value where each entry at it has the same target
  pub same_value : (t u : Entry → Target) (f : Entry) → ((e : Entry) → In e c.object.entries → is_at f e ≡ true → HasSame t u e) → field_value_of c (bound t) f ≡ field_value_of c (bound u) f
  same_value t u f s =
      value_is t f
      ∙ (fold_same (λ v e. inserted e.kind v (number_of c (bound t) (bind t e) v)) (λ v e. inserted e.kind v (number_of c (bound u) (bind u e) v)) (own_number c.object f) (filter (is_at f) c.object.entries)
      (λ v e k. ap (inserted e.kind v) (same_number t u e (s e (In-filtered (is_at f) c.object.entries e k) (filter-Passes (is_at f) c.object.entries e k)) v))
      ∙ sym (value_is u f))
