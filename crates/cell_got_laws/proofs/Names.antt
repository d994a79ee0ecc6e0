-- Names and needs of a lowered object are those of the object.
use Rattle.std.proofs.Common.{◌≡◌, refl, sym, ◌∙◌, ap, subst, arith, ℕ, suc, ◌+◌, ◌<◌, ◌≤◌, Bool, true, false, cond, ◌&&◌, inl, inr, ◌⊎◌, List, [], ◌∷◌, ◌++◌, map, length}
use Rattle.std.proofs.lemmas.Option.{slice_get_within}
use Rattle.std.proofs.lemmas.List.{append-nil}
use Rattle.std.specs.Prelude.{filter, ◌==◌}
use Rattle.std.proofs.lemmas.Bool.{eqb-true, eq-eqb}
use Rattle.std.proofs.lemmas.List.Elements.{filter-append}
use Rattle.cell_num.specs.Lists.{In, numbered, numbered_from, upto}
use Rattle.cell_num.proofs.Elements.{any-Has, any-In, In-append, In-left, In-map, In-numbered, In-right, map-In}
use Rattle.cell_num.proofs.Sublists.{filter_same}
use Rattle.cell_num.specs.declared.kinds.RelKind.TheVariants.{PcrelHi20}
use Rattle.cell_object.specs.declared.object.Entry.{Entry}
use Rattle.cell_object.specs.declared.object.Object.{Object}
use Rattle.cell_object.specs.declared.object.Symbol.{Symbol}
use Rattle.cell_object.specs.Parts.{is_global, is_undefined}
use Rattle.cell_world.specs.Names.{definitions_of, is_definition, is_used, is_weak_definition, needs_of, weak_definitions_of}
use Rattle.cell_world.specs.World.{Alias}
use Rattle.cell_object.specs.Readable.{is_got}
use Rattle.cell_got.specs.Lower.{got_number, lower, lower_by, lowered_entry, slot_entry, slot_of, slot_symbol, slots_of, with_slots}
use Rattle.cell_got.proofs.Slots.{slot_asked, slot_there}

numbered_append : {X : Type 0} (i : ℕ) (xs ys : List X) → numbered_from i (xs ++ ys) ≡ numbered_from i xs ++ numbered_from (i + length xs) ys
numbered_append i [] ys = let n : i ≡ i + 0 = omega arith in ap (λ (k : ℕ). numbered_from k ys) n
numbered_append i (x ∷ xs) ys =
    let n : suc i + length xs ≡ i + suc (length xs) = omega arith in
    ap (λ (zs : List _). (i, x) ∷ zs) (numbered_append (suc i) xs ys ∙ ap (λ (k : ℕ). numbered_from (suc i) xs ++ numbered_from k ys) n)

numbered_there : (k : ℕ) (xs : List ℕ) (x : ℕ) → In x xs → (p : ℕ × ℕ) × In p (numbered_from k xs) × (p.1 ≡ x)
numbered_there k [] x i = absurd i
numbered_there k (y ∷ ys) x (inl e) = ((k, y), inl refl, sym e)
numbered_there k (y ∷ ys) x (inr i) = let r = numbered_there (suc k) ys x i in (r.0, inr r.1, r.2)

numbered_value : (k : ℕ) (xs : List ℕ) (p : ℕ × ℕ) → In p (numbered_from k xs) → In p.1 xs
numbered_value k [] p i = absurd i
numbered_value k (y ∷ ys) p (inl e) = inl (ap (λ (q : ℕ × ℕ). q.1) e)
numbered_value k (y ∷ ys) p (inr i) = inr (numbered_value (suc k) ys p i)

module _ (o : Object) where
  -- the symbols of slots pass no test that LOCAL symbols don't
  none_added : (p : ℕ × Symbol → Bool) (n i : ℕ) (ks : List ℕ) → ((j k : ℕ) → p (j, slot_symbol n k) ≡ false) → filter p (numbered_from i (map (slot_symbol n) ks)) ≡ []
  none_added p n i [] h = refl
  none_added p n i (k ∷ ks) h = ap (λ (b : Bool). cond b ((i, slot_symbol n k) ∷ filter p (numbered_from (suc i) (map (slot_symbol n) ks))) (filter p (numbered_from (suc i) (map (slot_symbol n) ks)))) (h i k) ∙ none_added p n (suc i) ks h

  only_old : (p : ℕ × Symbol → Bool) (n : ℕ) (ks : List ℕ) → ((j k : ℕ) → p (j, slot_symbol n k) ≡ false) → filter p (numbered_from 1 (o.symbols ++ map (slot_symbol n) ks)) ≡ filter p (numbered_from 1 o.symbols)
  only_old p n ks h =
      ap (filter p) (numbered_append 1 o.symbols (map (slot_symbol n) ks))
      ∙ (filter-append p (numbered_from 1 o.symbols) (numbered_from (1 + length o.symbols) (map (slot_symbol n) ks))
      ∙ (ap (λ (zs : List (ℕ × Symbol)). filter p (numbered_from 1 o.symbols) ++ zs) (none_added p n (1 + length o.symbols) ks h)
      ∙ append-nil (filter p (numbered_from 1 o.symbols))))

  pub definitions_stay : definitions_of (lower o) ≡ definitions_of o
  definitions_stay = go (slots_of o)
    where
      go : (slots : List ℕ) → definitions_of (lower_by slots o) ≡ definitions_of o
      go [] = refl
      go (x ∷ slots) =
          ap (map (λ (p : ℕ × Symbol). let a : Alias = record { name = p.1.name; symbol = p.0 } in a)) (only_old (λ p. is_definition p.1) (got_number o) (upto (length (x ∷ slots))) (λ j k. refl))

  pub weak_stay : weak_definitions_of (lower o) ≡ weak_definitions_of o
  weak_stay = go (slots_of o)
    where
      go : (slots : List ℕ) → weak_definitions_of (lower_by slots o) ≡ weak_definitions_of o
      go [] = refl
      go (x ∷ slots) =
          ap (map (λ (p : ℕ × Symbol). let a : Alias = record { name = p.1.name; symbol = p.0 } in a)) (only_old (λ p. is_weak_definition p.1) (got_number o) (upto (length (x ∷ slots))) (λ j k. refl))

  -- an old symbol is used as before: a site's slot uses it where the site did
  module _ (slots : List ℕ) (there : (e : Entry) → In e o.entries → is_got e ≡ true → In e.symbol slots) (asked : (x : ℕ) → In x slots → (e : Entry) × In e o.entries × (is_got e ≡ true) × (e.symbol ≡ x)) where
    abbrev new : Object
    new = with_slots (got_number o) slots o

    abbrev low : Entry → Entry
    low = lowered_entry (suc (length o.symbols)) slots

    same_bool : (a b : Bool) → (a ≡ true → b ≡ true) → (b ≡ true → a ≡ true) → a ≡ b
    same_bool true b f g = sym (f refl)
    same_bool false true f g = g refl
    same_bool false false f g = refl

    slot_fills : (x : ℕ) → In x slots → (p : ℕ × ℕ) × In p (numbered slots) × (p.1 ≡ x)
    slot_fills x i = numbered_there 0 slots x i

    low_is : (e : Entry) → ((is_got e ≡ true) × (length o.symbols < (low e).symbol)) ⊎ ((is_got e ≡ false) × (low e ≡ e))
    low_is e = go (is_got e) refl
      where
        go : (b : Bool) → is_got e ≡ b → ((is_got e ≡ true) × (length o.symbols < (low e).symbol)) ⊎ ((is_got e ≡ false) × (low e ≡ e))
        go true g = inl (g, subst (λ (d : Entry). length o.symbols < d.symbol) (sym (ap (λ (b : Bool). elim b as (λ _. Entry) [ true ↦ record e { kind = PcrelHi20; symbol = suc (length o.symbols) + slot_of slots e.symbol } | false ↦ e ]) g)) (omega arith))
        go false g = inr (g, ap (λ (b : Bool). elim b as (λ _. Entry) [ true ↦ record e { kind = PcrelHi20; symbol = suc (length o.symbols) + slot_of slots e.symbol } | false ↦ e ]) g)

    used_same : (j : ℕ) → j ≤ length o.symbols → is_used new j ≡ is_used o j
    used_same j old = same_bool (is_used new j) (is_used o j) back forth
      where
        of_low : (d e : Entry) → In e o.entries → d ≡ low e → (d.symbol == j) ≡ true → is_used o j ≡ true
        of_low d e i same k = cases (low_is e)
          where
            cases : ((is_got e ≡ true) × (length o.symbols < (low e).symbol)) ⊎ ((is_got e ≡ false) × (low e ≡ e)) → is_used o j ≡ true
            cases (inl l) = let n : d.symbol ≡ (low e).symbol = ap (λ (x : Entry). x.symbol) same in let m = eqb-true d.symbol j k in let g = l.1 in absurd (omega (arith, n, m, g, old))
            cases (inr l) = any-In (λ (x : Entry). x.symbol == j) o.entries e i (subst (λ (x : Entry). (x.symbol == j) ≡ true) (same ∙ l.1) k)

        back : is_used new j ≡ true → is_used o j ≡ true
        back u =
            let d = any-Has (λ (x : Entry). x.symbol == j) new.entries u in
            from d.0 d.2 (In-append (map low o.entries) (map (slot_entry (got_number o)) (numbered slots)) d.0 d.1)
          where
            from : (d : Entry) → (d.symbol == j) ≡ true → In d (map low o.entries) ⊎ In d (map (slot_entry (got_number o)) (numbered slots)) → is_used o j ≡ true
            from d k (inl i) = let e = In-map low o.entries d i in of_low d e.0 e.1 e.2 k
            from d k (inr i) =
                let p = In-map (slot_entry (got_number o)) (numbered slots) d i in
                let n : d.symbol ≡ p.0.1 = ap (λ (x : Entry). x.symbol) p.2 in
                let a = asked p.0.1 (numbered_value 0 slots p.0 p.1) in
                any-In (λ (x : Entry). x.symbol == j) o.entries a.0 a.1 (eq-eqb a.0.symbol j (a.3 ∙ (sym n ∙ eqb-true d.symbol j k)))

        forth : is_used o j ≡ true → is_used new j ≡ true
        forth u = let e = any-Has (λ (x : Entry). x.symbol == j) o.entries u in cases e.0 e.1 e.2 (low_is e.0)
          where
            cases : (e : Entry) → In e o.entries → (e.symbol == j) ≡ true → ((is_got e ≡ true) × (length o.symbols < (low e).symbol)) ⊎ ((is_got e ≡ false) × (low e ≡ e)) → is_used new j ≡ true
            cases e i k (inl l) =
                let f = slot_fills e.symbol (there e i l.0) in
                any-In (λ (x : Entry). x.symbol == j) new.entries (slot_entry (got_number o) f.0)
                (In-right (map low o.entries) (map (slot_entry (got_number o)) (numbered slots)) (slot_entry (got_number o) f.0) (map-In (slot_entry (got_number o)) (numbered slots) f.0 f.1))
                (eq-eqb f.0.1 j (f.2 ∙ eqb-true e.symbol j k))
            cases e i k (inr l) =
                any-In (λ (x : Entry). x.symbol == j) new.entries e
                (In-left (map low o.entries) (map (slot_entry (got_number o)) (numbered slots)) e (subst (λ (x : Entry). In x (map low o.entries)) l.1 (map-In low o.entries e i))) k

  pub needs_stay : needs_of (lower o) ≡ needs_of o
  needs_stay = go (slots_of o) (slot_there o) (slot_asked o)
    where
      go : (slots : List ℕ) → ((e : Entry) → In e o.entries → is_got e ≡ true → In e.symbol slots) → ((x : ℕ) → In x slots → (e : Entry) × In e o.entries × (is_got e ≡ true) × (e.symbol ≡ x))
          → needs_of (lower_by slots o) ≡ needs_of o
      go [] there asked = refl
      go (x ∷ slots) there asked =
          ap (map (λ (p : ℕ × Symbol). p.1.name))
          (only_old (λ p. is_global p.1.bind && is_undefined p.1.home && is_used (with_slots (got_number o) (x ∷ slots) o) p.0) (got_number o) (upto (length (x ∷ slots))) (λ j k. refl)
          ∙ filter_same (λ p. is_global p.1.bind && is_undefined p.1.home && is_used (with_slots (got_number o) (x ∷ slots) o) p.0) (λ p. is_global p.1.bind && is_undefined p.1.home && is_used o p.0) (numbered_from 1 o.symbols)
          (λ p i. let k = In-numbered o.symbols 1 p i in let l = slice_get_within o.symbols k.0 p.1 k.1 in let n = k.2 in
          ap (λ (b : Bool). is_global p.1.bind && is_undefined p.1.home && b) (used_same (x ∷ slots) there asked p.0 (omega (arith, l, n)))))
