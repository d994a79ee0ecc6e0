-- The machine with a change's new cells before they are placed, with the names that they take on.
use Rattle.std.proofs.Common.{◌≡◌, refl, sym, ◌∙◌, ap, subst, arith, ℕ, suc, ◌+◌, ◌≤◌, ◌<◌, ◌⊎◌, inl, inr, Bool, true, false, cond, List, [], ◌∷◌, ◌++◌, map, length, Option, Some, None, Ok}
use Rattle.std.specs.Prelude.{filter, filter_map, fold, option_and_then, slice_get, is_some, nat_le, ◌==◌}
use Rattle.std.specs.List.{list_all, list_any, cons_option}
use Rattle.std.proofs.lemmas.Bool.{eqb-true, eq-eqb, ltb-true}
use Rattle.std.proofs.lemmas.List.{map-append, length-map}
use Rattle.cell_num.specs.Lists.{equals, In}
use Rattle.cell_world.specs.World.{World, Cell, Alias, cell_of, is_attached}
use Rattle.cell_world.specs.Names.{clash_name, names_of, definitions_of, weak_symbol_named, base_name}
use Rattle.cell_world.specs.Gather.{Source, append_cell, bring, first_lack, fresh_cells}
use Rattle.cell_world.specs.Reexport.{symbol_of_one, successor_of, heir_of, take_on, Exchange, with_reexports}
use Rattle.cell_world.specs.Outcome.{each}
use Rattle.cell_world.specs.Coherent.{AreSound, IsCoherent, is_known_cell}
use Rattle.cell_num.proofs.Elements.{all-In, In-all, All-In, In-append, In-filtered, found-In, any-In, In-map, below_there}
use Rattle.cell_num.proofs.Sublists.{In-fixed}
use Rattle.cell_lemmas.proofs.Naming.Known.{known_parts}
use Rattle.cell_lemmas.proofs.Outcomes.{bind_ok}
use Rattle.cell_lemmas.proofs.Naming.Appended.{Appended, append_ok, ok_same}
use Rattle.cell_lemmas.proofs.Naming.Brought.{brought}
use Rattle.cell_lemmas.proofs.Naming.Gathered.{Ranks, Extends, extends_none, good_append}
use Rattle.cell_lemmas.proofs.Placement.Ready.{IsBase, ready_base}
use Rattle.cell_lemmas.proofs.Placement.PlacedReady.{ready_ranks}
use Rattle.cell_lemmas.proofs.Targeting.Present.{and_then_ok}
use Rattle.cell_lemmas.proofs.Targeting.Detached.{put, put_out}
use Rattle.cell_lemmas.proofs.Naming.SetAside.{aside_ranks, aside_base}
use Rattle.cell_lemmas.proofs.Naming.Reexported.{renamed, renamed_same, renamed_out, renamed_ranks}
use Rattle.cell_world.specs.Change.{Want, Copy, Change, replaced, old_of, swapped_out, set_aside, append_copy, append_want, exchange_at, exchanges_from, with_names, gather}
use Rattle.cell_change_law.specs.Sound.{HasCopied, IsSound}

fold_keeps : {X A : Type 0} (P : X → Type 0) (f : X → A → X) (items : List A) → ((x : X) (a : A) → In a items → P x → P (f x a)) → (x : X) → P x → P (fold f x items)
fold_keeps P f [] k x p = p
fold_keeps P f (a ∷ items) k x p = fold_keeps P f items (λ y b i. k y b (inr i)) (f x a) (k x a (inl refl) p)

one_In : (xs : List Alias) (s : ℕ) → symbol_of_one xs ≡ Some s → (a : Alias) × In a xs × (a.symbol ≡ s)
one_In [] s h = cc
one_In (a ∷ []) s h = (a, inl refl, cc)
one_In (a ∷ b ∷ rest) s h = cc

heir_parts : (u : World) (c : Cell) (name : List ℕ) (s : ℕ) → heir_of u c name ≡ Some s → (clash_name u c.ns name ≡ None) × (successor_of c name ≡ Some s) × (weak_symbol_named c name ≡ None)
heir_parts u c name s h = go (weak_symbol_named c name) refl (clash_name u c.ns name) refl h
  where
    go : (x : Option ℕ) → weak_symbol_named c name ≡ x → (o : Option ℕ) → clash_name u c.ns name ≡ o → cond (is_some x) None (elim o as (λ _. Option ℕ) [ None ↦ successor_of c name | Some holder ↦ None ]) ≡ Some s
        → (clash_name u c.ns name ≡ None) × (successor_of c name ≡ Some s) × (weak_symbol_named c name ≡ None)
    go (Some n) f o e k = cc
    go None f None e k = (e, k, f)
    go None f (Some n) e k = cc

heir_own : (c : Cell) (name : List ℕ) (s : ℕ) → successor_of c name ≡ Some s → list_any (λ d. d.symbol == s) (definitions_of c.object) ≡ true
heir_own c name s h =
    let a = one_In (filter (λ (a : Alias). equals (base_name a.name) (base_name name)) (definitions_of c.object)) s h in
    any-In (λ (d : Alias). d.symbol == s) (definitions_of c.object) a.0 (In-filtered (λ (a : Alias). equals (base_name a.name) (base_name name)) (definitions_of c.object) a.0 a.1) (eq-eqb a.0.symbol s a.2)

-- v is what cells come to, and at least so many numbers are given
module _ (v : World) (known : list_all (is_known_cell v) v.cells ≡ true) (floor : ℕ) where
  abbrev pub Going : World → Type 0
  Going u = (Ranks u × Extends v u) × (floor ≤ u.next_cell)

  number_below : (c : Cell) → In c v.cells → c.id.0 < v.next_cell
  number_below c i = ltb-true c.id.0 v.next_cell (known_parts v c (all-In (is_known_cell v) v.cells known c i)).number

  -- a number that is new is that of a new cell
  new_attached : (u : World) (x : Extends v u) (number : ℕ) (c : Cell) → v.next_cell ≤ number → cell_of u number ≡ Some c → is_attached c.standing ≡ true
  new_attached u x number c h e =
      let f = found-In (λ (y : Cell). y.id.0 == number) u.cells c e in
      go (In-append v.cells x.new c (subst (λ (z : World). In c z.cells) (sym x.is) f.0)) (eqb-true c.id.0 number f.1)
    where
      go : In c v.cells ⊎ In c x.new → c.id.0 ≡ number → is_attached c.standing ≡ true
      go (inl i) n = absurd (omega (arith, number_below c i, h, n))
      go (inr i) n = all-In (λ (y : Cell). is_attached y.standing) x.new x.attached c i

  renamed_extends : (u : World) (number : ℕ) (a : Alias) → v.next_cell ≤ number → Extends v u → Extends v (record u { cells = map (renamed number a) u.cells })
  renamed_extends u number a h x = record {
    new = map (renamed number a) x.new;
    next = x.next;
    is = ap (λ (cs : List Cell). record v { cells = cs; next_cell = x.next })
        (ap (λ (cs : List Cell). cs ++ map (renamed number a) x.new) (sym (In-fixed (renamed number a) v.cells (λ c i. renamed_out number a c (other c i)))) ∙ sym (map-append (renamed number a) v.cells x.new))
        ∙ ap (λ (z : World). record z { cells = map (renamed number a) z.cells }) x.is;
    attached = In-all (λ (c : Cell). is_attached c.standing) (map (renamed number a) x.new) (λ z m. each_new (λ c. is_attached c.standing) (λ c. refl) x.attached z (In-map (renamed number a) x.new z m));
    fresh = In-all (λ (c : Cell). nat_le v.next_cell c.id.0) (map (renamed number a) x.new) (λ z m. each_new (λ c. nat_le v.next_cell c.id.0) (λ c. refl) x.fresh z (In-map (renamed number a) x.new z m));
    rises = x.rises;
  }
    where
      other : (c : Cell) → In c v.cells → (c.id.0 == number) ≡ false
      other c i = pick (c.id.0 == number) refl
        where
          pick : (b : Bool) → (c.id.0 == number) ≡ b → b ≡ false
          pick true e = absurd (omega (arith, number_below c i, h, eqb-true c.id.0 number e))
          pick false e = refl

      each_new : (p : Cell → Bool) → ((c : Cell) → p (record c { aliases = c.aliases ++ a ∷ [] }) ≡ p c) → list_all p x.new ≡ true → (z : Cell) → (c : Cell) × In c x.new × (z ≡ renamed number a c) → p z ≡ true
      each_new p f l z c = ap p c.2 ∙ (renamed_same number a p c.0 (f c.0) ∙ all-In p x.new l c.0 c.1)

  take_on_going : (number : ℕ) → v.next_cell ≤ number → (u : World) (old : Alias) → Going u → Going (take_on number u old)
  take_on_going number h u old g = go (option_and_then (λ c. heir_of u c old.name) (cell_of u number)) refl
    where
      named : ℕ → Alias
      named symbol = record { name = old.name; symbol = symbol }

      with_symbol : (symbol : ℕ) → (c : Cell) × (cell_of u number ≡ Some c) × (heir_of u c old.name ≡ Some symbol) → Going (record u { cells = map (renamed number (record { name = old.name; symbol = symbol })) u.cells })
      with_symbol symbol c =
          let p = heir_parts u c.0 old.name symbol c.2 in (
            (
              renamed_ranks number (record { name = old.name; symbol = symbol }) u g.0.0 c.0 c.1 (new_attached u g.0.1 number c.0 h c.1) p.0 p.2 (heir_own c.0 old.name symbol p.1),
              renamed_extends u number (record { name = old.name; symbol = symbol }) h g.0.1,
            ),
            g.1,
          )

      go : (o : Option ℕ) → option_and_then (λ c. heir_of u c old.name) (cell_of u number) ≡ o
          → Going (elim o as (λ _. World) [ None ↦ u | Some symbol ↦ record u { cells = map (renamed number (record { name = old.name; symbol = symbol })) u.cells } ])
      go None e = g
      go (Some symbol) e = with_symbol symbol (and_then_ok (λ c. heir_of u c old.name) (cell_of u number) symbol e)

  exchange_at_new : (number : ℕ) (o : Option Cell) → v.next_cell ≤ number → (x : Exchange) → In x (exchange_at number o) → v.next_cell ≤ x.fresh
  exchange_at_new number None h x i = absurd i
  exchange_at_new number (Some old) h x (inl e) = let n : x.fresh ≡ number = ap (λ (y : Exchange). y.fresh) e in omega (arith, h, n)
  exchange_at_new number (Some old) h x (inr i) = absurd i

  exchange_new : (number : ℕ) (wants : List Want) → v.next_cell ≤ number → (x : Exchange) → In x (exchanges_from number wants) → v.next_cell ≤ x.fresh
  exchange_new number [] h x i = absurd i
  exchange_new number (want ∷ wants) h x i = go (exchange_new (suc number) wants (omega (arith, h)) x) (In-append (exchange_at number want.replaces) (exchanges_from (suc number) wants) x i)
    where
      go : (In x (exchanges_from (suc number) wants) → v.next_cell ≤ x.fresh) → In x (exchange_at number want.replaces) ⊎ In x (exchanges_from (suc number) wants) → v.next_cell ≤ x.fresh
      go more (inl j) = exchange_at_new number want.replaces h x j
      go more (inr j) = more j

  names_going : (c : Change) (from : ℕ) → v.next_cell ≤ from → (u : World) → Going u → Going (with_names from c u)
  names_going c from h u g = go c.reexport
    where
      go : (b : Bool) → Going (cond b (with_reexports u (exchanges_from from c.wants)) u)
      go false = g
      go true =
          fold_keeps Going (λ y x. fold (take_on x.fresh) y (names_of x.old)) (exchanges_from from c.wants)
          (λ y x i k. fold_keeps Going (take_on x.fresh) (names_of x.old) (λ z a m l. take_on_going x.fresh (exchange_new from c.wants h x i) z a l) y k) u g

  module _ (sources : List Source) (sound : AreSound sources) where
    append_going : (u : World) (f : Source) (ns : ℕ) (u' : World) → In f sources → is_some (slice_get u.namespaces ns) ≡ true → append_cell u f ns ≡ Ok u' → Going u → Going u'
    append_going u f ns u' i t e g =
        let app : Appended u f ns u' = append_ok u f ns u' e in
        let n : suc u.next_cell ≡ u'.next_cell = ap (λ (z : World). z.next_cell) app.is in
        (good_append sources sound v u f ns u' i t e g.0, omega (arith, g.1, n))

    pub brought_going : (u u' : World) → bring sources v.next_cell u ≡ Ok u' → Going u → Going u' × (first_lack u' (fresh_cells v.next_cell u') ≡ None)
    brought_going u u' e g = brought sources v.next_cell Going append_going 1025 u u' g.0.0.few (omega arith) e g

-- the machine that the new cells come to: the replaced ones are put aside in it
pub record IsAside (w : World) (ns : List ℕ) (u : World) : Type 0 where
  pub swaps : ℕ
  pub is : record w { cells = map (put (suc w.swaps) ns) w.cells; swaps = swaps } ≡ u
  pub ranks : Ranks (record w { cells = map (put (suc w.swaps) ns) w.cells; swaps = swaps })
  pub base : IsBase (record w { cells = map (put (suc w.swaps) ns) w.cells; swaps = swaps })
  pub rises : swaps ≤ w.swaps + length ns

pub aside_is : (w : World) (h : IsCoherent w) (ns : List ℕ) → IsAside w ns (swapped_out w ns)
aside_is w h [] = record { swaps = w.swaps; is = same; ranks = subst Ranks (sym same) (ready_ranks w h.ready); base = subst IsBase (sym same) (ready_base w h.ready); rises = omega arith }
  where
    same : record w { cells = map (put (suc w.swaps) []) w.cells } ≡ w
    same = ap (λ (cs : List Cell). record w { cells = cs }) (In-fixed (put (suc w.swaps) []) w.cells (λ c i. put_out (suc w.swaps) [] c refl))
aside_is w h (n ∷ ns) = record { swaps = suc w.swaps; is = refl; ranks = aside_ranks w h (n ∷ ns); base = aside_base w h (n ∷ ns); rises = omega arith }

-- at most as many cells are replaced as are wanted
few_old : (wants : List Want) → length (filter_map (λ (want : Want). want.replaces) wants) ≤ length wants
few_old [] = omega arith
few_old (want ∷ wants) = go want.replaces (few_old wants)
  where
    go : (o : Option Cell) → length (filter_map (λ (w : Want). w.replaces) wants) ≤ length wants → length (cons_option o (filter_map (λ (w : Want). w.replaces) wants)) ≤ length (want ∷ wants)
    go None rest = omega (arith, rest)
    go (Some c) rest = omega (arith, rest)

module _ (sources : List Source) (sound : AreSound sources) (w : World) (h : IsCoherent w) (c : Change) (s : IsSound sources w c) where
  pub at : IsAside w (old_of c) (set_aside w c)
  at = aside_is w h (old_of c)

  abbrev pub base_world : World
  base_world = record w { cells = map (put (suc w.swaps) (old_of c)) w.cells; swaps = at.swaps }

  abbrev On : ℕ → World → Type 0
  On floor u = Going base_world at.base.known floor u

  append_one : (want : Want) → In want c.wants → (u u' : World) → append_want u want ≡ Ok u' → On u.next_cell u → On (suc u.next_cell) u'
  append_one want i u u' e g =
      let app : Appended u want.file want.ns u' = append_ok u want.file want.ns u' e in
      let n : suc u.next_cell ≡ u'.next_cell = ap (λ (z : World). z.next_cell) app.is in
      let x : w.namespaces ≡ u.namespaces = ap (λ (z : World). z.namespaces) g.0.1.is in
      let there : is_some (slice_get w.namespaces want.ns) ≡ true = below_there w.namespaces want.ns (All-In (λ (want : Want). want.ns < length w.namespaces) c.wants s.spaces want i) in
      (good_append sources sound base_world u want.file want.ns u' (All-In (λ (want : Want). In want.file sources) c.wants s.files want i) (subst (λ xs. is_some (slice_get xs want.ns) ≡ true) x there) e g.0, omega (arith, n))

  appended_all : (some : List Want) → ((want : Want) → In want some → In want c.wants) → (u u' : World) → each append_want u some ≡ Ok u' → On u.next_cell u → On (u.next_cell + length some) u'
  appended_all [] f u u' e g = let s : u ≡ u' = ok_same u u' e in subst (On (u.next_cell + 0)) s (g.0, omega arith)
  appended_all (want ∷ some) f u u' e g =
      let a = bind_ok (append_want u want) (λ y. each append_want y some) u' e in
      let o = append_one want (f want (inl refl)) u a.0 a.1 g in
      let r = appended_all some (λ x i. f x (inr i)) a.0 u' a.2 (o.0, omega arith) in
      (r.0, omega (arith, r.1, o.1))

  module _ (g : World) (e : gather sources w c ≡ Ok g) where
    -- the new cells are there, with as many numbers more as cells are wanted, or more
    pub all_gathered : ((Ranks g × Extends base_world g) × (w.next_cell + length c.wants ≤ g.next_cell)) × (first_lack g (fresh_cells w.next_cell g) ≡ None)
    all_gathered = go s.copied
      where
        -- what was brought is all
        plain : c.copies ≡ [] → ((Ranks g × Extends base_world g) × (w.next_cell + length c.wants ≤ g.next_cell)) × (first_lack g (fresh_cells w.next_cell g) ≡ None)
        plain none =
            let a = bind_ok (each append_want (set_aside w c) c.wants) _ g e in
            let b = bind_ok (bring sources w.next_cell (with_names w.next_cell c a.0)) _ g a.2 in
            let same : b.0 ≡ g = ok_same b.0 g (subst (λ (copies : List Copy). each append_copy b.0 copies ≡ Ok g) none b.2) in
            let r : On (w.next_cell + length c.wants) a.0 = appended_all c.wants (λ want i. i) base_world a.0 (subst (λ (u : World). each append_want u c.wants ≡ Ok a.0) (sym at.is) a.1) ((at.ranks, extends_none base_world), omega arith) in
            brought_going base_world at.base.known (w.next_cell + length c.wants) sources sound (with_names w.next_cell c a.0) g
            (subst (λ (u : World). bring sources w.next_cell (with_names w.next_cell c a.0) ≡ Ok u) same b.1)
            (names_going base_world at.base.known (w.next_cell + length c.wants) c w.next_cell (omega arith) a.0 r)

        ranks : HasCopied w c g → Ranks g
        ranks k = record { names = k.names; own_names = k.own_names; order = k.order; known = k.known; objects = k.objects; few = k.few; last = k.last }

        number_aside : (set_aside w c).next_cell ≡ w.next_cell
        number_aside = sym (ap (λ (u : World). u.next_cell) at.is)

        extends : HasCopied w c g → Extends (set_aside w c) g
        extends k = record { new = k.new; next = k.next; is = k.is; attached = k.attached; fresh = k.fresh; rises = omega (arith, k.enough, number_aside) }

        next_is : (k : HasCopied w c g) → k.next ≡ g.next_cell
        next_is k = ap (λ (u : World). u.next_cell) k.is

        go : (c.copies ≡ []) ⊎ ((g : World) → gather sources w c ≡ Ok g → HasCopied w c g) → ((Ranks g × Extends base_world g) × (w.next_cell + length c.wants ≤ g.next_cell)) × (first_lack g (fresh_cells w.next_cell g) ≡ None)
        go (inl none) = plain none
        go (inr f) =
            let k : HasCopied w c g = f g e in
            (((ranks k, subst (λ (u : World). Extends u g) (sym at.is) (extends k)), omega (arith, k.enough, next_is k)), k.supplied)

    pub swaps_below : at.swaps < g.next_cell
    swaps_below =
        let few : length (old_of c) ≤ length c.wants = omega (arith, few_old c.wants, length-map (replaced c) (λ (d : Cell). d.id.0)) in
        omega (arith, h.ready.swap_numbers, at.rises, few, all_gathered.0.1)
