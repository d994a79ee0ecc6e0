-- An attached cell of a coherent machine is found by its namespace and its stem, so a swap can be asked to renew it.
use Rattle.std.proofs.Common.{◌≡◌, refl, sym, ◌∙◌, ap, ap₂, subst, arith, ℕ, zero, suc, ◌+◌, ◌<◌, ◌⊎◌, inl, inr, Bool, true, cond, not, ◌&&◌, ◌||◌, List, [], ◌∷◌, ◌++◌, map, length, true≢false, Option, Some, None, Ok, Err}
use Rattle.std.specs.Prelude.{slice_get, nat_lt, ◌==◌}
use Rattle.std.specs.List.{list_all, list_any, prefix_len}
use Rattle.std.proofs.lemmas.Bool.{and_from, and_parts, eqb-true, eq-eqb, ltb-true, lt-ltb}
use Rattle.std.proofs.lemmas.Slice.Eq.{bytes_eq-Decides}
use Rattle.cell_num.specs.Lists.{equals, holds, holds_name, each_pair, In}
use Rattle.cell_world.specs.declared.refusal.Refusal.TheVariants.{Unknown}
use Rattle.cell_world.specs.declared.state.Namespace.{Namespace}
use Rattle.cell_world.specs.World.{World, Cell, is_attached}
use Rattle.cell_world.specs.Names.{namespace_named, cell_at, are_on_one_path, chain}
use Rattle.cell_world.specs.Gather.{Source, file_named, name_of_ns}
use Rattle.cell_world.specs.Change.{Want}
use Rattle.cell_world.specs.Commands.Asked.{renewal, renewals, want_of, wants_of}
use Rattle.cell_world.specs.Commands.UnloadCommand.{attached_cell, cell_word}
use Rattle.cell_world.specs.Outcome.{Outcome, ◌>>=◌, found, each}
use Rattle.cell_world.specs.Coherent.{IsCoherent, may_both_stand, all_names, is_known_cell}
use Rattle.cell_num.proofs.Elements.{Has, all-In, found-In, find_there, pairs-In, some_has, below_there, get-In}
use Rattle.cell_lemmas.proofs.Naming.Known.{known_parts}
use Rattle.cell_lemmas.proofs.Naming.Paths.{on_one_path, in_own_chain}
use Rattle.cell_laws.specs.Recovery.{own_item}

-- the first namespace of a name is the one that has it, where names differ
place_named : (spaces : List Namespace) (n : ℕ) (space : Namespace) → each_pair (λ a b. not (equals a.name b.name)) spaces ≡ true → slice_get spaces n ≡ Some space
    → (prefix_len (λ x. not (equals x.name space.name)) spaces ≡ n) × (n < length spaces)
place_named [] n space e g = absurd cc
place_named (x ∷ spaces) zero space e g = (
  ap (λ b. cond (not b) (1 + prefix_len (λ y. not (equals y.name space.name)) spaces) 0) ((bytes_eq-Decides x.name space.name).1 (ap (λ (s : Namespace). s.name) (same x space g))),
  omega arith,
)
  where
    same : (x y : Namespace) → Some x ≡ Some y → x ≡ y
    same x y q = cc
place_named (x ∷ spaces) (suc n) space e g =
    let p = and_parts (list_all (λ b. not (equals x.name b.name)) spaces) (each_pair (λ a b. not (equals a.name b.name)) spaces) e in
    let r = place_named spaces n space p.1 g in (
      ap (λ b. cond b (1 + prefix_len (λ y. not (equals y.name space.name)) spaces) 0) (all-In (λ (b : Namespace). not (equals x.name b.name)) spaces p.0 space (get-In spaces n space g)) ∙ more (prefix_len (λ y. not (equals y.name space.name)) spaces) r.0,
      omega (arith, r.1),
    )
  where
    more : (a : ℕ) → a ≡ n → 1 + a ≡ suc n
    more a q = omega (arith, q)

bind_same : {X Y : Type 0} (o : Outcome X) (f g : X → Outcome Y) → ((x : X) → f x ≡ g x) → (o >>= f) ≡ (o >>= g)
bind_same (Ok x) f g h = h x
bind_same (Err r) f g h = refl

-- what is the same of each element is the same of all
each_mapped : {X A B : Type 0} (f : X → B → Outcome X) (g : A → B) (k : X → A → Outcome X) (items : List A) → ((x : X) (a : A) → In a items → f x (g a) ≡ k x a) → (x : X) → each f x (map g items) ≡ each k x items
each_mapped f g k [] h x = refl
each_mapped {X = X} f g k (a ∷ items) h x =
    ap (λ (o : Outcome X). o >>= (λ y. each f y (map g items))) (h x a (inl refl))
    ∙ bind_same (k x a) (λ y. each f y (map g items)) (λ y. each k y items) (each_mapped f g k items (λ y b i. h y b (inr i)))

module _ (w : World) (h : IsCoherent w) where
  space_found : (ns : ℕ) → ns < length w.namespaces → namespace_named w (name_of_ns w ns) ≡ Some ns
  space_found ns k = go (slice_get w.namespaces ns) refl (some_has (slice_get w.namespaces ns) (below_there w.namespaces ns k))
    where
      at : (space : Namespace) → slice_get w.namespaces ns ≡ Some space → namespace_named w space.name ≡ Some ns
      at space e =
          let r = place_named w.namespaces ns space h.ready.space_names e in
          ap₂ (λ b n. cond b (Some n) None) (ap (λ n. nat_lt n (length w.namespaces)) r.0 ∙ lt-ltb ns (length w.namespaces) r.1) r.0

      go : (o : Option Namespace) → slice_get w.namespaces ns ≡ o → Has (slice_get w.namespaces ns) → namespace_named w (elim o as (λ _. List ℕ) [ None ↦ [] | Some space ↦ space.name ]) ≡ Some ns
      go None e s = absurd cc
      go (Some space) e s = at space e

  -- the attached cell of its stem in its namespace is itself
  cell_found : (c : Cell) → In c w.cells → is_attached c.standing ≡ true → cell_at w c.ns c.stem ≡ Some c
  cell_found c i a =
      let p : (is_attached c.standing && c.ns == c.ns && equals c.stem c.stem) ≡ true = and_from _ (equals c.stem c.stem) (and_from (is_attached c.standing) (c.ns == c.ns) a (eq-eqb c.ns c.ns refl)) ((bytes_eq-Decides c.stem c.stem).1 refl) in
      let f = find_there (λ (d : Cell). is_attached d.standing && d.ns == c.ns && equals d.stem c.stem) w.cells c i p in
      let g = found-In (λ (d : Cell). is_attached d.standing && d.ns == c.ns && equals d.stem c.stem) w.cells f.0 f.1 in
      subst (λ (d : Cell). cell_at w c.ns c.stem ≡ Some d) (same f.0 g.0 g.1) f.1
    where
      there : c.ns < length w.namespaces
      there = ltb-true c.ns (length w.namespaces) (known_parts w c (all-In (is_known_cell w) w.cells h.ready.cells c i)).ns

      own : holds (chain w.namespaces c.ns) c.ns ≡ true
      own = in_own_chain w.namespaces c.ns there

      never : (a b p e l : Bool) → (not (a && b && p) || not e && not l) ≡ true → a ≡ true → b ≡ true → p ≡ true → e ≡ true → ⊥
      never a b p e l s x y z t = true≢false (sym s ∙ ap (λ v. not v || not e && not l) (ap₂ (λ u v. u && v && p) x y ∙ z) ∙ ap (λ v. not v && not l) t)

      same : (d : Cell) → In d w.cells → (is_attached d.standing && d.ns == c.ns && equals d.stem c.stem) ≡ true → d ≡ c
      same d j q = go (pairs-In (may_both_stand w) w.cells h.ready.names d c j i)
        where
          parts : (is_attached d.standing ≡ true) × (d.ns ≡ c.ns) × (equals d.stem c.stem ≡ true)
          parts =
              let x = and_parts (is_attached d.standing && d.ns == c.ns) (equals d.stem c.stem) q in
              let y = and_parts (is_attached d.standing) (d.ns == c.ns) x.0 in
              (y.0, eqb-true d.ns c.ns y.1, x.1)

          in_chain : holds (chain w.namespaces c.ns) d.ns ≡ true
          in_chain = subst (λ m. holds (chain w.namespaces c.ns) m ≡ true) (sym parts.1) own

          go : (d ≡ c) ⊎ ((may_both_stand w d c ≡ true) ⊎ (may_both_stand w c d ≡ true)) → d ≡ c
          go (inl e) = e
          go (inr (inl s)) = absurd (never (is_attached d.standing) (is_attached c.standing) (are_on_one_path w.namespaces d.ns c.ns) (equals d.stem c.stem) (list_any (holds_name (all_names c)) (all_names d)) s parts.0 a
              (on_one_path w.namespaces c.ns d.ns c.ns in_chain own) parts.2)
          go (inr (inr s)) = absurd (never (is_attached c.standing) (is_attached d.standing) (are_on_one_path w.namespaces c.ns d.ns) (equals c.stem d.stem) (list_any (holds_name (all_names d)) (all_names c)) s a parts.0
              (on_one_path w.namespaces c.ns c.ns d.ns own in_chain) ((bytes_eq-Decides c.stem d.stem).1 (sym ((bytes_eq-Decides d.stem c.stem).0 parts.2))))

  item_renews : (sources : List Source) (c : Cell) → In c w.cells → is_attached c.standing ≡ true → want_of sources w (own_item w c) ≡ renewal sources c
  item_renews sources c i a = ap (λ (o : Outcome Cell). o >>= wanted) placed_cell
    where
      word : List ℕ
      word = cell_word (record { ns = name_of_ns w c.ns; stem = c.stem })

      wanted : Cell → Outcome Want
      wanted old = found (file_named sources c.file) (Unknown c.file) >>= (λ file. Ok (record { file = file; ns = old.ns; replaces = Some old }))

      there : c.ns < length w.namespaces
      there = ltb-true c.ns (length w.namespaces) (known_parts w c (all-In (is_known_cell w) w.cells h.ready.cells c i)).ns

      placed_cell : attached_cell w (record { ns = name_of_ns w c.ns; stem = c.stem }) ≡ Ok c
      placed_cell =
          ap (λ (o : Option ℕ). found o (Unknown word) >>= (λ ns. found (cell_at w ns c.stem) (Unknown word))) (space_found c.ns there)
          ∙ ap (λ (o : Option Cell). found o (Unknown word)) (cell_found c i a)

  pub items_renew : (sources : List Source) (cells : List Cell) → ((c : Cell) → In c cells → In c w.cells × (is_attached c.standing ≡ true)) → wants_of sources w (map (own_item w) cells) ≡ renewals sources cells
  items_renew sources cells all =
      each_mapped (λ wants item. want_of sources w item >>= (λ want. Ok (wants ++ want ∷ []))) (own_item w) (λ wants c. renewal sources c >>= (λ want. Ok (wants ++ want ∷ []))) cells
      (λ wants c i. ap (λ (o : Outcome Want). o >>= (λ want. let y : Outcome (List Want) = Ok (wants ++ want ∷ []) in y)) (item_renews sources c (all c i).0 (all c i).1)) []
