-- A purge and an unload say how many cells they remove.
use Rattle.std.proofs.Common.{◌≡◌, refl, sym, ◌∙◌, ap, subst, arith, ℕ, suc, ◌+◌, Bool, true, false, not, ◌&&◌, cond, List, [], ◌∷◌, length, true≢false, Ok}
use Rattle.std.specs.Prelude.{filter, nat_lt}
use Rattle.std.proofs.lemmas.List.{length-map}
use Rattle.std.proofs.lemmas.List.Filters.{length-filter_both}
use Rattle.cell_num.specs.Lists.{each_pair, holds, In}
use Rattle.cell_world.specs.declared.command.CellName.{CellName}
use Rattle.cell_world.specs.World.{World, Cell, is_attached}
use Rattle.cell_world.specs.Answer.{Done, ids, numbers_of}
use Rattle.cell_world.specs.Coherent.{IsCoherent}
use Rattle.cell_world.specs.Kept.{holding_of, kept_in}
use Rattle.cell_world.specs.Outcome.{refused_by}
use Rattle.cell_world.specs.Commands.UnloadCommand.{first_held, garbage_of, named_cells, next_purge, next_unload, purged, put_aside}
use Rattle.cell_lemmas.proofs.Naming.Appended.{ok_same}
use Rattle.cell_num.proofs.Elements.{In-filtered, In-map, filter-In, filter-Passes}
use Rattle.cell_num.proofs.Sublists.{filter_same, map_filter}
use Rattle.cell_lemmas.proofs.Outcomes.{bind_ok, then_ok}
use Rattle.cell_lemmas.specs.Left.{with_aside}
use Rattle.cell_lemmas.proofs.Placement.Freed.{number_holds, same_cell}
use Rattle.cell_lemmas.proofs.Holding.KeptPaths.{holds-In}
use Rattle.cell_lemmas.proofs.Naming.PutAside.{order_aside}
use Rattle.cell_laws.proofs.Counted.{CountsCells, length_ids}

-- some of the cells go, and are named by their numbers
module _ (cells : List Cell) (rises : each_pair (λ (a b : Cell). nat_lt a.id.0 b.id.0) cells ≡ true) (goes : Cell → Bool) where
  abbrev gone : List ℕ
  gone = numbers_of (filter goes cells)

  -- no two cells have one number
  named_goes : (c : Cell) → In c cells → holds gone c.id.0 ≡ goes c
  named_goes c i = go (goes c) refl (holds gone c.id.0) refl
    where
      it_goes : (d : Cell) × In d (filter goes cells) × (c.id.0 ≡ d.id.0) → goes c ≡ true
      it_goes d = ap goes (same_cell cells rises c d.0 i (In-filtered goes cells d.0 d.1) d.2) ∙ filter-Passes goes cells d.0 d.1

      go : (a : Bool) → goes c ≡ a → (b : Bool) → holds gone c.id.0 ≡ b → b ≡ a
      go true s true t = refl
      go false s false t = refl
      go true s false t = absurd (true≢false (sym (number_holds (filter goes cells) c (filter-In goes cells c i s)) ∙ t))
      go false s true t = absurd (true≢false (sym (it_goes (In-map (λ (x : Cell). x.id.0) (filter goes cells) c.id.0 (holds-In gone c.id.0 t))) ∙ s))

  left_counted : length (filter (λ c. not (holds gone c.id.0)) cells) + length gone ≡ length cells
  left_counted = omega (
    arith,
    ap (λ (cs : List Cell). length cs) (filter_same (λ (c : Cell). not (holds gone c.id.0)) (λ c. not (goes c)) cells (λ c i. ap not (named_goes c i))),
    length-map (filter goes cells) (λ (c : Cell). c.id.0),
    length-filter_both goes (λ c. not (goes c)) (λ c. refl) cells,
  )

filter_twice : {X : Type 0} (p q : X → Bool) (xs : List X) → filter p (filter q xs) ≡ filter (λ x. q x && p x) xs
filter_twice p q [] = refl
filter_twice {X} p q (x ∷ xs) = go (q x) (filter_twice p q xs)
  where
    go : (b : Bool) → filter p (filter q xs) ≡ filter (λ x. q x && p x) xs → filter p (cond b (x ∷ filter q xs) (filter q xs)) ≡ cond (b && p x) (x ∷ filter (λ x. q x && p x) xs) (filter (λ x. q x && p x) xs)
    go true ih = ap (λ (ys : List X). cond (p x) (x ∷ ys) ys) ih
    go false ih = ih

-- the cells that go by a purge, and those that are left
module _ (v : World) (rises : each_pair (λ (a b : Cell). nat_lt a.id.0 b.id.0) v.cells ≡ true) where
  abbrev is_unkept : ℕ → Bool
  is_unkept n = not (holds (kept_in (holding_of v)) n)

  abbrev is_garbage : Cell → Bool
  is_garbage c = not (is_attached c.standing) && is_unkept c.id.0

  garbage_is : garbage_of v ≡ numbers_of (filter is_garbage v.cells)
  garbage_is =
      sym (map_filter (λ (c : Cell). c.id.0) is_unkept (filter (λ c. not (is_attached c.standing)) v.cells))
      ∙ ap numbers_of (filter_twice (λ (c : Cell). is_unkept c.id.0) (λ c. not (is_attached c.standing)) v.cells)

  pub purged_counted : length (purged v).cells + length (ids (garbage_of v)) ≡ length v.cells
  purged_counted = omega (
    arith,
    length_ids (garbage_of v),
    subst (λ (ns : List ℕ). length (filter (λ c. not (holds ns c.id.0)) v.cells) + length ns ≡ length v.cells) (sym garbage_is) (left_counted v.cells rises is_garbage),
  )

module _ (w : World) (h : IsCoherent w) (d : Done) where
  pub purge_counts : next_purge w ≡ Ok d → CountsCells w d
  purge_counts e = subst (CountsCells w) (ok_same _ d e) (record { counted = omega (arith, purged_counted w h.ready.cell_order); room = omega (arith, h.ready.few_cells) })

  pub unload_counts : (names : List CellName) → next_unload w names ≡ Ok d → CountsCells w d
  unload_counts names e =
      let a = bind_ok (named_cells w names) _ d e in
      let b = then_ok (refused_by (first_held (holding_of (with_aside w a.0)) (numbers_of a.0))) _ d a.2 in
      subst (CountsCells w) (ok_same _ d b.2)
      (record {
        counted = omega (arith, purged_counted (with_aside w a.0) (order_aside w h (suc w.swaps) (numbers_of a.0)), length-map w.cells (put_aside (suc w.swaps) (numbers_of a.0)));
        room = omega (arith, h.ready.few_cells);
      })
