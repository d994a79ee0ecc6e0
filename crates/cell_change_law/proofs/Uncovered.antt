-- A need of a cell that a change leaves alone is found lacking exactly where its provider was a replaced cell and no new one in sight has the name.
use Rattle.std.proofs.Common.{◌≡◌, refl, sym, ◌∙◌, ap, ap₂, subst, ℕ, suc, ◌⊎◌, inl, inr, Bool, true, false, cond, List, [], ◌∷◌, ◌++◌, Option, Some, None, Ok, length, true≢false, ◌↔◌}
use Rattle.std.specs.Prelude.{filter, filter_map, is_none, is_some, option_map, nat_lt}
use Rattle.std.proofs.lemmas.List.{append-nil}
use Rattle.std.proofs.lemmas.List.Elements.{filter-append, filter_map-append}
use Rattle.cell_num.specs.Lists.{first, holds, or_else, In}
use Rattle.cell_world.specs.Coherent.{AreSound, IsCoherent, is_known_cell, is_supplied}
use Rattle.cell_world.specs.Gather.{Source, fresh_cells}
use Rattle.cell_world.specs.Names.{Provider, chain, first_provider, nearest_provider, needs_of, provider_of, strong_provider, symbol_named, weak_provider}
use Rattle.cell_world.specs.World.{Cell, Standing, World, is_attached, is_of_group}
use Rattle.cell_world.specs.declared.state.Standing.TheVariants.{Attached, Detached}
use Rattle.cell_lemmas.specs.Lost.{IsLost}
use Rattle.cell_lemmas.proofs.Naming.Asked.{nearest_among, nearest_either, or_else_has}
use Rattle.cell_lemmas.proofs.Naming.Attach.{Grows, weak_some}
use Rattle.cell_num.proofs.Elements.{Has, all-In, All-In, In-map, In-right, filter_all, filter_none, none_is, or_else_parts, some_has}
use Rattle.cell_lemmas.proofs.Naming.Gathered.{Extends, Ranks}
use Rattle.cell_lemmas.proofs.Naming.Known.{known_parts, named}
use Rattle.cell_lemmas.proofs.Placement.PlacedReady.{fresh_is}
use Rattle.cell_lemmas.proofs.Targeting.Detached.{other_provider, other_strong, without}
use Rattle.cell_lemmas.proofs.Holding.KeptPaths.{holds-In}
use Rattle.cell_world.specs.Change.{Change, replaced, old_of, gather}
use Rattle.cell_change_law.specs.Sound.{IsSound}
use Rattle.cell_change_law.proofs.Gathering.{at, base_world, all_gathered}
use Rattle.cell_change_law.proofs.Placing.{one_number}
use Rattle.cell_lemmas.proofs.Naming.SetAside.{new_group}

first_both : {X : Type 0} (xs ys : List X) → first (xs ++ ys) ≡ or_else (first xs) (first ys)
first_both [] ys = refl
first_both (x ∷ xs) ys = refl

or_else_both : {X : Type 0} (a b c : Option X) → or_else a (or_else b c) ≡ or_else (or_else a b) c
or_else_both None b c = refl
or_else_both (Some x) b c = refl

module _ (spaces name : List ℕ) where
  abbrev provided_by : Cell → Option Provider
  provided_by c = option_map (λ symbol. record { cell = c.id.0; symbol = symbol }) (symbol_named c name)

  first_of_both : (cells more : List Cell) → first_provider spaces name (cells ++ more) ≡ or_else (first_provider spaces name cells) (first_provider spaces name more)
  first_of_both cells more =
      ap (λ (cs : List Cell). first (filter_map provided_by cs)) (filter-append (λ c. holds spaces c.ns) cells more)
      ∙ (ap first (filter_map-append provided_by (filter (λ c. holds spaces c.ns) cells) (filter (λ c. holds spaces c.ns) more))
      ∙ first_both (filter_map provided_by (filter (λ c. holds spaces c.ns) cells)) (filter_map provided_by (filter (λ c. holds spaces c.ns) more)))

ungrouped : (k : ℕ) (s : Standing) → is_attached s ≡ true → is_of_group k s ≡ false
ungrouped k Attached e = refl
ungrouped k (Detached j) e = absurd (true≢false (sym e))

is_nothing : {X : Type 0} (o : Option X) → (Has o → ⊥) → o ≡ None
is_nothing None f = refl
is_nothing (Some x) f = absurd (f (x, refl))

-- attached cells behind others are asked after them
module _ (w w' : World) (g : Grows w w') (ns : ℕ) (there : nat_lt ns (length w.namespaces) ≡ true) (name : List ℕ) where
  abbrev of_new : Option Provider
  of_new = first_provider (chain w.namespaces ns) name g.new

  attached_both : strong_provider w' Attached ns name ≡ or_else (strong_provider w Attached ns name) of_new
  attached_both =
      ap₂ (λ (spaces : List ℕ) (cells : List Cell). first_provider spaces name (filter (λ c. is_attached c.standing) cells)) (g.spaces ns there) g.cells
      ∙ (ap (first_provider (chain w.namespaces ns) name) (filter-append (λ (c : Cell). is_attached c.standing) w.cells g.new)
      ∙ (first_of_both (chain w.namespaces ns) name (filter (λ c. is_attached c.standing) w.cells) (filter (λ c. is_attached c.standing) g.new)
      ∙ ap (λ (cells : List Cell). or_else (strong_provider w Attached ns name) (first_provider (chain w.namespaces ns) name cells))
      (filter_all (λ (c : Cell). is_attached c.standing) g.new (λ c i. all-In (λ (d : Cell). is_attached d.standing) g.new g.attached c i))))

  strong_both : (s : Standing) → strong_provider w' s ns name ≡ or_else (strong_provider w s ns name) of_new
  strong_both Attached = attached_both
  strong_both (Detached k) =
      ap₂ (λ (spaces : List ℕ) (cells : List Cell). or_else (first_provider spaces name (filter (λ c. is_of_group k c.standing) cells)) (strong_provider w' Attached ns name)) (g.spaces ns there) g.cells
      ∙ (ap (λ (cells : List Cell). or_else (first_provider (chain w.namespaces ns) name cells) (strong_provider w' Attached ns name))
      (filter-append (λ (c : Cell). is_of_group k c.standing) w.cells g.new
      ∙ (ap (λ (cells : List Cell). filter (λ (c : Cell). is_of_group k c.standing) w.cells ++ cells) (filter_none (λ (c : Cell). is_of_group k c.standing) g.new (λ c i. ungrouped k c.standing (all-In (λ (d : Cell). is_attached d.standing) g.new g.attached c i)))
      ∙ none_more (filter (λ (c : Cell). is_of_group k c.standing) w.cells)))
      ∙ (ap (or_else (first_provider (chain w.namespaces ns) name (filter (λ c. is_of_group k c.standing) w.cells))) attached_both
      ∙ or_else_both (first_provider (chain w.namespaces ns) name (filter (λ c. is_of_group k c.standing) w.cells)) (strong_provider w Attached ns name) of_new))
    where
      none_more : (cells : List Cell) → cells ++ [] ≡ cells
      none_more [] = refl
      none_more (c ∷ cells) = ap (λ cs. c ∷ cs) (none_more cells)

  -- those who hold it weakly are found where there is one among the old ones or among the new ones
  weak_attached : weak_provider w' Attached ns name ≡ nearest_provider (chain w.namespaces ns) name (filter (λ c. is_attached c.standing) w.cells ++ g.new)
  weak_attached =
      ap₂ (λ (spaces : List ℕ) (cells : List Cell). nearest_provider spaces name (filter (λ c. is_attached c.standing) cells)) (g.spaces ns there) g.cells
      ∙ ap (nearest_provider (chain w.namespaces ns) name) (filter-append (λ (c : Cell). is_attached c.standing) w.cells g.new
      ∙ ap (λ (cells : List Cell). filter (λ (c : Cell). is_attached c.standing) w.cells ++ cells)
      (filter_all (λ (c : Cell). is_attached c.standing) g.new (λ c i. all-In (λ (d : Cell). is_attached d.standing) g.new g.attached c i)))

  weak_group : (k : ℕ) → nearest_provider (chain w'.namespaces ns) name (filter (λ c. is_of_group k c.standing) w'.cells) ≡ nearest_provider (chain w.namespaces ns) name (filter (λ c. is_of_group k c.standing) w.cells)
  weak_group k =
      ap₂ (λ (spaces : List ℕ) (cells : List Cell). nearest_provider spaces name (filter (λ c. is_of_group k c.standing) cells)) (g.spaces ns there) g.cells
      ∙ ap (nearest_provider (chain w.namespaces ns) name) (filter-append (λ (c : Cell). is_of_group k c.standing) w.cells g.new
      ∙ (ap (λ (cells : List Cell). filter (λ (c : Cell). is_of_group k c.standing) w.cells ++ cells) (filter_none (λ (c : Cell). is_of_group k c.standing) g.new (λ c i. ungrouped k c.standing (all-In (λ (d : Cell). is_attached d.standing) g.new g.attached c i)))
      ∙ append-nil (filter (λ (c : Cell). is_of_group k c.standing) w.cells)))

  attached_new : Has (nearest_provider (chain w.namespaces ns) name g.new) → Has (weak_provider w' Attached ns name)
  attached_new h = subst (λ (o : Option Provider). Has o) (sym weak_attached)
      (nearest_among (chain w.namespaces ns) name g.new (filter (λ c. is_attached c.standing) w.cells ++ g.new) (λ c i. In-right (filter (λ (d : Cell). is_attached d.standing) w.cells) g.new c i) h)

  of_attached : (s : Standing) → Has (weak_provider w' Attached ns name) → Has (weak_provider w' s ns name)
  of_attached Attached h = h
  of_attached (Detached k) h = or_else_has (nearest_provider (chain w'.namespaces ns) name (filter (λ c. is_of_group k c.standing) w'.cells)) (weak_provider w' Attached ns name) (inr h)

  weak_none : (s : Standing) → weak_provider w' s ns name ≡ None → (weak_provider w s ns name ≡ None) × (nearest_provider (chain w.namespaces ns) name g.new ≡ None)
  weak_none s e = (
    is_nothing (weak_provider w s ns name) (λ h. let x : Has (weak_provider w' s ns name) = weak_some w w' g s ns (g.spaces ns there) name h in let z : None ≡ Some x.0 = sym e ∙ x.1 in cc),
    is_nothing (nearest_provider (chain w.namespaces ns) name g.new) (λ h. let x : Has (weak_provider w' s ns name) = of_attached s (attached_new h) in let z : None ≡ Some x.0 = sym e ∙ x.1 in cc),
  )

  attached_none : weak_provider w Attached ns name ≡ None → nearest_provider (chain w.namespaces ns) name g.new ≡ None → weak_provider w' Attached ns name ≡ None
  attached_none e f = weak_attached ∙ is_nothing (nearest_provider (chain w.namespaces ns) name (filter (λ c. is_attached c.standing) w.cells ++ g.new))
      (λ h. either (nearest_either (chain w.namespaces ns) name (filter (λ c. is_attached c.standing) w.cells) g.new h))
    where
      either : Has (weak_provider w Attached ns name) ⊎ Has (nearest_provider (chain w.namespaces ns) name g.new) → ⊥
      either (inl h) = let z : None ≡ Some h.0 = sym e ∙ h.1 in cc
      either (inr h) = let z : None ≡ Some h.0 = sym f ∙ h.1 in cc

  weak_none_still : (s : Standing) → weak_provider w s ns name ≡ None → nearest_provider (chain w.namespaces ns) name g.new ≡ None → weak_provider w' s ns name ≡ None
  weak_none_still Attached e f = attached_none e f
  weak_none_still (Detached k) e f =
      let p = or_else_parts (nearest_provider (chain w.namespaces ns) name (filter (λ c. is_of_group k c.standing) w.cells)) (weak_provider w Attached ns name) e in
      ap₂ (λ (a b : Option Provider). or_else a b) (weak_group k ∙ p.0) (attached_none p.1 f)

module _ (sources : List Source) (sound : AreSound sources) (v : World) (h : IsCoherent v) (asked : Change) (good : IsSound sources v asked) (w : World) (gathering : gather sources v asked ≡ Ok w) where
  abbrev old : List ℕ
  old = old_of asked

  abbrev base : World
  base = base_world sources sound v h asked good

  reached : Ranks w × Extends base w
  reached = (all_gathered sources sound v h asked good w gathering).0.0

  abbrev grows : Grows base w
  grows = record {
    spaces = λ ns k. ap (λ (x : World). chain x.namespaces ns) (sym reached.1.is);
    new = reached.1.new;
    cells = ap (λ (x : World). x.cells) (sym reached.1.is);
    attached = reached.1.attached;
  }

  new_are : fresh_cells v.next_cell w ≡ reached.1.new
  new_are = ap (λ (x : World). fresh_cells v.next_cell x) (sym reached.1.is) ∙ fresh_is base (at sources sound v h asked good).base reached.1.new reached.1.next reached.1.fresh

  attached_old : (c : Cell) → In c v.cells → holds old c.id.0 ≡ true → is_attached c.standing ≡ true
  attached_old c i e =
      let x = In-map (λ (y : Cell). y.id.0) (replaced asked) c.id.0 (holds-In old c.id.0 e) in
      subst (λ (y : Cell). is_attached y.standing ≡ true) (sym (one_number v h c x.0 i (All-In (λ (y : Cell). In y v.cells) (replaced asked) good.present x.0 x.1) x.2))
      (All-In (λ (y : Cell). is_attached y.standing ≡ true) (replaced asked) good.attached x.0 x.1)

  module _ (c : Cell) (i : In c v.cells) (out : holds old c.id.0 ≡ false) (name : List ℕ) (j : In name (needs_of c.object)) where
    there : nat_lt c.ns (length v.namespaces) ≡ true
    there = (known_parts v c (all-In (is_known_cell v) v.cells h.ready.cells c i)).ns

    had : (q : Provider) × (provider_of v c name ≡ Some q)
    had = some_has (provider_of v c name) (all-In (λ n. is_some (provider_of v c n)) (needs_of c.object) (all-In (is_supplied v) v.cells h.ready.supplied c i) name j)

    abbrev side : World
    side = base

    abbrev sight : List ℕ
    sight = chain v.namespaces c.ns

    abbrev new : List Cell
    new = fresh_cells v.next_cell w

    strong_found : strong_provider w c.standing c.ns name ≡ or_else (strong_provider side c.standing c.ns name) (first_provider sight name new)
    strong_found = strong_both side w grows c.ns there name c.standing ∙ ap (λ (cells : List Cell). or_else (strong_provider side c.standing c.ns name) (first_provider sight name cells)) (sym new_are)

    -- an old cell that provides isn't asked any more
    strong_gone : (q : Provider) → provider_of v c name ≡ Some q → holds old q.cell ≡ true → strong_provider side c.standing c.ns name ≡ None
    strong_gone q e o =
        other_strong v (named v h) (suc v.swaps) old (new_group v h) attached_old c.ns name c.standing (new_group v h c i)
        ∙ go (strong_provider v c.standing c.ns name) e
      where
        go : (x : Option Provider) → or_else x (weak_provider v c.standing c.ns name) ≡ Some q → without old x ≡ None
        go None y = refl
        go (Some p) y = let z : p ≡ q = cc in ap (λ b. cond b None (Some p)) (ap (λ (a : Provider). holds old a.cell) z ∙ o)

    nobody : is_none (provider_of w c name) ≡ true → IsLost v side old new c name
    nobody e = record { provider = had.0; had = had.1; gone = go (holds old had.0.cell) refl; left = weak.0; none = strong.1; none_weakly = subst (λ (cells : List Cell). nearest_provider sight name cells ≡ None) (sym new_are) weak.1 }
      where
        both : (strong_provider w c.standing c.ns name ≡ None) × (weak_provider w c.standing c.ns name ≡ None)
        both = or_else_parts (strong_provider w c.standing c.ns name) (weak_provider w c.standing c.ns name) (none_is (provider_of w c name) e)

        strong : (strong_provider side c.standing c.ns name ≡ None) × (first_provider sight name new ≡ None)
        strong = or_else_parts (strong_provider side c.standing c.ns name) (first_provider sight name new) (sym strong_found ∙ both.0)

        weak : (weak_provider side c.standing c.ns name ≡ None) × (nearest_provider sight name reached.1.new ≡ None)
        weak = weak_none side w grows c.ns there name c.standing both.1

        go : (b : Bool) → holds old had.0.cell ≡ b → b ≡ true
        go true o = refl
        go false o =
            let still : provider_of side c name ≡ Some had.0 = other_provider v (named v h) (suc v.swaps) old (new_group v h) attached_old c.ns name c.standing (new_group v h c i) (Some had.0) had.1
            (λ p q. let s : had.0 ≡ p = cc in subst (λ (x : Provider). holds old x.cell ≡ false) s o) in
            let z : None ≡ Some had.0 = sym (ap₂ (λ (a b : Option Provider). or_else a b) strong.0 weak.0) ∙ still in cc

    pub lost_exactly : (is_none (provider_of w c name) ≡ true) ↔ IsLost v side old new c name
    lost_exactly = (
      nobody,
      λ l. ap is_none (ap₂ (λ (a b : Option Provider). or_else a b)
          (strong_found ∙ ap₂ (λ (a b : Option Provider). or_else a b) (strong_gone l.provider l.had l.gone) l.none)
          (weak_none_still side w grows c.ns there name c.standing l.left (subst (λ (cells : List Cell). nearest_provider sight name cells ≡ None) new_are l.none_weakly))),
    )
