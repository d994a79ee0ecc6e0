-- Attached cells that follow leave the cells before them supplied.
use Rattle.std.proofs.Common.{◌≡◌, refl, sym, ap, subst, ℕ, inl, inr, true, cond, ◌&&◌, List, [], ◌∷◌, map, length, Option, Some, None}
use Rattle.std.specs.Prelude.{is_some, is_none, nat_lt}
use Rattle.std.specs.List.{list_all}
use Rattle.cell_num.specs.Lists.{first, In}
use Rattle.cell_world.specs.World.{World, Cell}
use Rattle.cell_world.specs.Names.{Provider, provider_of, needs_of}
use Rattle.cell_world.specs.Gather.{Need, first_lack}
use Rattle.cell_world.specs.Coherent.{is_known_cell, is_supplied}
use Rattle.std.specs.Prelude.{filter}
use Rattle.cell_num.proofs.Elements.{Has, all-In, In-all, some_has, or_else_parts}
use Rattle.cell_lemmas.proofs.Naming.Known.{known_parts}
use Rattle.cell_lemmas.proofs.Naming.Attach.{Grows, provider_grown}

module _ (w w' : World) (g : Grows w w') (known : list_all (is_known_cell w) w.cells ≡ true) (supplied : list_all (is_supplied w) w.cells ≡ true) (c : Cell) (here : In c w.cells) where
  needs : list_all (λ name. is_some (provider_of w c name)) (needs_of c.object) ≡ true
  needs = all-In (is_supplied w) w.cells supplied c here

  there : nat_lt c.ns (length w.namespaces) ≡ true
  there = (known_parts w c (all-In (is_known_cell w) w.cells known c here)).ns

  provided_still : (name : List ℕ) → Has (provider_of w c name) → is_some (provider_of w' c name) ≡ true
  provided_still name p = let q : Has (provider_of w' c name) = provider_grown w w' g c.standing c.ns there name p in ap is_some q.1

  pub still_supplied : is_supplied w' c ≡ true
  still_supplied = In-all (λ name. is_some (provider_of w' c name)) (needs_of c.object)
      (λ name k. provided_still name (some_has (provider_of w c name) (all-In (λ name. is_some (provider_of w c name)) (needs_of c.object) needs name k)))

-- where nothing is lacking, each need has a provider
abbrev Lacks : World → Cell → List (List ℕ) → List Need
Lacks w c names = map (λ name. record { cell = c; name = name }) (filter (λ name. is_none (provider_of w c name)) names)

no_lacks : (w : World) (c : Cell) (names : List (List ℕ)) → first (Lacks w c names) ≡ None → list_all (λ name. is_some (provider_of w c name)) names ≡ true
no_lacks w c [] h = refl
no_lacks w c (n ∷ names) h = go (provider_of w c n) h (no_lacks w c names)
  where
    go : (o : Option Provider) → first (map {B = Need} (λ name. record { cell = c; name = name }) (cond (is_none o) (n ∷ filter (λ name. is_none (provider_of w c name)) names) (filter (λ name. is_none (provider_of w c name)) names))) ≡ None
        → (first (Lacks w c names) ≡ None → list_all (λ name. is_some (provider_of w c name)) names ≡ true)
        → (is_some o && list_all (λ name. is_some (provider_of w c name)) names) ≡ true
    go None k f = cc
    go (Some p) k f = f k

pub none_lacking : (w : World) (cells : List Cell) → first_lack w cells ≡ None → (c : Cell) → In c cells → list_all (λ name. is_some (provider_of w c name)) (needs_of c.object) ≡ true
none_lacking w [] h c k = absurd k
none_lacking w (d ∷ cells) h c (inl e) = subst (λ (x : Cell). list_all (λ name. is_some (provider_of w x name)) (needs_of x.object) ≡ true) (sym e) (no_lacks w d (needs_of d.object) (or_else_parts _ _ h).0)
none_lacking w (d ∷ cells) h c (inr k) = none_lacking w cells (or_else_parts _ _ h).1 c k
