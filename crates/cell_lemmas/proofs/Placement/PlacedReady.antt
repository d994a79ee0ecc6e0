-- Once new cells have their places the machine can be linked, and is ready for it where all fits.
use Rattle.std.proofs.Common.{◌≡◌, ◌<◌, refl, sym, ◌∙◌, ap, subst, arith, ℕ, ◌⊎◌, inl, inr, true, false, List, ◌++◌, map, None, Ok}
use Rattle.std.specs.Prelude.{filter, flat_map, nat_lt, nat_le}
use Rattle.std.specs.List.{list_all}
use Rattle.std.proofs.lemmas.Bool.{ltb-true, leb-true, cases_Bool}
use Rattle.std.proofs.lemmas.List.Elements.{filter-append}
use Rattle.cell_world.specs.World.{World, Cell, is_attached}
use Rattle.cell_world.specs.Placed.Place.{place_all}
use Rattle.cell_world.specs.Gather.{first_lack, fresh_cells}
use Rattle.cell_world.specs.Linked.Fit.{first_misfit}
use Rattle.cell_world.specs.Coherent.{IsReady, is_known_cell, is_supplied, is_fitting}
use Rattle.cell_lemmas.specs.Linkable.{IsLinkable}
use Rattle.cell_num.specs.Lists.{In}
use Rattle.cell_num.proofs.Elements.{all-In, In-right, filter_all, filter_none}
use Rattle.cell_lemmas.proofs.Naming.Known.{known_parts, object_sound}
use Rattle.cell_lemmas.proofs.Naming.Gathered.{Ranks}
use Rattle.cell_lemmas.proofs.Placement.Places.{Spaced}
use Rattle.cell_lemmas.proofs.Naming.Renamed.{bare, all_bare}
use Rattle.cell_lemmas.proofs.Placement.PlacedAll.{Placed, all_placed}
use Rattle.cell_lemmas.proofs.Placement.NewPlaced.{Adds, AllPlaced, new_placed, shapes_of}
use Rattle.cell_lemmas.proofs.Placement.Ready.{grown, linkable_after, ready_after, IsBase, append_same}
use Rattle.cell_lemmas.proofs.Naming.Attach.{Grows}
use Rattle.std.proofs.lemmas.List.{map-append}
use Rattle.cell_world.specs.Names.{chain}

pub ready_spaced : (w : World) → IsReady w → Spaced w
ready_spaced w r = record { in_space = r.in_space; apart = r.apart }

pub ready_ranks : (w : World) → IsReady w → Ranks w
ready_ranks w r =
    record { names = r.names; own_names = r.own_names; order = r.cell_order; known = r.cells; objects = r.objects; few = r.few_cells; last = r.cell_numbers }

module _ (v : World) (base : IsBase v) (new : List Cell) (next : ℕ) where
  abbrev gathered : World
  gathered = grown v (v.cells ++ new) next v.regions

  old_number : (c : Cell) → In c v.cells → nat_le v.next_cell c.id.0 ≡ false
  old_number c k = go (cases_Bool (nat_le v.next_cell c.id.0))
    where
      below : nat_lt c.id.0 v.next_cell ≡ true
      below = (known_parts v c (all-In (is_known_cell v) v.cells base.known c k)).number

      go : (nat_le v.next_cell c.id.0 ≡ true) ⊎ (nat_le v.next_cell c.id.0 ≡ false) → nat_le v.next_cell c.id.0 ≡ false
      go (inl t) = absurd (omega (arith, leb-true v.next_cell c.id.0 t, ltb-true c.id.0 v.next_cell below))
      go (inr f) = f

  -- the cells that are there since v are the new ones
  pub fresh_is : list_all (λ c. nat_le v.next_cell c.id.0) new ≡ true → fresh_cells v.next_cell gathered ≡ new
  fresh_is fresh =
      filter-append (λ c. nat_le v.next_cell c.id.0) v.cells new
      ∙ (ap (λ (cs : List Cell). cs ++ filter (λ c. nat_le v.next_cell c.id.0) new) (filter_none (λ c. nat_le v.next_cell c.id.0) v.cells old_number)
      ∙ filter_all (λ c. nat_le v.next_cell c.id.0) new (all-In (λ c. nat_le v.next_cell c.id.0) new fresh))

  module _ (w : World) (ranks : Ranks gathered) (attached : list_all (λ c. is_attached c.standing) new ≡ true) (fresh : list_all (λ c. nat_le v.next_cell c.id.0) new ≡ true) (lacks : first_lack gathered new ≡ None)
      (h : place_all gathered new ≡ Ok w) where
    spaced : Spaced gathered
    spaced = record { in_space = base.in_space; apart = base.apart }

    rest : Placed gathered w
    rest = all_placed gathered new w spaced h

    all : AllPlaced gathered v.cells w
    all = new_placed new v.cells gathered w (λ c k. object_sound gathered ranks.objects c (In-right v.cells new c k)) refl ranks.order spaced h

    is : grown v (v.cells ++ all.new) next w.regions ≡ w
    is = sym (ap (λ (u : World). record u { cells = w.cells; regions = w.regions }) rest.rest ∙ ap (λ (cs : List Cell). grown v cs next w.regions) all.cells)

    adds : Adds v (grown v (v.cells ++ all.new) next w.regions) (flat_map shapes_of all.new)
    adds = record { shapes = all.adds.shapes; apart = all.adds.apart; stay = all.adds.stay }

    new_same : map bare all.new ≡ map bare new
    new_same =
        append_same (map bare v.cells) (map bare all.new) (map bare new)
        (sym (map-append bare v.cells all.new) ∙ (ap (map bare) (sym all.cells) ∙ (rest.cells ∙ map-append bare v.cells new)))

    pub placed_grows : Grows v w
    placed_grows = record {
      spaces = λ ns k. ap (λ (u : World). chain u.namespaces ns) rest.rest;
      new = all.new;
      cells = all.cells;
      attached = all_bare (λ c. is_attached c.standing) (λ c. refl) all.new new new_same attached;
    }

    module _ (old_supplied : (c : Cell) → In c v.cells → is_supplied w c ≡ true) where
      supplied_there : (c : Cell) → In c v.cells → is_supplied (grown v (v.cells ++ all.new) next w.regions) c ≡ true
      supplied_there c k = subst (λ (u : World). is_supplied u c ≡ true) (sym is) (old_supplied c k)

      -- placed, the new cells leave the machine such that it can be linked
      pub placed_linkable : IsLinkable w
      placed_linkable =
          subst IsLinkable is
          (linkable_after v base new all.new next w.regions ranks attached fresh lacks (subst Spaced (sym is) rest.spaced)
          (ap (map bare) (sym all.cells) ∙ rest.cells) all.placed adds supplied_there)

      -- and ready for it, where each entry fits
      pub placed_ready : v.swaps < next → ((c : Cell) → In c v.cells → is_fitting w c ≡ true) → first_misfit w (fresh_cells v.next_cell w) ≡ None → IsReady w
      placed_ready swaps old_fitting fit =
          subst IsReady is
          (ready_after v base new all.new next w.regions ranks attached fresh lacks (subst Spaced (sym is) rest.spaced)
          (ap (map bare) (sym all.cells) ∙ rest.cells) all.placed adds supplied_there swaps
          (λ c k. subst (λ (u : World). is_fitting u c ≡ true) (sym is) (old_fitting c k))
          (subst (λ (u : World). first_misfit u (fresh_cells v.next_cell u) ≡ None) (sym is) fit))
