-- What an accepted clone comes to: copies of the cells in the new namespace, and nothing else.
use Rattle.std.proofs.Common.{◌≡◌, refl, sym, ◌∙◌, ap, subst, arith, ℕ, ◌<◌, false, List, ◌++◌, map, length}
use Rattle.std.specs.List.{list_all}
use Rattle.std.proofs.lemmas.Bool.{and_parts, false_from_ne_true, lt-ltb}
use Rattle.std.proofs.lemmas.List.{length-map, map-append}
use Rattle.cell_num.specs.Lists.{holds, numbered, In}
use Rattle.cell_world.specs.World.{World, Cell}
use Rattle.cell_world.specs.Answer.{Done}
use Rattle.cell_world.specs.Names.{chain}
use Rattle.cell_world.specs.Gather.{Source, fresh_cells}
use Rattle.cell_world.specs.Linked.Relink.{relink}
use Rattle.cell_world.specs.Change.{Change, Made, Plan}
use Rattle.cell_world.specs.Commands.Asked.{cells_in}
use Rattle.cell_world.specs.Coherent.{AreSound, IsCoherent, begins_with_k, is_sound_parent}
use Rattle.cell_lemmas.specs.Grown.{HasAttached}
use Rattle.cell_lemmas.proofs.Holding.KeptPaths.{holds-In}
use Rattle.cell_lemmas.proofs.Naming.Appended.{ok_same}
use Rattle.cell_lemmas.proofs.Naming.Chains.{Lower, lower_parents}
use Rattle.cell_lemmas.proofs.Naming.Renamed.{bare, In-bare}
use Rattle.cell_lemmas.proofs.Naming.Spaces.{chain_stays}
use Rattle.cell_lemmas.proofs.Placement.PlacedAll.{Placed, all_placed}
use Rattle.cell_lemmas.proofs.Placement.Places.{Spaced}
use Rattle.cell_lemmas.proofs.Placement.Ready.{append_same}
use Rattle.cell_change_law.specs.Cloned.{HasCloned}
use Rattle.cell_change_law.proofs.Added.{adding_attached}
use Rattle.cell_change_law.proofs.Asking.{base_coherent, clone_base, clone_change, clone_copies, clone_gathered, clone_sound, copied_all, new_are}
use Rattle.cell_change_law.proofs.Copied.{copies_length, copy-In}
use Rattle.cell_change_law.proofs.Ending.{no_restart, no_routines, without_none}
use Rattle.cell_change_law.proofs.Siblings.{chain_below}
use Rattle.cell_change_law.proofs.Steps.{Changed, Planned, changed, planned}
use Rattle.cell_isolation_laws.specs.Copies.{IsCopy}

pub lower_in : (w : World) → IsCoherent w → Lower w.namespaces
lower_in w h = lower_parents w.namespaces (and_parts (begins_with_k w.namespaces) (list_all is_sound_parent (numbered w.namespaces)) h.ready.spaces).1

module _ (sources : List Source) (w : World) (h : IsCoherent w) (name sibling : List ℕ) (d : Done) (k : HasCloned sources w name sibling d) where
  abbrev base : World
  base = clone_base sources w h sibling k.may

  abbrev copies : List Cell
  copies = clone_copies sources w h sibling k.may

  abbrev change : Change
  change = clone_change sources w h sibling k.may

  pub y : Changed sources base change k.made
  y = changed sources base change k.made k.making

  pub x : Planned sources base change y.plan
  x = planned sources base change y.plan y.planned

  abbrev bare_world : World
  bare_world = clone_gathered sources w h sibling k.may

  gathered_is : bare_world ≡ x.gathered
  gathered_is = (copied_all sources w h sibling k.may x.gathered x.gathering).is

  same_fresh : fresh_cells w.next_cell x.gathered ≡ copies
  same_fresh = subst (λ (u : World). fresh_cells w.next_cell u ≡ copies) gathered_is (new_are sources w h sibling k.may x.gathered x.gathering)

  rest : Placed x.gathered x.world
  rest = all_placed x.gathered (fresh_cells w.next_cell x.gathered) x.world (subst Spaced gathered_is (record { in_space = (base_coherent sources w h sibling k.may).ready.in_space; apart = (base_coherent sources w h sibling k.may).ready.apart })) x.placing

  -- placing leaves all but places
  bare_same : map bare x.world.cells ≡ map bare (w.cells ++ copies)
  bare_same = rest.cells ∙ ap (λ (u : World). map bare u.cells) (sym gathered_is)

  pub fresh_is : fresh_cells w.next_cell x.world ≡ k.made.fresh
  fresh_is = ap (λ (p : Plan). p.fresh) x.is ∙ ap (λ (m : Made). m.fresh) y.is

  module _ (sound : AreSound sources) where
    pub behind : HasAttached base x.world (fresh_cells w.next_cell x.world)
    behind = adding_attached sources sound base (base_coherent sources w h sibling k.may) change (clone_sound sources w h sibling k.may) refl x.gathered x.gathering x.world x.placing

    same_bare : map bare (fresh_cells w.next_cell x.world) ≡ map bare copies
    same_bare = append_same (map bare w.cells) (map bare (fresh_cells w.next_cell x.world)) (map bare copies)
        (sym (map-append bare w.cells (fresh_cells w.next_cell x.world)) ∙ (ap (map bare) (sym behind.cells) ∙ (bare_same ∙ map-append bare w.cells copies)))

    -- each new cell is a copy of a cell of the namespace
    pub copied_of : (c : Cell) → In c k.made.fresh → (o : Cell) × In o (cells_in w k.ns) × IsCopy (length w.namespaces) o c
    copied_of c i =
        let p = In-bare c (fresh_cells w.next_cell x.world) copies same_bare (subst (In c) (sym fresh_is) i) in
        let z = copy-In (cells_in w k.ns) w.next_cell (length w.namespaces) p.0 p.1 in (
          z.1,
          z.2,
          record {
            space = ap (λ (q : Cell). q.ns) p.2 ∙ ap (λ (q : Cell). q.ns) z.3;
            stem = ap (λ (q : Cell). q.stem) p.2 ∙ ap (λ (q : Cell). q.stem) z.3;
            file = ap (λ (q : Cell). q.file) p.2 ∙ ap (λ (q : Cell). q.file) z.3;
            object = ap (λ (q : Cell). q.object) p.2 ∙ ap (λ (q : Cell). q.object) z.3;
            aliases = ap (λ (q : Cell). q.aliases) p.2 ∙ ap (λ (q : Cell). q.aliases) z.3;
          },
        )

    pub as_many : length k.made.fresh ≡ length (cells_in w k.ns)
    as_many = omega (arith, ap (λ (cs : List Cell). length cs) fresh_is, length-map (fresh_cells w.next_cell x.world) bare, length-map copies bare, ap (λ (cs : List Cell). length cs) same_bare, copies_length (cells_in w k.ns) w.next_cell (length w.namespaces))

    pub copies_stand : (c : Cell) → In c k.made.fresh → c.ns ≡ length w.namespaces
    copies_stand c i = (copied_of c i).2.space

    -- no chain that was there goes through the new namespace
    pub hidden_from : (ns : ℕ) → ns < length w.namespaces → (c : Cell) → In c k.made.fresh → holds (chain base.namespaces ns) c.ns ≡ false
    hidden_from ns there c i = false_from_ne_true (holds (chain base.namespaces ns) c.ns) (λ o.
        let stays : chain base.namespaces ns ≡ chain w.namespaces ns = chain_stays w h.ready.spaces sibling k.parent ns (lt-ltb ns (length w.namespaces) there) in
        let low = chain_below w.namespaces (lower_in w h) ns c.ns (subst (In c.ns) stays (holds-In (chain base.namespaces ns) c.ns o)) in
        omega (arith, there, copies_stand c i, low))

  -- the last step links
  pub made_is : k.made.world ≡ relink x.world
  made_is =
      let last : y.last ≡ y.plan.linked = ok_same y.last y.plan.linked (sym y.run ∙ no_restart sources base change y.plan y.plan.linked refl y.planned (no_routines sources base change y.plan refl y.planned)) in
      ap (λ (m : Made). m.world) (sym y.is) ∙ (without_none y.last ∙ (last ∙ ap (λ (p : Plan). p.linked) (sym x.is)))
